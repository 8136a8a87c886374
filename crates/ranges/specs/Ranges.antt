-- The asked ranges as plain ones, and when they are made. Assumes nothing.
use Rattle.std.specs.Prelude.{◌≡◌, List, Ok, Err, Result}
use Rattle.change.specs.declared.span.Span.{Span}
use Rattle.rank.specs.Tables.{items_of}
use Rattle.ranges.specs.declared.rows.Rows.{Rows}
use Rattle.ranges.specs.declared.blame_ranges.BlameRanges.{BlameRanges}
use Rattle.change.specs.declared.unmade.Unmade.{Unmade}
use Rattle.change.specs.declared.unmade.Unmade.TheVariants.{Refused, OutOfMemory}
use Rattle.ranges.specs.Spans.{spans}

abbrev pub rows_of : Rows → List Span
rows_of r = spans (items_of r.table)

abbrev pub ranges_of : BlameRanges → List Span
ranges_of b = rows_of b.ranges

-- these ranges are made, or refused, unless there is no memory
abbrev pub Made : {E : Type 0} → Result (List Span) E → Result BlameRanges (Unmade E) → Type 0
Made o (Ok b) = o ≡ Ok (ranges_of b)
Made o (Err (Refused e)) = o ≡ Err e
Made o (Err OutOfMemory) = Unit {0}
