-- Rows of a table, the hunks that they are, and the row that is written of a hunk. Assumes nothing.
use Rattle.std.specs.Prelude.{ℕ, ◌+◌, ◌-◌, min, Bool, true, cond, not, ◌&&◌, List, [], ◌∷◌, ◌++◌, map, length, take, replicate, Some, None, Ok, Err, Option, Result, ◌==◌, nat_le, nat_lt}
use Rattle.std.specs.List.{list_all}
use Rattle.change.specs.declared.span.Span.{Span}
use Rattle.change.specs.Lists.{limit}
use Rattle.hunk.specs.declared.source.Source.{Source}
use Rattle.hunk.specs.declared.suspect.Suspect.{Suspect}
use Rattle.hunk.specs.declared.hunk.UnblamedHunk.{UnblamedHunk}
use Rattle.hunk.specs.declared.row.HunkRow.{HunkRow}
use Rattle.hunk.specs.declared.fault.EmptyRange.{EmptyRange}
use Rattle.hunk.specs.declared.fault.SuspectFault.{SuspectFault}
use Rattle.hunk.specs.declared.fault.SuspectFault.TheVariants.{SameCommit, EmptyRange as PastLimit, SuspectsFull}
use Rattle.hunk.specs.Sound.{blank}
use Rattle.hunk.specs.Hunks.{Named, Piece, same_source, names, named, passed, with_suspects}

-- a hunk, and a row, as a piece
abbrev pub piece_of : UnblamedHunk → Piece
piece_of h = record {
  asked = h.range_in_blamed_file.start;
  size = h.range_in_blamed_file.end - h.range_in_blamed_file.start;
  suspects = map named (take h.count h.suspects);
}

abbrev pub row_piece : HunkRow → Piece
row_piece r = record {
  asked = r.range_in_blamed_file.start;
  size = r.range_in_blamed_file.end - r.range_in_blamed_file.start;
  suspects = map named (take r.count r.suspects);
}

-- a range has this many lines, within the file limit
abbrev pub is_of : ℕ → Span → Bool
is_of size r = r.end == r.start + size && nat_le r.end limit

abbrev pub fits : ℕ → Suspect → Bool
fits size s = is_of size s.range

abbrev pub differs : Source → Suspect → Bool
differs c s = not (same_source s.source c)

abbrev pub different : List Suspect → Bool
different [] = true
different (s ∷ ss) = list_all (differs s.source) ss && different ss

-- a range of a line or more, within the file limit
abbrev pub sound : Span → Bool
sound r = nat_lt r.start r.end && nat_le r.end limit

-- the row is a hunk
abbrev pub is_hunk : HunkRow → Bool
is_hunk r =
    sound r.range_in_blamed_file && nat_lt 0 r.count && nat_le r.count 8
    && list_all (fits (r.range_in_blamed_file.end - r.range_in_blamed_file.start)) (take r.count r.suspects)
    && different (take r.count r.suspects)

-- the suspects of a row that are in use, at most eight
abbrev pub in_use : HunkRow → List Suspect
in_use r = take (min r.count 8) r.suspects

-- the range of the first suspect that names c
abbrev pub range_at : Source → List Suspect → Option Span
range_at c [] = None
range_at c (s ∷ ss) = cond (same_source s.source c) (Some s.range) (range_at c ss)

-- the row with p, at this range, in the place of c, and zeros behind its suspects
abbrev pub rename_at : Source → Source → Span → Suspect → Suspect
rename_at c p x s = cond (same_source s.source c) (record { source = p; range = x }) s

abbrev pub renamed_row : Source → Source → Span → HunkRow → HunkRow
renamed_row c p x r = record {
  range_in_blamed_file = r.range_in_blamed_file;
  suspects = map (rename_at c p x) (in_use r) ++ replicate (8 - min r.count 8) blank;
  count = r.count;
}

abbrev pub read_row : HunkRow → Option Piece
read_row r = cond (is_hunk r) (Some (row_piece r)) None

-- the row that is written of a piece: its suspects, and zeros behind them
abbrev pub suspect_of : ℕ → Named → Suspect
suspect_of size n = record { source = n.source; range = record { start = n.start; end = n.start + size } }

abbrev pub row_of : Piece → HunkRow
row_of p = record {
  range_in_blamed_file = record { start = p.asked; end = p.asked + p.size };
  suspects = map (suspect_of p.size) p.suspects ++ replicate (8 - length p.suspects) blank;
  count = length p.suspects;
}

-- what making a hunk of a range and a commit answers
abbrev pub made_of : Span → Source → Result Piece EmptyRange
made_of r c = cond (sound r)
    (Ok (record { asked = r.start; size = r.end - r.start; suspects = record { source = c; start = r.start } ∷ [] }))
    (Err (record {}))

-- what adding a suspect answers: the refusals in their order
abbrev pub added_of : Source → ℕ → Piece → Result Piece SuspectFault
added_of c x h =
    cond (names c h) (Err SameCommit)
    (cond (nat_le (x + h.size) limit)
    (cond (nat_lt (length h.suspects) 8) (Ok (with_suspects h (h.suspects ++ record { source = c; start = x } ∷ []))) (Err SuspectsFull))
    (Err PastLimit))

-- what passing answers
abbrev pub passed_of : Source → Source → ℕ → Piece → Option Piece
passed_of c p y h = cond (names c h && not (same_source c p) && nat_le (y + h.size) limit) (Some (passed c p y h)) None

abbrev pub told_of : {E : Type 0} → Result UnblamedHunk E → Result Piece E
told_of (Ok h) = Ok (piece_of h)
told_of (Err e) = Err e
