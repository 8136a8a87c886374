-- Ranges as they are laid out by value. Assumes nothing.
use Rattle.std.specs.Prelude.{◌-◌, List, ◌++◌, length, take, replicate}
use Rattle.change.specs.declared.span.Span.{Span}
use Rattle.ranges.specs.declared.clipped.Clipped.{Clipped}
use Rattle.ranges.specs.Spans.{blank}

-- at most 64 ranges, and zeros behind them
abbrev pub laid : List Span → Clipped
laid rs = record { ranges = rs ++ replicate (64 - length rs) blank; count = length rs }

-- those in use
abbrev pub in_use : Clipped → List Span
in_use c = take c.count c.ranges
