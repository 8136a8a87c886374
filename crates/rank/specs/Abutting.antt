-- Ranges of lines: their rank, and those that abut. Assumes nothing.
use Rattle.std.specs.Prelude.{max, Bool, ◌&&◌, ◌==◌, nat_le, nat_lt}
use Rattle.std.proofs.Common.{lt_of_lt_of_le}
use Rattle.std.proofs.Math.Nat.{le-max_left}
use Rattle.change.specs.Lists.{limit}
use Rattle.change.specs.declared.line_range.LineRange.{LineRange}

-- a starts after b does
abbrev pub starts_after : LineRange → LineRange → Bool
starts_after a b = nat_lt b.start a.start

-- a ends where b starts, and b ends within the file limit
abbrev pub abuts : LineRange → LineRange → Bool
abuts a b = a.end == b.start && nat_le b.end limit

-- from the start of a to the later end
abbrev pub spanning : LineRange → LineRange → LineRange
spanning a b = record { start = a.start; end = max a.end b.end; lines = lt_of_lt_of_le a.lines (le-max_left a.end b.end) }
