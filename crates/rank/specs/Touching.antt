-- Ranges of lines that touch. Assumes nothing.
use Rattle.std.specs.Prelude.{Bool, not, ◌||◌, nat_lt}
use Rattle.change.specs.declared.line_range.LineRange.{LineRange}

-- neither ends before the other begins
abbrev pub touch : LineRange → LineRange → Bool
touch a b = not (nat_lt a.end b.start || nat_lt b.end a.start)
