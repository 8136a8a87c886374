-- How many lines of a list's file were set, and how many kept, line by line. Assumes nothing.
use Rattle.std.specs.Prelude.{ℕ, zero, suc, ◌+◌, cond, List, is_some, Option, Result}
use Rattle.change.specs.declared.change.Change.{Change}
use Rattle.change.specs.declared.list.BadList.{BadList}
use Rattle.change.specs.Lists.{new_total, checked}
use Rattle.change.specs.Places.{kept, of_valid}
use Rattle.runs.specs.declared.count.LineCount.{LineCount}

-- of the first n lines, those that have a place in the parent, and those that have none; f gives the places
abbrev pub kept_to : (ℕ → Option ℕ) → ℕ → ℕ
kept_to f zero = 0
kept_to f (suc n) = cond (is_some (f n)) 1 0 + kept_to f n

abbrev pub set_to : (ℕ → Option ℕ) → ℕ → ℕ
set_to f zero = 0
set_to f (suc n) = cond (is_some (f n)) 0 1 + set_to f n

abbrev pub count_of : List Change → LineCount
count_of cs = record { set = set_to (kept cs) (new_total cs); kept = kept_to (kept cs) (new_total cs) }

abbrev pub count_in : List Change → Result LineCount BadList
count_in cs = of_valid (checked cs) (count_of cs)
