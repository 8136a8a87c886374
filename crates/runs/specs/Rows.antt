-- The rows of a change list, by its lines: the longest runs of lines of one origin. Assumes nothing.
use Rattle.std.specs.Prelude.{◌≡◌, ℕ, zero, suc, ◌+◌, ◌-◌, ◌<◌, ◌≤◌, Bool, true, false, cond, List, [], ◌∷◌, map, reverse, Some, None, Ok, Err, vec_items, Option, Result, Vec, MatchResult, OnErr, ◌==◌}
use Rattle.std.specs.Option.{option_map}
use Rattle.change.specs.declared.change.Change.{Change}
use Rattle.change.specs.Lists.{new_total, checked}
use Rattle.change.specs.Places.{kept}
use Rattle.runs.specs.declared.row.Origin.{Origin}
use Rattle.runs.specs.declared.row.Origin.TheVariants.{Set, Kept}
use Rattle.runs.specs.declared.row.Row.{Row}
use Rattle.change.specs.declared.list.BadList.{BadList}
use Rattle.change.specs.declared.unmade.Unmade.{Unmade}
use Rattle.change.specs.declared.unmade.Unmade.TheVariants.{Refused, OutOfMemory}

-- lines from `start` up to `end`, and where the first stands in the parent, if they were kept
pub record Run : Type 0 where
  pub start : ℕ
  pub end : ℕ
  pub place : Option ℕ

-- a line at the place p goes on from k lines of which the first is at the place q:
-- none of them was kept, or all were and it stands right behind them
abbrev pub follows : Option ℕ → ℕ → Option ℕ → Bool
follows None k None = true
follows None k (Some p) = false
follows (Some q) k None = false
follows (Some q) k (Some p) = p == q + k

-- the line behind the run, at the place p, goes on from it
abbrev pub goes_on : Run → Option ℕ → Bool
goes_on r p = follows r.place (r.end - r.start) p

-- the runs with the line n, at the place p, behind them, the last run first: it lengthens the last run or begins one
abbrev pub grow : ℕ → Option ℕ → List Run → List Run
grow n p [] = record { start = n; end = suc n; place = p } ∷ []
grow n p (r ∷ rs) = cond (goes_on r p)
    (record { start = r.start; end = suc n; place = r.place } ∷ rs)
    (record { start = n; end = suc n; place = p } ∷ r ∷ rs)

-- the runs of the first n lines, the last run first, where f gives the place of each line
abbrev pub runs_to : (ℕ → Option ℕ) → ℕ → List Run
runs_to f zero = []
runs_to f (suc n) = grow n (f n) (runs_to f n)

-- the rows of a list, in line order
abbrev pub rows_of : List Change → List Run
rows_of cs = reverse (runs_to (kept cs) (new_total cs))

abbrev pub place_of : Origin → Option ℕ
place_of Set = None
place_of (Kept q) = Some q

abbrev pub row_of : Row → Run
row_of r = record { start = r.lines.start; end = r.lines.end; place = place_of r.origin }

-- what is answered of a list: where its check refuses it, that refusal, and else its rows, if there is memory for them
abbrev pub Answered : {Z : Type 0} → List Change → Result (Vec Row Z) (Unmade BadList) → Type 0
Answered cs (Ok v) = MatchResult (checked cs) (λ _. map row_of (vec_items v) ≡ rows_of cs) (λ _. ⊥)
Answered cs (Err (Refused b)) = checked cs ≡ Err b
Answered cs (Err OutOfMemory) = OnErr (checked cs) (⊥)

-- the place of the line n by the run that has it
abbrev pub place_in : Run → ℕ → Option ℕ
place_in r n = option_map (λ q. q + (n - r.start)) r.place

-- the run does not go on in the first of those behind it
abbrev pub Parted : Run → List Run → Type 0
Parted r [] = Unit {0}
Parted r (s ∷ rs) = goes_on r s.place ≡ false

-- the runs cover the lines from `from` up to `to`: each begins where the one before it ends and has a line or more,
-- each of its lines has the place that the run says, and the next run does not go on from it
abbrev pub Cover : (ℕ → Option ℕ) → ℕ → ℕ → List Run → Type 0
Cover f from to [] = from ≡ to
Cover f from to (r ∷ rs) =
    (r.start ≡ from) × (from < r.end) × ((n : ℕ) → from ≤ n → n < r.end → f n ≡ place_in r n) × Parted r rs × Cover f r.end to rs

-- the rows are all lines of the file, in order
abbrev pub ByLine : {Z : Type 0} → List Change → Vec Row Z → Type 0
ByLine cs v = Cover (kept cs) 0 (new_total cs) (map row_of (vec_items v))
