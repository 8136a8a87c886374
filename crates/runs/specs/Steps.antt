-- One step along a list: the run that a change is, and a run put behind the runs so far. Assumes nothing.
use Rattle.std.specs.Prelude.{◌≡◌, ℕ, cond, List, [], ◌∷◌, Some, None, Option, nat_lt}
use Rattle.change.specs.declared.span.Span.{Span}
use Rattle.change.specs.declared.change.Change.{Change}
use Rattle.change.specs.declared.change.Change.TheVariants.{Unchanged, AddedOrReplaced, Deleted}
use Rattle.runs.specs.Rows.{Run, goes_on}

-- both runs as one
abbrev pub joined : Run → Run → Run
joined l r = record { start = l.start; end = r.end; place = l.place }

-- a run behind the runs, the last run first: it lengthens the last run or stands as one of its own
abbrev pub put : Run → List Run → List Run
put r [] = r ∷ []
put r (l ∷ ls) = cond (goes_on l r.place) (joined l r ∷ ls) (r ∷ l ∷ ls)

-- the last run, if there is one, ends at the line n
abbrev pub Meets : ℕ → List Run → Type 0
Meets n [] = Unit {0}
Meets n (l ∷ ls) = l.end ≡ n

-- the run of a range, if it has a line
abbrev pub range_of : Span → Option ℕ → Option Run
range_of r p = cond (nat_lt r.start r.end) (Some (record { start = r.start; end = r.end; place = p })) None

-- the run that a change is, if it has a line; the parent has `old` lines before it
abbrev pub stretch_of : ℕ → Change → Option Run
stretch_of old (Unchanged r) = range_of r (Some old)
stretch_of old (AddedOrReplaced r k) = range_of r None
stretch_of old (Deleted l k) = None
