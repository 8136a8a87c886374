-- Recorded change lists: the lines that each change has in the commit's file and in the parent's,
-- when a list is valid, and what its check answers. Assumes nothing.
use Rattle.std.specs.Prelude.{◌≡◌, ℕ, ◌+◌, ◌-◌, ◌<◌, ◌≤◌, Bool, cond, ◌&&◌, List, [], ◌∷◌, length, take, Some, None, Ok, Err, Option, Result, ◌==◌, nat_le, nat_lt}
use Rattle.change.specs.declared.span.Span.{Span}
use Rattle.change.specs.declared.change.Change.{Change}
use Rattle.change.specs.declared.change.Change.TheVariants.{Unchanged, AddedOrReplaced, Deleted}
use Rattle.change.specs.declared.list.Totals.{Totals}
use Rattle.change.specs.declared.list.BadList.{BadList}

-- the most lines of a file
abbrev pub limit : ℕ
limit = 16777215

abbrev pub lines : Span → ℕ
lines r = r.end - r.start

-- the lines of a change in the commit's file, and in the parent's
abbrev pub new_lines : Change → ℕ
new_lines (Unchanged r) = lines r
new_lines (AddedOrReplaced r k) = lines r
new_lines (Deleted l k) = 0

abbrev pub old_lines : Change → ℕ
old_lines (Unchanged r) = lines r
old_lines (AddedOrReplaced r k) = k
old_lines (Deleted l k) = k

abbrev pub new_total : List Change → ℕ
new_total [] = 0
new_total (c ∷ cs) = new_lines c + new_total cs

abbrev pub old_total : List Change → ℕ
old_total [] = 0
old_total (c ∷ cs) = old_lines c + old_total cs

-- the list goes on from the line `at`: each range begins at the end reached so far and has a line or more;
-- a deletion stands at the end reached so far, and deletes a line or more
abbrev pub Follows : ℕ → List Change → Type 0
Follows at [] = Unit {0}
Follows at (Unchanged r ∷ cs) = (r.start ≡ at) × (at < r.end) × Follows r.end cs
Follows at (AddedOrReplaced r k ∷ cs) = (r.start ≡ at) × (at < r.end) × Follows r.end cs
Follows at (Deleted l k ∷ cs) = (l ≡ at) × (0 < k) × Follows at cs

-- a valid list begins at line 0 and follows without a gap, and both its totals are within the file limit
pub record Valid (cs : List Change) : Type 0 where
  pub follows : Follows 0 cs
  pub new_fits : new_total cs ≤ limit
  pub old_fits : old_total cs ≤ limit

-- the check, change by change: whether one may stand where the list has these totals so far
abbrev pub begins : ℕ → Span → Bool
begins at r = r.start == at && nat_lt r.start r.end && nat_le r.end limit

abbrev pub stands : Totals → Change → Bool
stands at (Unchanged r) = begins at.new r && nat_le (at.old + lines r) limit
stands at (AddedOrReplaced r k) = begins at.new r && nat_le (at.old + k) limit
stands at (Deleted l k) = l == at.new && nat_lt 0 k && nat_le (at.old + k) limit

abbrev pub grown : Totals → Change → Totals
grown at c = record { new = at.new + new_lines c; old = at.old + old_lines c }

-- both totals are within the file limit
abbrev pub Within : Totals → Type 0
Within at = (at.new ≤ limit) × (at.old ≤ limit)

abbrev pub step_of : Totals → Change → Option Totals
step_of at c = cond (stands at c) (Some (grown at c)) None

abbrev pub check_from : ℕ → Totals → List Change → Result Totals BadList
check_from i at [] = Ok at
check_from i at (c ∷ cs) = cond (stands at c) (check_from (i + 1) (grown at c) cs) (Err (record { position = i }))

abbrev pub origin : Totals
origin = record { new = 0; old = 0 }

abbrev pub checked : List Change → Result Totals BadList
checked cs = check_from 0 origin cs

-- what the answer says: the list is valid and these are its totals; or the changes before this position
-- are a valid list, and with the one at this position they are not
abbrev pub Judged : List Change → Result Totals BadList → Type 0
Judged cs (Ok t) = Valid cs × (t.new ≡ new_total cs) × (t.old ≡ old_total cs)
Judged cs (Err b) = (b.position < length cs) × Valid (take b.position cs) × (Valid (take (b.position + 1) cs) → ⊥)
