-- Where a line of the commit's file stands in the parent, if the list keeps it. Assumes nothing.
use Rattle.std.specs.Prelude.{◌≡◌, ℕ, ◌+◌, ◌-◌, ◌<◌, Bool, false, cond, ◌&&◌, ◌||◌, List, [], ◌∷◌, Some, None, Ok, Err, Option, Result, nat_le, nat_lt}
use Rattle.change.specs.declared.change.Change.{Change}
use Rattle.change.specs.declared.change.Change.TheVariants.{Unchanged, AddedOrReplaced, Deleted}
use Rattle.change.specs.declared.list.Totals.{Totals}
use Rattle.change.specs.declared.list.BadList.{BadList}
use Rattle.change.specs.Lists.{lines, new_total, old_total, checked}

-- the line n is in an unchanged range
abbrev pub unchanged : List Change → ℕ → Bool
unchanged [] n = false
unchanged (Unchanged r ∷ cs) n = (nat_le r.start n && nat_lt n r.end) || unchanged cs n
unchanged (AddedOrReplaced r k ∷ cs) n = unchanged cs n
unchanged (Deleted l k ∷ cs) n = unchanged cs n

-- the lines of the added or replaced ranges that end at or before n
abbrev pub added : List Change → ℕ → ℕ
added [] n = 0
added (Unchanged r ∷ cs) n = added cs n
added (AddedOrReplaced r k ∷ cs) n = cond (nat_le r.end n) (lines r) 0 + added cs n
added (Deleted l k ∷ cs) n = added cs n

-- the lines that those ranges deleted, and each deletion whose line is at most n
abbrev pub deleted : List Change → ℕ → ℕ
deleted [] n = 0
deleted (Unchanged r ∷ cs) n = deleted cs n
deleted (AddedOrReplaced r k ∷ cs) n = cond (nat_le r.end n) k 0 + deleted cs n
deleted (Deleted l k ∷ cs) n = cond (nat_le l n) k 0 + deleted cs n

-- the place of the line n in the parent
abbrev pub kept : List Change → ℕ → Option ℕ
kept cs n = cond (unchanged cs n) (Some (n - added cs n + deleted cs n)) None

-- a walk along the list to the range that has n, with the lines added and deleted on the way
abbrev pub walk : ℕ → ℕ → List Change → ℕ → Option ℕ
walk a d [] n = None
walk a d (Unchanged r ∷ cs) n = cond (nat_lt n r.end) (Some (n - a + d)) (walk a d cs n)
walk a d (AddedOrReplaced r k ∷ cs) n = cond (nat_lt n r.end) None (walk (a + lines r) (d + k) cs n)
walk a d (Deleted l k ∷ cs) n = walk a (d + k) cs n

-- what is answered of a list: of a bad one what the check answers, of a valid one the place
abbrev pub of_valid : {X : Type 0} → Result Totals BadList → X → Result X BadList
of_valid (Ok t) x = Ok x
of_valid (Err b) x = Err b

abbrev pub kept_in : List Change → ℕ → Result (Option ℕ) BadList
kept_in cs n = of_valid (checked cs) (kept cs n)

-- the place p of the line n: the walk finds it, it is a line of the parent, and the line is one of the file's;
-- a later line that is kept has a later place
pub record Placed (cs : List Change) (n : ℕ) (p : Option ℕ) : Type 0 where
  pub walked : p ≡ walk 0 0 cs n
  pub inside : (m : ℕ) → p ≡ Some m → n < new_total cs
  pub below : (m : ℕ) → p ≡ Some m → m < old_total cs
  pub rises : (m n' m' : ℕ) → p ≡ Some m → n < n' → kept cs n' ≡ Some m' → m < m'
