-- How a line of text writes a change. Assumes nothing.
use Rattle.std.specs.Prelude.{◌≡◌, ℕ, ◌<◌, ◌≤◌, Bool, true, ◌&&◌, List, [], ◌∷◌, ◌++◌, length, Some, codes, Option}
use Rattle.change.specs.declared.change.Change.{Change}
use Rattle.change.specs.declared.change.Change.TheVariants.{Unchanged, AddedOrReplaced, Deleted}
use Rattle.text.specs.Decimal.{digit, value}

-- the greatest number that a line may write
abbrev pub greatest : ℕ
greatest = 4294967295

abbrev pub digits : List ℕ → Bool
digits [] = true
digits (b ∷ bs) = digit b && digits bs

-- one or more decimal digits that write the number n
pub record Number (ds : List ℕ) (n : ℕ) : Type 0 where
  pub some : 0 < length ds
  pub decimal : digits ds ≡ true
  pub is : value 0 ds ≡ n
  pub fits : n ≤ greatest

-- `U a..b`, `A a..b/n` and `D a/n`
abbrev pub Writes : List ℕ → Change → Type 0
Writes line (Unchanged r) =
    (a : List ℕ) × (b : List ℕ) × (line ≡ codes "U " ++ (a ++ (codes ".." ++ b))) × Number a r.start × Number b r.end
Writes line (AddedOrReplaced r k) =
    (a : List ℕ) × (b : List ℕ) × (d : List ℕ) × (line ≡ codes "A " ++ (a ++ (codes ".." ++ (b ++ (codes "/" ++ d)))))
    × Number a r.start × Number b r.end × Number d k
Writes line (Deleted l k) =
    (a : List ℕ) × (d : List ℕ) × (line ≡ codes "D " ++ (a ++ (codes "/" ++ d))) × Number a l × Number d k

-- what is read of a line: the change that it writes, and none exactly where it writes none
abbrev pub Reads : List ℕ → Option Change → Type 0
Reads line r = (c : Change) → (r ≡ Some c → Writes line c) × (Writes line c → r ≡ Some c)
