-- Decimal numbers in a text of bytes. Assumes nothing.
use Rattle.std.specs.Prelude.{ℕ, ◌+◌, ◌-◌, ◌*◌, Bool, cond, ◌&&◌, List, [], ◌∷◌, length, Some, None, Option, nat_le, nat_lt}
use Rattle.std.specs.Borrow.{Bor}

-- a byte from '0' to '9'
abbrev pub digit : ℕ → Bool
digit b = nat_le 48 b && nat_le b 57

-- the digits in front of a text, and what stands behind them
abbrev pub front : List ℕ → List ℕ
front [] = []
front (b ∷ bs) = cond (digit b) (b ∷ front bs) []

abbrev pub back : List ℕ → List ℕ
back [] = []
back (b ∷ bs) = cond (digit b) (back bs) (b ∷ bs)

-- the number that digits write behind a number that was read
abbrev pub value : ℕ → List ℕ → ℕ
value v [] = v
value v (b ∷ bs) = value (v * 10 + (b - 48)) bs

-- the number in front of a text, if there is one and it is at most `most`, and what stands behind it
abbrev pub number_of : ℕ → List ℕ → Option (ℕ × List ℕ)
number_of most s = cond (nat_lt 0 (length (front s)) && nat_le (value 0 (front s)) most) (Some (value 0 (front s), back s)) None

-- what was read, with the rest of the text as bytes
abbrev pub told : {X : Type 0} → Option (X × Bor (List ℕ)) → Option (X × List ℕ)
told None = None
told (Some x) = Some (x.0, x.1.now)
