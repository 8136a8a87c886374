-- The tokens of a case, read from left to right: each but the first stands behind a space. Assumes nothing.
use Rattle.std.specs.Prelude.{ℕ, Bool, true, false, cond, ◌&&◌, List, [], ◌∷◌, length, drop, Some, None, codes, Option, ◌==◌, nat_lt, slice_index}
use Rattle.std.specs.Borrow.{Bor}
use Rattle.text.specs.Decimal.{digit, number_of}

abbrev pub and_then : {X Y : Type 0} → Option X → (X → Option Y) → Option Y
and_then None f = None
and_then (Some x) f = f x

-- the text begins with these bytes; what stands behind them
abbrev pub begins : List ℕ → List ℕ → Bool
begins [] xs = true
begins (p ∷ ps) [] = false
begins (p ∷ ps) (x ∷ xs) = x == p && begins ps xs

abbrev pub skip : List ℕ → List ℕ → Option (List ℕ)
skip ps xs = cond (begins ps xs) (Some (drop (length ps) xs)) None

-- the rest of a text as bytes
abbrev pub bytes : Option (Bor (List ℕ)) → Option (List ℕ)
bytes None = None
bytes (Some r) = Some r.now

-- a zero in front of another digit
abbrev pub padded_in : List ℕ → Bool
padded_in s = nat_lt 1 (length s) && (slice_index s 0 == 48 && digit (slice_index s 1))

-- a number in front of a text, with no needless zero and below 2 ^ 32; and one behind a space
abbrev pub plain_of : List ℕ → Option (ℕ × List ℕ)
plain_of s = cond (padded_in s) None (number_of 4294967295 s)

abbrev pub next_of : List ℕ → Option (ℕ × List ℕ)
next_of s = and_then (skip (codes " ") s) plain_of

-- a letter or a semicolon behind a space
abbrev pub mark_of : ℕ → List ℕ → Option (List ℕ)
mark_of b s = skip (32 ∷ b ∷ []) s

-- how many items a part has: behind a semicolon and its letter
abbrev pub size_of : ℕ → List ℕ → Option (ℕ × List ℕ)
size_of b s = and_then (mark_of 59 s) (λ t. and_then (mark_of b t) next_of)
