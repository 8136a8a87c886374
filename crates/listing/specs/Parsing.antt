-- The reading of a line from left to right. Assumes nothing.
use Rattle.std.specs.Prelude.{ℕ, Bool, true, false, cond, ◌&&◌, List, [], ◌∷◌, length, drop, Some, None, codes, Option, ◌==◌}
use Rattle.std.specs.Borrow.{Bor}
use Rattle.change.specs.declared.span.Span.{Span}
use Rattle.change.specs.declared.change.Change.{Change}
use Rattle.change.specs.declared.change.Change.TheVariants.{Unchanged, AddedOrReplaced, Deleted}
use Rattle.text.specs.Decimal.{number_of}
use Rattle.listing.specs.Format.{greatest}

abbrev pub and_then : {X Y : Type 0} → Option X → (X → Option Y) → Option Y
and_then None f = None
and_then (Some x) f = f x

-- the text begins with these bytes; what stands behind them
abbrev pub begins : List ℕ → List ℕ → Bool
begins [] xs = true
begins (p ∷ ps) [] = false
begins (p ∷ ps) (x ∷ xs) = x == p && begins ps xs

abbrev pub skip : List ℕ → List ℕ → Option (List ℕ)
skip ps xs = cond (begins ps xs) (Some (drop (length ps) xs)) None

-- nothing may stand behind it
abbrev pub whole : {X : Type 0} → X → List ℕ → Option X
whole x [] = Some x
whole x (b ∷ bs) = None

abbrev pub span_of : List ℕ → Option (Span × List ℕ)
span_of s =
    and_then (number_of greatest s) (λ a. and_then (skip (codes "..") a.1) (λ rest. and_then (number_of greatest rest) (λ b.
    Some (record { start = a.0; end = b.0 }, b.1))))

abbrev pub count_of : List ℕ → Option ℕ
count_of s = and_then (skip (codes "/") s) (λ rest. and_then (number_of greatest rest) (λ n. whole n.0 n.1))

abbrev pub unchanged_of : List ℕ → Option Change
unchanged_of s = and_then (span_of s) (λ r. whole (Unchanged r.0) r.1)

abbrev pub added_of : List ℕ → Option Change
added_of s = and_then (span_of s) (λ r. and_then (count_of r.1) (λ n. Some (AddedOrReplaced r.0 n)))

abbrev pub deleted_of : List ℕ → Option Change
deleted_of s = and_then (number_of greatest s) (λ l. and_then (count_of l.1) (λ n. Some (Deleted l.0 n)))

abbrev pub change_of : List ℕ → Option Change
change_of line =
    cond (begins (codes "U ") line) (unchanged_of (drop 2 line))
    (cond (begins (codes "A ") line) (added_of (drop 2 line)) (cond (begins (codes "D ") line) (deleted_of (drop 2 line)) None))

-- the rest of a text as bytes
abbrev pub bytes : Option (Bor (List ℕ)) → Option (List ℕ)
bytes None = None
bytes (Some r) = Some r.now
