-- How many pieces the cuts make of a range of lines. Assumes nothing.
use Rattle.std.specs.Prelude.{ℕ, ◌+◌, cond, ◌&&◌, List, [], ◌∷◌, nat_lt}
use Rattle.pieces.specs.declared.count.Counted.{Counted}

-- the different cuts past the last one and before the end e; the cuts rise, and may stand more than once
abbrev pub inside_from : ℕ → ℕ → List ℕ → ℕ
inside_from last e [] = 0
inside_from last e (k ∷ ks) = cond (nat_lt last k && nat_lt k e) (1 + inside_from k e ks) (inside_from last e ks)

-- what is counted once one more cut is passed
abbrev pub counted_at : Counted → ℕ → ℕ → Counted
counted_at s e k = cond (nat_lt s.last k && nat_lt k e) (record { last = k; count = s.count + 1 }) s
