-- One hunk split along cuts from left to right: the order of a walk along a change list. Assumes nothing.
use Rattle.std.specs.Prelude.{ℕ, ◌+◌, ◌-◌, ◌≤◌, cond, ◌&&◌, List, [], ◌∷◌, nat_lt}
use Rattle.hunk.specs.declared.source.Source.{Source}
use Rattle.hunk.specs.Hunks.{Piece, start_in, front, back, on_some}

-- the hunk, whose range in c begins at x, at a cut: what is before it is a piece, and the rest goes on
abbrev pub split_at : Source → ℕ → Piece → (Piece → List Piece) → ℕ → List Piece
split_at c k h rest x = cond (nat_lt x k && nat_lt k (x + h.size)) (front (k - x) h ∷ rest (back (k - x) h)) (rest h)

abbrev pub split : Source → List ℕ → Piece → List Piece
split c [] h = h ∷ []
split c (k ∷ ks) h = on_some (start_in c h.suspects) (h ∷ []) (split_at c k h (split c ks))

-- each number is at or past the one before it, and the first at or past `from`
abbrev pub Rises : ℕ → List ℕ → Type 0
Rises from [] = Unit {0}
Rises from (k ∷ ks) = (from ≤ k) × Rises k ks
