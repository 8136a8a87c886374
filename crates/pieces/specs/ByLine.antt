-- What becomes of each line of a hunk that a change list of c against its parent p cuts. Assumes nothing.
use Rattle.std.specs.Prelude.{◌≡◌, ℕ, ◌+◌, ◌-◌, ◌<◌, ◌≤◌, false, List, [], ◌∷◌, Some, None, Option}
use Rattle.std.specs.List.{AllByRecursion}
use Rattle.change.specs.declared.change.Change.{Change}
use Rattle.change.specs.Lists.{new_total, Valid}
use Rattle.change.specs.Places.{kept}
use Rattle.hunk.specs.declared.source.Source.{Source}
use Rattle.hunk.specs.Hunks.{Piece, same_source, start_in, names}
use Rattle.pieces.specs.Pieces.{pieces}

-- the asked ranges follow each other from one line up to another, without a gap or an overlap, each of a line or more
abbrev pub Follow : ℕ → ℕ → List Piece → Type 0
Follow from to [] = from ≡ to
Follow from to (g ∷ gs) = (g.asked ≡ from) × (0 < g.size) × Follow (from + g.size) to gs

module _ (c p : Source) (cs : List Change) (h : Piece) (x : ℕ) where
  -- the line i of the piece g, which is the line x + j of c: where c keeps it, it goes to p at its place, unless the hunk
  -- names p already, and c is named no more; where c does not keep it, it stays with c, at its own place, and
  -- is not given to p
  abbrev pub Goes : Piece → ℕ → ℕ → Option ℕ → Type 0
  Goes g i j (Some m) = (start_in c g.suspects ≡ None) × (names p h ≡ false → (y : ℕ) × (start_in p g.suspects ≡ Some y) × (y + i ≡ m))
  Goes g i j None = (y : ℕ) × (start_in c g.suspects ≡ Some y) × (y + i ≡ x + j) × (names p h ≡ false → start_in p g.suspects ≡ None)

  pub record Line (g : Piece) : Type 0 where
    -- the piece is a part of the hunk
    pub from : h.asked ≤ g.asked
    pub to : g.asked + g.size ≤ h.asked + h.size
    pub goes : (i : ℕ) → i < g.size → Goes g i (g.asked - h.asked + i) (kept cs (x + (g.asked - h.asked + i)))
    -- every other suspect keeps its matching lines, and none is new but p
    pub others : (q : Source) → same_source q c ≡ false → (z : ℕ) → start_in q h.suspects ≡ Some z → start_in q g.suspects ≡ Some (z + (g.asked - h.asked))
    pub none_new : (q : Source) → same_source q c ≡ false → same_source q p ≡ false → start_in q h.suspects ≡ None → start_in q g.suspects ≡ None

-- each hunk that names c, inside the list's file: its pieces cover it, and each line goes where the list says
abbrev pub PiecesByLine : Type 0
PiecesByLine = (c p : Source) (cs : List Change) (h : Piece) (x : ℕ) → same_source c p ≡ false → Valid cs
    → start_in c h.suspects ≡ Some x → 0 < h.size → x + h.size ≤ new_total cs
    → Follow h.asked (h.asked + h.size) (pieces c p cs (h ∷ [])) × AllByRecursion (Line c p cs h x) (pieces c p cs (h ∷ []))
