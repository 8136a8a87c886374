-- Worked cases of hunks that are cut: commit 1 against its parent, commit 2. Assumes nothing.
use Rattle.std.specs.Prelude.{◌≡◌, ℕ, ◌-◌, List, [], ◌∷◌}
use Rattle.change.specs.declared.span.Span.{Span}
use Rattle.change.specs.declared.change.Change.{Change}
use Rattle.change.specs.declared.change.Change.TheVariants.{Unchanged, AddedOrReplaced, Deleted}
use Rattle.hunk.specs.declared.source.Source.{Source}
use Rattle.hunk.specs.Hunks.{Piece}
use Rattle.pieces.specs.Pieces.{pieces}

abbrev pub one : Source
one = record { commit = 1 }

abbrev pub two : Source
two = record { commit = 2 }

abbrev pub upto : ℕ → ℕ → Span
upto a b = record { start = a; end = b }

-- the lines from a up to b of one commit, which are the asked lines from `asked` on
abbrev pub asks : ℕ → Source → ℕ → ℕ → Piece
asks asked c a b = record { asked = asked; size = b - a; suspects = record { source = c; start = a } ∷ [] }

-- lines 4 and 5 replace one line of the parent
abbrev pub replacing : List Change
replacing = Unchanged (upto 0 4) ∷ AddedOrReplaced (upto 4 6) 1 ∷ Unchanged (upto 6 10) ∷ []

-- two lines of the parent, before line 3, are gone
abbrev pub deleting : List Change
deleting = Unchanged (upto 0 3) ∷ Deleted 3 2 ∷ Unchanged (upto 3 5) ∷ []

-- the first four lines are new
abbrev pub adding : List Change
adding = AddedOrReplaced (upto 0 4) 0 ∷ Unchanged (upto 4 8) ∷ []

-- a piece before a replacement is not moved by it, and a deletion at the end of a hunk is not charged to the hunk
abbrev pub CutsHold : Type 0
CutsHold =
    (pieces one two replacing (asks 0 one 0 10 ∷ []) ≡ asks 0 two 0 4 ∷ asks 4 one 4 6 ∷ asks 6 two 5 9 ∷ [])
    × (pieces one two deleting (asks 0 one 0 5 ∷ []) ≡ asks 0 two 0 3 ∷ asks 3 two 5 7 ∷ [])
    × (pieces one two deleting (asks 0 one 0 3 ∷ []) ≡ asks 0 two 0 3 ∷ [])
    × (pieces one two adding (asks 4 one 4 8 ∷ []) ≡ asks 4 two 0 4 ∷ [])
