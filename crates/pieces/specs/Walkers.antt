-- What a step requeues, as pieces; and by how much changes move an offset. Assumes nothing.
use Rattle.std.specs.Prelude.{ℕ, ◌+◌, List, [], ◌∷◌, Some, None, Option}
use Rattle.change.specs.declared.span.Span.{Span}
use Rattle.change.specs.declared.change.Change.{Change}
use Rattle.change.specs.declared.change.Change.TheVariants.{Unchanged, AddedOrReplaced, Deleted}
use Rattle.change.specs.Lists.{lines}
use Rattle.hunk.specs.Hunks.{Piece}
use Rattle.hunk.specs.Rows.{piece_of}
use Rattle.pieces.specs.declared.walk.Requeued.{Requeued}
use Rattle.pieces.specs.declared.walk.Requeued.TheVariants.{Nothing, One, Two}

abbrev pub pieces_of : Requeued → List Piece
pieces_of Nothing = []
pieces_of (One h) = piece_of h ∷ []
pieces_of (Two h g) = piece_of h ∷ piece_of g ∷ []

-- by how much a change can make an offset grow
abbrev pub weight_of : Span → ℕ → ℕ
weight_of r k = lines r + k

abbrev pub weight : Option Change → ℕ
weight None = 0
weight (Some (Unchanged r)) = 0
weight (Some (AddedOrReplaced r k)) = weight_of r k
weight (Some (Deleted l k)) = k

abbrev pub weights : List Change → ℕ
weights [] = 0
weights (x ∷ xs) = weight (Some x) + weights xs

-- the change at hand, if one is left, and those behind it
abbrev pub head_of : List Change → Option Change
head_of [] = None
head_of (x ∷ xs) = Some x

abbrev pub tail_of : List Change → List Change
tail_of [] = []
tail_of (x ∷ xs) = xs
