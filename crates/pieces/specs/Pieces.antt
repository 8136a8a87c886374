-- The pieces that a change list of c against its parent p makes of hunks. Assumes nothing.
use Rattle.std.specs.Prelude.{ℕ, List, [], ◌∷◌, ◌++◌, map}
use Rattle.change.specs.declared.change.Change.{Change}
use Rattle.change.specs.declared.change.Change.TheVariants.{Unchanged, AddedOrReplaced, Deleted}
use Rattle.change.specs.Places.{kept}
use Rattle.hunk.specs.declared.source.Source.{Source}
use Rattle.hunk.specs.Hunks.{Piece, start_in, passed, cut, on_some}

-- the lines of c at which a hunk is cut, where they are strictly inside it
abbrev pub cuts : List Change → List ℕ
cuts [] = []
cuts (Unchanged r ∷ cs) = cuts cs
cuts (AddedOrReplaced r k ∷ cs) = r.start ∷ r.end ∷ cuts cs
cuts (Deleted l k ∷ cs) = l ∷ cuts cs

-- all hunks cut at one line of c, and at each of several
abbrev pub cut_all : Source → ℕ → List Piece → List Piece
cut_all c k [] = []
cut_all c k (h ∷ hs) = cut c k h ++ cut_all c k hs

abbrev pub cut_at_all : Source → List ℕ → List Piece → List Piece
cut_at_all c [] hs = hs
cut_at_all c (k ∷ ks) hs = cut_at_all c ks (cut_all c k hs)

-- a piece whose lines are kept names the parent, at the place of its first line; any other stays as it is
abbrev pub moved : Source → Source → List Change → Piece → Piece
moved c p cs h = on_some (start_in c h.suspects) h (λ x. on_some (kept cs x) h (λ y. passed c p y h))

-- the pieces of hunks, in the order of the hunks and of their lines
abbrev pub pieces : Source → Source → List Change → List Piece → List Piece
pieces c p cs hs = map (moved c p cs) (cut_at_all c (cuts cs) hs)
