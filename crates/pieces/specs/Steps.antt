-- The walk of one hunk along a change list: what one step makes of the hunk at hand and the change at hand. Assumes nothing.
use Rattle.std.specs.Prelude.{ℕ, Bool, cond, ◌&&◌, List, [], ◌∷◌, ◌++◌, Some, None, Option, nat_le, nat_lt}
use Rattle.std.specs.Option.{unwrap_or}
use Rattle.change.specs.declared.span.Span.{Span}
use Rattle.change.specs.declared.change.Change.{Change}
use Rattle.change.specs.declared.change.Change.TheVariants.{Unchanged, AddedOrReplaced, Deleted}
use Rattle.change.specs.Lists.{lines}
use Rattle.hunk.specs.declared.source.Source.{Source}
use Rattle.hunk.specs.Hunks.{Piece, range_in, cut, on_some}
use Rattle.hunk.specs.Rows.{passed_of}
use Rattle.pieces.specs.declared.offset.Offset.{Offset}
use Rattle.pieces.specs.Offsets.{plus, minus, shifted}

-- what a step leaves: the hunk and the change that are still at hand, the pieces that are done, and the offset
pub record Told : Type 0 where
  pub piece : Option Piece
  pub change : Option Change
  pub out : List Piece
  pub offset : Offset

abbrev pub told : Option Piece → Option Change → List Piece → Offset → Told
told h c ps o = record { piece = h; change = c; out = ps; offset = o }

-- the range has the line; the range t ends in r
abbrev pub holds : Span → ℕ → Bool
holds r n = nat_le r.start n && nat_lt n r.end

abbrev pub ends_in : Span → Span → Bool
ends_in t r = nat_lt r.start t.end && nat_le t.end r.end

abbrev pub passing : Offset → Span → ℕ → Offset
passing o r k = minus (plus o (lines r)) k

module _ (c p : Source) where
  -- the piece with the parent in the place of c, at the offset; a piece that can't go there stays
  unfoldable pub moves : Offset → Piece → Piece
  moves o h = on_some (range_in c h) h (λ r. on_some (shifted o r.start) h (λ y. unwrap_or (passed_of c p y h) h))

  abbrev pub at_unchanged : Offset → Span → Option Span → Piece → Told
  at_unchanged o u None h = told None (Some (Unchanged u)) (h ∷ []) o
  at_unchanged o u (Some r) h =
      cond (ends_in u r) (told (Some h) None [] o)
      (cond (holds r u.start) (told None (Some (Unchanged u)) (moves o h ∷ []) o)
      (cond (nat_le u.end r.start) (told (Some h) None [] o) (told None (Some (Unchanged u)) (moves o h ∷ []) o)))

  -- the hunk cut where an added range ends: what is before that is done, and what is behind it goes on
  abbrev pub ending : Offset → List Piece → List Piece → Told
  ending o ps [] = told None None ps o
  ending o ps (x ∷ []) = told None None (ps ++ x ∷ []) o
  ending o ps (x ∷ y ∷ zs) = told (Some y) None (ps ++ x ∷ []) o

  -- the hunk cut where a change begins: what is before that moves
  abbrev pub starting : Offset → Piece → List Piece → (List Piece → Piece → Told) → Told
  starting o h [] rest = rest [] h
  starting o h (x ∷ []) rest = rest [] x
  starting o h (x ∷ y ∷ zs) rest = rest (moves o x ∷ []) y

  abbrev pub at_added : Offset → Span → ℕ → Option Span → Piece → Told
  at_added o a k None h = told None (Some (AddedOrReplaced a k)) (h ∷ []) o
  at_added o a k (Some r) h =
      cond (holds r a.start)
      (cond (ends_in a r)
      (starting o h (cut c a.start h) (λ ps g. ending (passing o a k) ps (cut c a.end g)))
      (starting o h (cut c a.start h) (λ ps g. told None (Some (AddedOrReplaced a k)) (ps ++ g ∷ []) o)))
      (cond (ends_in a r) (ending (passing o a k) [] (cut c a.end h))
      (cond (nat_le a.end r.start) (told (Some h) None [] (passing o a k))
      (cond (nat_le r.end a.start) (told None (Some (AddedOrReplaced a k)) (moves o h ∷ []) o)
      (told None (Some (AddedOrReplaced a k)) (h ∷ []) o))))

  abbrev pub at_deleted : Offset → ℕ → ℕ → Option Span → Piece → Told
  at_deleted o l k None h = told None (Some (Deleted l k)) (h ∷ []) o
  at_deleted o l k (Some r) h =
      cond (nat_lt l r.start) (told (Some h) None [] (minus o k))
      (cond (nat_lt l r.end) (starting o h (cut c l h) (λ ps g. told (Some g) None ps (minus o k)))
      (told None (Some (Deleted l k)) (moves o h ∷ []) o))

  -- one step, for the hunk that is at hand, or for none
  abbrev pub step_of : Offset → Option Piece → Option Change → Told
  step_of o (Some h) (Some (Unchanged u)) = at_unchanged o u (range_in c h) h
  step_of o (Some h) (Some (AddedOrReplaced a k)) = at_added o a k (range_in c h) h
  step_of o (Some h) (Some (Deleted l k)) = at_deleted o l k (range_in c h) h
  step_of o (Some h) None = told None None (moves o h ∷ []) o
  step_of o None (Some (Unchanged u)) = told None None [] o
  step_of o None (Some (AddedOrReplaced a k)) = told None None [] (passing o a k)
  step_of o None (Some (Deleted l k)) = told None None [] (minus o k)
  step_of o None None = told None None [] o

  -- the walk along the list until the hunk is done with
  abbrev pub go_on : Option Piece → (Piece → List Piece) → List Piece
  go_on None rest = []
  go_on (Some h) rest = rest h

  abbrev pub walk_of : Offset → Piece → List Change → List Piece
  walk_of o h [] = (step_of o (Some h) None).out
  walk_of o h (x ∷ xs) =
      (step_of o (Some h) (Some x)).out ++ go_on (step_of o (Some h) (Some x)).piece (λ g. walk_of (step_of o (Some h) (Some x)).offset g xs)
