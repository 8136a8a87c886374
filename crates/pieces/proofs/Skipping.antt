-- Changes that leave the hunk at hand as it is, one by one.
use Rattle.std.proofs.Common.{◌≡◌, ℕ, ◌+◌, ◌<◌, List, [], ◌∷◌, Some, None, Option, refl, ap, ◌∙◌, arith}
use Rattle.std.specs.Option.{option_map}
use Rattle.change.specs.declared.span.Span.{Span}
use Rattle.change.specs.declared.change.Change.{Change}
use Rattle.change.specs.declared.change.Change.TheVariants.{Unchanged, AddedOrReplaced, Deleted}
use Rattle.hunk.specs.declared.source.Source.{Source}
use Rattle.hunk.specs.Hunks.{Piece, start_in, range_in, span_of}
use Rattle.pieces.specs.declared.offset.Offset.{Offset}
use Rattle.pieces.specs.Steps.{at_unchanged, moves, walk_of}
use Rattle.pieces.specs.Skips.{GoesOn}
use Rattle.pieces.proofs.Stepping.{after, u-done}

-- where the range of a hunk in c begins
pub begins-at : (c : Source) (h : Piece) (r : Span) → range_in c h ≡ Some r → (x : ℕ) × (start_in c h.suspects ≡ Some x) × (r ≡ span_of h.size x)
begins-at c h r e = go (start_in c h.suspects) refl e
  where
    go : (s : Option ℕ) → start_in c h.suspects ≡ s → option_map (span_of h.size) s ≡ Some r → (x : ℕ) × (start_in c h.suspects ≡ Some x) × (r ≡ span_of h.size x)
    go None q n = absurd cc
    go (Some x) q n = let z : r ≡ span_of h.size x = cc in (x, q, z)

module _ (c p : Source) (o : Offset) (h : Piece) (r : Span) (xs : List Change) (e : range_in c h ≡ Some r) where
  -- the hunk moves whole
  pub done-unchanged : (u : Span) → r.end < u.end → walk_of c p o h (Unchanged u ∷ xs) ≡ moves c p o h ∷ []
  done-unchanged u l =
      let b = begins-at c h r e in
      let x = b.0 in
      let z : r.end ≡ x + h.size = ap (λ (v : Span). v.end) b.2 in
      ap (λ q. after c p (at_unchanged c p o u q h) xs) (ap (option_map (span_of h.size)) b.1)
      ∙ ap (λ t. after c p t xs) (u-done c p o h x u (omega arith))

-- what is left behind the first of changes that go on
pub goes-on : (x : Change) (xs : List Change) → GoesOn (x ∷ xs) → GoesOn xs
goes-on (Unchanged u) xs f = (u.end, f.1.2)
goes-on (AddedOrReplaced a k) xs f = (a.end, f.1.2)
goes-on (Deleted l k) xs f = (f.0, f.1.2)
