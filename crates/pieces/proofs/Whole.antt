-- A hunk whose lines the list keeps side by side moves whole.
use Rattle.std.proofs.Common.{◌≡◌, ℕ, ◌+◌, ◌<◌, ◌≤◌, true, false, not, ◌&&◌, leb, List, [], ◌∷◌, IfSome, Some, None, Option, unwrap_or, sym, refl, ap, ◌∙◌, subst, inl, inr, arith}
use Rattle.std.proofs.lemmas.Bool.{cases_Bool, leb-true, le-leb, and_from, not_from_false}
use Rattle.std.specs.Option.{option_map}
use Rattle.change.specs.declared.span.Span.{Span}
use Rattle.change.specs.declared.change.Change.{Change}
use Rattle.change.specs.declared.change.Change.TheVariants.{Unchanged}
use Rattle.change.specs.Lists.{limit, lines, new_total, Valid}
use Rattle.hunk.specs.declared.source.Source.{Source}
use Rattle.hunk.specs.Hunks.{Piece, same_source, start_in, has, names, range_in, span_of, passed}
use Rattle.hunk.specs.Rows.{passed_of}
use Rattle.pieces.specs.declared.offset.Offset.{Offset}
use Rattle.pieces.specs.declared.offset.Offset.TheVariants.{Added}
use Rattle.pieces.specs.Offsets.{shifted, placed, shifted_range}
use Rattle.pieces.specs.Pieces.{pieces}
use Rattle.pieces.specs.Process.{Inside, outside}
use Rattle.pieces.specs.Skips.{Skipped}
use Rattle.pieces.specs.Steps.{moves, walk_of}
use Rattle.pieces.specs.Tables.{Renames}
use Rattle.pieces.proofs.Shifts.{moves-by}
use Rattle.pieces.proofs.Skipping.{begins-at, done-unchanged}
use Rattle.pieces.proofs.Tabling.{inside-row}
use Rattle.pieces.proofs.Writing.{walk-all}

placed_at : (size : ℕ) (v : Option ℕ) (x : Span) → placed size v ≡ Some x → (y : ℕ) × (v ≡ Some y) × (x ≡ span_of size y) × (y + size ≤ limit)
placed_at size None x q = absurd cc
placed_at size (Some y) x q =
    elim (cases_Bool (leb (y + size) limit)) [
      | inl b ↦ let s : Some (span_of size y) ≡ Some x = rw b at q in let e : x ≡ span_of size y = cc in (y, refl, e, leb-true _ _ b)
      | inr b ↦ let s : None ≡ Some x = rw b at q in absurd cc
    ]

unnamed : (c : Source) (h : Piece) → range_in c h ≡ None → names c h ≡ false
unnamed c h e = go (start_in c h.suspects) e
  where
    go : (s : Option ℕ) → option_map (span_of h.size) s ≡ None → has s ≡ false
    go None q = refl
    go (Some x) q = absurd cc

pub passes : (c p : Source) (x : Span) (h : Piece) → Renames c p x h → passed_of c p x.start h ≡ Some (passed c p x.start h)
passes c p x h k =
    let t : (names c h && not (same_source c p) && leb (x.start + h.size) limit) ≡ true =
    and_from (names c h && not (same_source c p)) (leb (x.start + h.size) limit)
    (and_from (names c h) (not (same_source c p)) k.named (not_from_false (same_source c p) k.differ)) (le-leb _ _ k.fits) in
    rw t

module _ (c p : Source) (cs : List Change) (h : Piece) (r x : Span) (o : Offset) (rest more : List Change) (u : Span) where
  pub whole-moves : same_source c p ≡ false → Valid cs → 0 < h.size → Inside c (new_total cs) h → range_in c h ≡ Some r → range_in p h ≡ None
      → Skipped r cs rest (Added 0) o → rest ≡ Unchanged u ∷ more → r.end < u.end → shifted_range o r ≡ Some x
      → Renames c p x h × (pieces c p cs (h ∷ []) ≡ passed c p x.start h ∷ [])
  whole-moves ne v z in-file e n s d l q =
      let b = begins-at c h r e in
      let a = placed_at (lines r) (shifted o r.start) x q in
      let y = a.0 in
      let start : r.start ≡ b.0 = ap (λ (w : Span). w.start) b.2 in
      let end : r.end ≡ b.0 + h.size = ap (λ (w : Span). w.end) b.2 in
      let size : lines r ≡ h.size = omega arith in
      let at : x.start ≡ y = ap (λ (w : Span). w.start) a.2 in
      let fits : x.start + h.size ≤ limit = omega (arith, a.3) in
      let k : Renames c p x h =
      record {
        named = ap has b.1;
        new = unnamed p h n;
        differ = ne;
        level = a.2 ∙ ap (λ w. span_of w y) size ∙ ap (span_of h.size) (sym at);
        fits = fits;
      } in
      let m : moves c p o h ≡ passed c p x.start h =
      sym (moves-by c p o h r (Some x.start) e (a.1 ∙ ap Some (sym at))) ∙ ap (λ w. unwrap_or w h) (passes c p x h k) in
      (k, sym (walk-all c p cs h ne v z in-file) ∙ s.same c p h e ∙ ap (walk_of c p o h) d ∙ done-unchanged c p o h r more e u l ∙ ap (λ g. g ∷ []) m)

-- the same of what a row is read as, by what the offset makes of its range
pub whole-told : (c p : Source) (cs : List Change) (r : Span) (o : Offset) (rest more : List Change) (u : Span) (f : Option Piece) (v : Option Span) → same_source c p ≡ false → Valid cs
    → outside c (new_total cs) f ≡ false → ((h : Piece) → f ≡ Some h → (Some r ≡ range_in c h) × (0 < h.size)) → ((h : Piece) → f ≡ Some h → (None ≡ range_in p h) × (0 < h.size))
    → Skipped r cs rest (Added 0) o → rest ≡ Unchanged u ∷ more → r.end < u.end → v ≡ shifted_range o r
    → IfSome v (λ x. (h : Piece) → f ≡ Some h → Renames c p x h × (pieces c p cs (h ∷ []) ≡ passed c p x.start h ∷ []))
whole-told c p cs r o rest more u f None ne v out a b s d l q = tt
whole-told c p cs r o rest more u f (Some x) ne v out a b s d l q = λ h k.
    whole-moves c p cs h r x o rest more u ne v (a h k).1 (inside-row c (new_total cs) h (subst (λ w. outside c (new_total cs) w ≡ false) k out)) (sym (a h k).0) (sym (b h k).0) s d l (sym q)
