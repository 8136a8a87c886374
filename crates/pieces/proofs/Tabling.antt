-- The pieces of a table of rows, row by row.
use Rattle.std.proofs.Common.{◌≡◌, ℕ, ◌+◌, ◌-◌, ◌<◌, ◌≤◌, false, ltb, List, [], ◌∷◌, ◌++◌, map, length, get_or, take, drop, Some, None, Option, sym, refl, ap, ◌∙◌, subst, inl, inr, arith}
use borrow.Rule.Slice.PartMut.{put_mid}
use Rattle.std.proofs.lemmas.List.{length-append, length-drop, take_rest, append_assoc}
use Rattle.std.proofs.lemmas.Bool.{cases_Bool, ltb-false}
use Rattle.std.specs.Option.{option_map}
use Rattle.change.specs.declared.span.Span.{Span}
use Rattle.change.specs.declared.change.Change.{Change}
use Rattle.change.specs.Lists.{Follows, new_total}
use Rattle.hunk.specs.declared.source.Source.{Source}
use Rattle.hunk.specs.Hunks.{Piece, start_in, range_in, span_of, on_some}
use Rattle.pieces.specs.Counts.{inside_from}
use Rattle.pieces.specs.Pieces.{cuts, cut_at_all, moved, pieces}
use Rattle.pieces.specs.Process.{Inside, hunks_of, outside, first_outside}
use Rattle.pieces.specs.Tables.{Filled}
use Rattle.pieces.proofs.Along.{at_row}
use Rattle.pieces.proofs.Filling.{fill-tail}
use Rattle.pieces.proofs.Counting.{pieces-length, pieces-length-unnamed}
use Rattle.pieces.proofs.Splits.{pieces-append}

pub pieces_none : (c p : Source) (cs : List Change) → pieces c p cs [] ≡ []
pieces_none c p cs = ap (map (moved c p cs)) (none (cuts cs))
  where
    none : (ks : List ℕ) → cut_at_all c ks [] ≡ []
    none [] = refl
    none (k ∷ ks) = none ks

pub pieces-row : (c p : Source) (cs : List Change) (o : Option Piece) (os : List (Option Piece))
    → pieces c p cs (hunks_of (o ∷ os)) ≡ pieces c p cs (hunks_of (o ∷ [])) ++ pieces c p cs (hunks_of os)
pieces-row c p cs None os = sym (ap (λ l. l ++ pieces c p cs (hunks_of os)) (pieces_none c p cs))
pieces-row c p cs (Some h) os = pieces-append c p cs (h ∷ []) (hunks_of os)

-- how many pieces a hunk makes, by its range in c
pub count-unnamed : (c p : Source) (cs : List Change) (h : Piece) → range_in c h ≡ None → length (pieces c p cs (h ∷ [])) ≡ 1
count-unnamed c p cs h e = go (start_in c h.suspects) refl e
  where
    go : (s : Option ℕ) → start_in c h.suspects ≡ s → option_map (span_of h.size) s ≡ None → length (pieces c p cs (h ∷ [])) ≡ 1
    go None q n = pieces-length-unnamed c p cs h q
    go (Some x) q n = absurd cc

pub count-named : (c p : Source) (cs : List Change) (h : Piece) (r : Span) → Follows 0 cs → range_in c h ≡ Some r
    → length (pieces c p cs (h ∷ [])) ≡ 1 + inside_from r.start r.end (cuts cs)
count-named c p cs h r f e = go (start_in c h.suspects) refl e
  where
    go : (s : Option ℕ) → start_in c h.suspects ≡ s → option_map (span_of h.size) s ≡ Some r → length (pieces c p cs (h ∷ [])) ≡ 1 + inside_from r.start r.end (cuts cs)
    go None q n = absurd cc
    go (Some x) q n =
        let z : span_of h.size x ≡ r = cc in
        pieces-length c p cs h x f q ∙ ap (λ (v : Span). 1 + inside_from v.start v.end (cuts cs)) z

-- what is left to count, one row on
pub count-row-on : (c p : Source) (cs : List Change) (o : Option Piece) (os : List (Option Piece))
    → length (pieces c p cs (hunks_of (o ∷ os))) ≡ length (pieces c p cs (hunks_of (o ∷ []))) + length (pieces c p cs (hunks_of os))
count-row-on c p cs o os = ap length (pieces-row c p cs o os) ∙ length-append (pieces c p cs (hunks_of (o ∷ []))) (pieces c p cs (hunks_of os))

-- a hunk at hand, where none is outside
pub none-outside : (c : Source) (total i : ℕ) (o : Option Piece) (os : List (Option Piece)) → first_outside c total i (o ∷ os) ≡ None
    → (outside c total o ≡ false) × (first_outside c total (i + 1) os ≡ None)
none-outside c total i o os e =
    elim (cases_Bool (outside c total o)) [
      | inl b ↦ let z : Some i ≡ None = rw b at e in absurd cc
      | inr b ↦ (b, rw b at e)
    ]

pub inside-row : (c : Source) (total : ℕ) (h : Piece) → outside c total (Some h) ≡ false → Inside c total h
inside-row c total h e x s = ltb-false total (x + h.size) (subst (λ v. on_some v false (λ x. ltb total (x + h.size)) ≡ false) s e)

-- on the way through the rows of a table: these pieces are written, and the rows left make the others
pub record Along {R : Type 0} (means : R → Piece) (exact : R → Type 0) (entry : List R) (c p : Source) (cs : List Change) (all rest : List (Option Piece)) (i : ℕ)
    (out : List R) (used : ℕ) : Type 0 where
  pub ready : List Piece
  pub used-is : used ≡ length ready
  pub filled : Filled means exact entry ready out
  pub whole : ready ++ pieces c p cs (hunks_of rest) ≡ pieces c p cs (hunks_of all)
  pub within : first_outside c (new_total cs) i rest ≡ None
  pub room : length (pieces c p cs (hunks_of all)) ≤ length entry
  pub low : used ≤ length out

module _ {R : Type 0} (means : R → Piece) (exact : R → Type 0) (entry : List R) (c p : Source) (cs : List Change) (all os : List (Option Piece)) (i : ℕ) (out : List R) (used : ℕ) where
  pub along-room : (o : Option Piece) → Along means exact entry c p cs all (o ∷ os) i out used → used + length (pieces c p cs (hunks_of (o ∷ []))) ≤ length out
  along-room o a =
      omega (arith, ap length a.whole, length-append a.ready (pieces c p cs (hunks_of (o ∷ os))), count-row-on c p cs o os, a.used-is, a.room, a.filled.long)

  pub along-row : (o : Option Piece) (new : List R) (n : ℕ) → (a : Along means exact entry c p cs all (o ∷ os) i out used) → n ≡ length (pieces c p cs (hunks_of (o ∷ [])))
      → Filled means exact (take (length out - used) (drop used out)) (pieces c p cs (hunks_of (o ∷ []))) new
      → Along means exact entry c p cs all os (i + 1) (put_mid used (length out - used) out new) (used + n)
  along-row o new n a e w =
      let ps = pieces c p cs (hunks_of (o ∷ [])) in
      let r = along-room o a in
      let l : length ps ≤ length new = omega (arith, r, w.long, ap length (take_rest out used), length-drop used out) in
      record {
        ready = a.ready ++ ps;
        used-is = omega (arith, a.used-is, e, length-append a.ready ps);
        filled = fill-tail means exact entry out new a.ready ps used a.used-is (omega (arith, r)) a.filled w l;
        whole = append_assoc a.ready ps (pieces c p cs (hunks_of os)) ∙ sym (ap (λ l. a.ready ++ l) (pieces-row c p cs o os)) ∙ a.whole;
        within = (none-outside c (new_total cs) i o os a.within).1;
        room = a.room;
        low = omega (arith, r, e, a.filled.long, (fill-tail means exact entry out new a.ready ps used a.used-is (omega (arith, r)) a.filled w l).long);
      }

-- at a row of the table, which is read before those behind it
pub along-here : {R : Type 0} (means : R → Piece) (exact : R → Type 0) (entry : List R) (c p : Source) (cs : List Change) (reads : R → Option Piece) (rows : List R) (i : ℕ) (r : R)
    (out : List R) (used : ℕ) → i < length rows → r ≡ get_or rows i r → Along means exact entry c p cs (map reads rows) (map reads (drop i rows)) i out used
    → Along means exact entry c p cs (map reads rows) (reads r ∷ map reads (drop (i + 1) rows)) i out used
along-here means exact entry c p cs reads rows i r out used l e a =
    subst (λ v. Along means exact entry c p cs (map reads rows) v i out used) (at_row reads (λ v. v) rows i r (reads r) l e refl) a
