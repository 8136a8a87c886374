-- The pieces of a hunk cover it, and each of its lines goes where the list says.
use Rattle.std.proofs.Common.{◌≡◌, ℕ, ◌+◌, ◌-◌, ◌<◌, ◌≤◌, false, ◌&&◌, ltb, ◌⊎◌, List, [], ◌∷◌, map, Some, None, Option, sym, refl, ap, ◌∙◌, subst, inl, inr, ⊎_elim, arith}
use Rattle.std.specs.List.{AllByRecursion}
use Rattle.std.proofs.ByRecursion.{All-weaker}
use Rattle.std.proofs.lemmas.Bool.{cond_both, and_parts, and_cases, ltb-true, ltb-false}
use Rattle.change.specs.declared.change.Change.{Change}
use Rattle.change.specs.Lists.{new_total, Follows}
use Rattle.change.specs.Places.{kept}
use Rattle.hunk.specs.declared.source.Source.{Source}
use Rattle.hunk.specs.Hunks.{Piece, same_source, start_in, has, front, back, passed, on_some}
use Rattle.pieces.specs.Pieces.{cuts, moved}
use Rattle.pieces.specs.Splits.{split, split_at, Rises}
use Rattle.pieces.specs.ByLine.{Follow, Goes, Line, PiecesByLine}
use Rattle.pieces.proofs.Splits.{ahead, rises-all, cuts-rise, start-later, back_start, back-names, pieces-split}
use Rattle.pieces.proofs.Stretches.{Not-at, kept-along}
use Rattle.pieces.proofs.Suspects.{passed_none, passed-new, passed-named, passed-unnamed, passed-range}

not_named : (o : Option ℕ) → has o ≡ false → o ≡ None
not_named None e = refl
not_named (Some x) e = cc

-- a piece with the range of its hunk
record Same (c p : Source) (cs : List Change) (h : Piece) (x : ℕ) (g : Piece) : Type 0 where
  asked-same : g.asked ≡ h.asked
  size_same : g.size ≡ h.size
  goes : (i : ℕ) → Goes c p cs h x g i i (ahead i (kept cs x))
  others : (q : Source) → same_source q c ≡ false → (z : ℕ) → start_in q h.suspects ≡ Some z → start_in q g.suspects ≡ Some z
  none_new : (q : Source) → same_source q c ≡ false → same_source q p ≡ false → start_in q h.suspects ≡ None → start_in q g.suspects ≡ None

moved_same : (c p : Source) (cs : List Change) (h : Piece) (x : ℕ) → same_source c p ≡ false → start_in c h.suspects ≡ Some x → Same c p cs h x (moved c p cs h)
moved_same c p cs h x n e = subst (λ o. Same c p cs h x (on_some o h (λ x'. on_some (kept cs x') h (λ y. passed c p y h)))) (sym e) (go (kept cs x) refl)
  where
    go : (o : Option ℕ) → kept cs x ≡ o → Same c p cs h x (on_some o h (λ y. passed c p y h))
    go None k = record {
      asked-same = refl;
      size_same = refl;
      goes = λ i. rw k (x, e, refl, not_named (start_in p h.suspects));
      others = λ q m z s. s;
      none_new = λ q m l s. s;
    }
    go (Some y) k = record {
      asked-same = (passed-range c p y h).0;
      size_same = (passed-range c p y h).1;
      goes = λ i. rw k (passed_none c p y h n, λ m. (y, passed-new c p y h x e m, refl));
      others = λ q m z s. passed-named c p y h q z m s;
      none_new = passed-unnamed c p y h;
    }

-- no cut behind the first line, up to the last
abbrev Unbroken : List Change → ℕ → ℕ → Type 0
Unbroken cs x size = (n : ℕ) → x < n → n < x + size → Not-at n (cuts cs)

-- pieces that cover a hunk, each line where it goes
abbrev Covered : Source → Source → List Change → Piece → ℕ → List Piece → Type 0
Covered c p cs h x gs = Follow h.asked (h.asked + h.size) gs × AllByRecursion (Line c p cs h x) gs

module _ (c p : Source) (cs : List Change) (h : Piece) (x : ℕ) where
  -- a hunk with no cut inside is one piece
  same_line : (g : Piece) → Follows 0 cs → x + h.size ≤ new_total cs → Unbroken cs x h.size → Same c p cs h x g → Line c p cs h x g
  same_line g f l u s =
      let a = s.asked-same in
      let b = s.size_same in
      record {
        from = omega arith;
        to = omega arith;
        goes = λ i m.
            let j : i ≡ g.asked - h.asked + i = omega arith in
            let k = kept-along cs x h.size f l u i (omega arith) in
            subst (λ v. Goes c p cs h x g i v (kept cs (x + v))) j (subst (λ o. Goes c p cs h x g i i o) (sym k) (s.goes i));
        others = λ q m z e. s.others q m z e ∙ ap Some (omega arith);
        none_new = s.none_new;
      }

  one_piece : same_source c p ≡ false → Follows 0 cs → start_in c h.suspects ≡ Some x → 0 < h.size → x + h.size ≤ new_total cs → Unbroken cs x h.size
      → Covered c p cs h x (moved c p cs h ∷ [])
  one_piece n f e m l u =
      let s = moved_same c p cs h x n e in
      let b = s.size_same in
      ((s.asked-same, omega arith, omega arith), (same_line (moved c p cs h) f l u s, tt))

  -- what holds of a part, said of the hunk
  line-front : (d : ℕ) → d ≤ h.size → (g : Piece) → Line c p cs (front d h) x g → Line c p cs h x g
  line-front d l g r = record { from = r.from; to = omega (arith, r.to); goes = r.goes; others = r.others; none_new = r.none_new }

  goes_back : (d i j k : ℕ) (g : Piece) (o : Option ℕ) → x + d + j ≡ x + k → Goes c p cs (back d h) (x + d) g i j o → Goes c p cs h x g i k o
  goes_back d i j k g None e r = (r.0, r.1, omega (arith, r.2), λ n. r.3 (back-names p d h ∙ n))
  goes_back d i j k g (Some m) e r = (r.0, λ n. r.1 (back-names p d h ∙ n))

  line-back : (d : ℕ) → d ≤ h.size → (g : Piece) → Line c p cs (back d h) (x + d) g → Line c p cs h x g
  line-back d l g r =
      let b : h.asked + d ≤ g.asked = r.from in
      record {
        from = omega arith;
        to = omega (arith, r.to);
        goes = λ i m.
            let e : x + d + (g.asked - (h.asked + d) + i) ≡ x + (g.asked - h.asked + i) = omega arith in
            goes_back d i _ _ g _ e (subst (λ n. Goes c p cs (back d h) (x + d) g i (g.asked - (h.asked + d) + i) (kept cs n)) e (r.goes i m));
        others = λ q m z e. r.others q m (z + d) (back_start q d z h e) ∙ ap Some (omega arith);
        none_new = λ q m k e. r.none_new q m k (start-later q d h.suspects ∙ ap (ahead d) e);
      }

  -- the piece of the first lines, in front of those of the rest
  join : (d : ℕ) → d ≤ h.size → (g : Piece) (gs : List Piece) → Covered c p cs (front d h) x (g ∷ []) → Covered c p cs (back d h) (x + d) gs → Covered c p cs h x (g ∷ gs)
  join d l g gs a b =
      let e : h.asked + d ≡ h.asked + g.size = sym a.0.2 in
      let k : h.asked + d + (h.size - d) ≡ h.asked + h.size = omega arith in (
        (a.0.0, a.0.1, subst (λ n. Follow n (h.asked + h.size) gs) e (subst (λ n. Follow (h.asked + d) n gs) k b.0)),
        (line-front d l g a.1.0, All-weaker (Line c p cs (back d h) (x + d)) (Line c p cs h x) (line-back d l) gs b.1),
      )

-- along cuts that rise and have every cut of the list that is strictly inside
split-covers : (c p : Source) (cs : List Change) → same_source c p ≡ false → Follows 0 cs → (from : ℕ) (ks : List ℕ) → Rises from ks → (h : Piece) (x : ℕ)
    → start_in c h.suspects ≡ Some x → 0 < h.size → x + h.size ≤ new_total cs
    → ((n : ℕ) → x < n → n < x + h.size → Not-at n ks → Not-at n (cuts cs))
    → Covered c p cs h x (map (moved c p cs) (split c ks h))
split-covers c p cs n f from [] r h x e m l u = one_piece c p cs h x n f e m l (λ i a b. u i a b tt)
split-covers c p cs n f from (k ∷ ks) r h x e m l u =
    subst (λ o. Covered c p cs h x (map (moved c p cs) (on_some o (h ∷ []) (split_at c k h (split c ks))))) (sym e)
    (cond_both (ltb x k && ltb k (x + h.size)) (front (k - x) h ∷ split c ks (back (k - x) h)) (split c ks h) (λ gs. Covered c p cs h x (map (moved c p cs) gs))
    (λ t.
    let z = and_parts (ltb x k) (ltb k (x + h.size)) t in
    let a = ltb-true x k z.0 in
    let b = ltb-true k (x + h.size) z.1 in
    join c p cs h x (k - x) (omega arith) (moved c p cs (front (k - x) h)) (map (moved c p cs) (split c ks (back (k - x) h)))
    (one_piece c p cs (front (k - x) h) x n f e (omega arith) (omega arith)
    (λ i v w. u i v (omega arith) (omega arith, All-weaker (λ j. k ≤ j) (λ j. j ≡ i → ⊥) (λ j y z. omega arith) ks (rises-all k ks r.1))))
    (split-covers c p cs n f k ks r.1 (back (k - x) h) (x + (k - x)) (back_start c (k - x) x h e) (omega arith) (omega arith)
    (λ i v w y. u i (omega arith) (omega arith) (omega arith, y))))
    (λ t.
    let o : (k ≤ x) ⊎ (x + h.size ≤ k) = ⊎_elim (λ y. inl (ltb-false _ _ y)) (λ y. inr (ltb-false _ _ y)) (and_cases _ _ t) in
    split-covers c p cs n f k ks r.1 h x e m l (λ i v w y. u i v w (λ z. ⊎_elim (λ a. omega arith) (λ a. omega arith) o, y))))

pub pieces-by-line : PiecesByLine
pieces-by-line c p cs h x n v e m l =
    subst (Covered c p cs h x) (sym (pieces-split c p cs h v.follows))
    (split-covers c p cs n v.follows 0 (cuts cs) (cuts-rise cs 0 v.follows) h x e m l (λ i a b u. u))
