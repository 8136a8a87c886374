-- The number of pieces of a hunk is one more than that of the cuts strictly inside it.
use Rattle.std.proofs.Common.{◌≡◌, ℕ, zero, suc, ◌+◌, ◌-◌, ◌<◌, ◌≤◌, ◌&&◌, ltb, List, [], ◌∷◌, length, get_or, drop, Some, None, sym, refl, ap, ◌∙◌, subst, inl, inr, arith}
use Rattle.std.proofs.lemmas.List.{length-map}
use Rattle.std.proofs.lemmas.Bool.{cases_Bool, cond-false, and_parts, and_right, ltb-true, le-ltb}
use Rattle.change.specs.declared.span.Span.{Span}
use Rattle.change.specs.declared.change.Change.{Change}
use Rattle.change.specs.declared.change.Change.TheVariants.{Unchanged, AddedOrReplaced, Deleted}
use Rattle.change.specs.Lists.{Follows}
use Rattle.change.proofs.Walks.{blank, here}
use Rattle.hunk.specs.declared.source.Source.{Source}
use Rattle.hunk.specs.Hunks.{Piece, start_in, back, on_some}
use Rattle.pieces.specs.Pieces.{cuts, moved, pieces}
use Rattle.pieces.specs.Splits.{split, split_at, Rises}
use Rattle.pieces.specs.declared.count.Counted.{Counted}
use Rattle.pieces.specs.Counts.{inside_from}
use Rattle.pieces.proofs.Splits.{cuts-rise, back_start, pieces-split, pieces-unnamed}

pub split-length : (c : Source) (ks : List ℕ) (h : Piece) (x : ℕ) → start_in c h.suspects ≡ Some x → length (split c ks h) ≡ 1 + inside_from x (x + h.size) ks
split-length c [] h x e = refl
split-length c (k ∷ ks) h x e =
    subst (λ o. length (on_some o (h ∷ []) (split_at c k h (split c ks))) ≡ 1 + inside_from x (x + h.size) (k ∷ ks)) (sym e)
    (elim (cases_Bool (ltb x k && ltb k (x + h.size))) [
      | inl b ↦
          let z = and_parts (ltb x k) (ltb k (x + h.size)) b in
          let l = ltb-true x k z.0 in
          let m = ltb-true k (x + h.size) z.1 in
          let i = split-length c ks (back (k - x) h) (x + (k - x)) (back_start c (k - x) x h e) in
          let p : x + (k - x) ≡ k = omega arith in
          let q : x + (k - x) + (h.size - (k - x)) ≡ x + h.size = omega arith in
          let j : length (split c ks (back (k - x) h)) ≡ 1 + inside_from k (x + h.size) ks = i ∙ cc in
          rw b (omega arith)
      | inr b ↦ rw b (split-length c ks h x e)
    ])

pub pieces-length : (c p : Source) (cs : List Change) (h : Piece) (x : ℕ) → Follows 0 cs → start_in c h.suspects ≡ Some x
    → length (pieces c p cs (h ∷ [])) ≡ 1 + inside_from x (x + h.size) (cuts cs)
pieces-length c p cs h x f e =
    ap length (pieces-split c p cs h f) ∙ length-map (split c (cuts cs) h) (moved c p cs) ∙ split-length c (cuts cs) h x e

-- a hunk that does not name c is one piece
pub pieces-length-unnamed : (c p : Source) (cs : List Change) (h : Piece) → start_in c h.suspects ≡ None → length (pieces c p cs (h ∷ [])) ≡ 1
pieces-length-unnamed c p cs h n = ap length (pieces-unnamed c p cs h n)

-- the pieces in all, of which some are counted and the cuts ks are still to pass
abbrev pub total : Counted → ℕ → List ℕ → ℕ
total s e ks = s.count + inside_from s.last e ks

-- no cut past the end counts
none_inside : (ks : List ℕ) (from last e : ℕ) → Rises from ks → e ≤ from → inside_from last e ks ≡ 0
none_inside [] from last e r l = refl
none_inside (k ∷ ks) from last e r l =
    cond-false _ _ _ (and_right (ltb last k) (ltb k e) (le-ltb k e (omega (arith, r.0)))) ∙ none_inside ks k last e r.1 (omega (arith, r.0))

pub follows-behind : (i at : ℕ) (cs : List Change) → Follows at cs → (from : ℕ) × Follows from (drop i cs)
follows-behind zero at cs f = (at, f)
follows-behind (suc i) at [] f = (at, f)
follows-behind (suc i) at (Unchanged r ∷ cs) f = follows-behind i r.end cs f.2
follows-behind (suc i) at (AddedOrReplaced r k ∷ cs) f = follows-behind i r.end cs f.2
follows-behind (suc i) at (Deleted l k ∷ cs) f = follows-behind i at cs f.2

-- an unchanged range that reaches the end has none behind it that counts
pub none-behind : (cs : List Change) (i : ℕ) (r : Span) (last e : ℕ) → Follows 0 cs → i < length cs → get_or cs i blank ≡ Unchanged r → e ≤ r.end
    → inside_from last e (cuts (drop i cs)) ≡ 0
none-behind cs i r last e f l g m =
    let d = here cs i (Unchanged r) l g in
    let b = follows-behind i 0 cs f in
    let w : Follows b.0 (Unchanged r ∷ drop (i + 1) cs) = subst (Follows b.0) d b.1 in
    ap (λ k. inside_from last e (cuts k)) d ∙ none_inside (cuts (drop (i + 1) cs)) r.end last e (cuts-rise (drop (i + 1) cs) r.end w.2) m
