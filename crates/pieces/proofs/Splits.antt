-- Cutting all hunks at one line after another is splitting each hunk along the cuts.
use Rattle.std.proofs.Common.{◌≡◌, ℕ, ◌+◌, ◌-◌, ◌<◌, ◌≤◌, false, cond, ◌&&◌, ltb, ◌⊎◌, List, [], ◌∷◌, ◌++◌, map, Some, None, Option, sym, refl, ap, ◌∙◌, subst, inl, inr, ⊎_elim, append_assoc, append-nil, arith}
use Rattle.std.specs.List.{AllByRecursion}
use Rattle.std.proofs.lemmas.List.{map-append}
use Rattle.std.proofs.ByRecursion.{All-weaker}
use Rattle.std.proofs.lemmas.Bool.{cases_Bool, cond-false, and_parts, and_left, and_right, ltb-true, le-ltb}
use Rattle.change.specs.declared.change.Change.{Change}
use Rattle.change.specs.declared.change.Change.TheVariants.{Unchanged, AddedOrReplaced, Deleted}
use Rattle.change.specs.Lists.{Follows}
use Rattle.change.specs.Places.{kept}
use Rattle.hunk.specs.declared.source.Source.{Source}
use Rattle.hunk.specs.Hunks.{Named, Piece, same_source, start_in, has, names, later, front, back, passed, cut, cut_at, on_some}
use Rattle.pieces.specs.Pieces.{cuts, cut_all, cut_at_all, moved, pieces}
use Rattle.pieces.specs.Splits.{split, split_at, Rises}

pub rises-from : (a b : ℕ) (ks : List ℕ) → a ≤ b → Rises b ks → Rises a ks
rises-from a b [] l r = tt
rises-from a b (k ∷ ks) l r = (omega (arith, r.0), r.1)

pub rises-all : (a : ℕ) (ks : List ℕ) → Rises a ks → AllByRecursion (λ k. a ≤ k) ks
rises-all a [] r = tt
rises-all a (k ∷ ks) r = (r.0, rises-all a ks (rises-from a k ks r.0 r.1))

-- the cuts of a list that follows rise from where it begins
pub cuts-rise : (cs : List Change) (at : ℕ) → Follows at cs → Rises at (cuts cs)
cuts-rise [] at f = tt
cuts-rise (Unchanged r ∷ cs) at f = rises-from at r.end (cuts cs) (omega (arith, f.1)) (cuts-rise cs r.end f.2)
cuts-rise (AddedOrReplaced r k ∷ cs) at f = (omega (arith, f.0), (omega (arith, f.0, f.1), cuts-rise cs r.end f.2))
cuts-rise (Deleted l k ∷ cs) at f = (omega (arith, f.0), subst (λ i. Rises i (cuts cs)) (sym f.0) (cuts-rise cs at f.2))

-- hunks side by side are cut each on its own
cut_all-append : (c : Source) (k : ℕ) (hs gs : List Piece) → cut_all c k (hs ++ gs) ≡ cut_all c k hs ++ cut_all c k gs
cut_all-append c k [] gs = refl
cut_all-append c k (h ∷ hs) gs =
    ap (λ l. cut c k h ++ l) (cut_all-append c k hs gs) ∙ sym (append_assoc (cut c k h) (cut_all c k hs) (cut_all c k gs))

cuts-append : (c : Source) (ks : List ℕ) (hs gs : List Piece) → cut_at_all c ks (hs ++ gs) ≡ cut_at_all c ks hs ++ cut_at_all c ks gs
cuts-append c [] hs gs = refl
cuts-append c (k ∷ ks) hs gs = ap (cut_at_all c ks) (cut_all-append c k hs gs) ∙ cuts-append c ks (cut_all c k hs) (cut_all c k gs)

pub pieces-append : (c p : Source) (cs : List Change) (hs gs : List Piece) → pieces c p cs (hs ++ gs) ≡ pieces c p cs hs ++ pieces c p cs gs
pieces-append c p cs hs gs =
    ap (map (moved c p cs)) (cuts-append c (cuts cs) hs gs) ∙ map-append (moved c p cs) (cut_at_all c (cuts cs) hs) (cut_at_all c (cuts cs) gs)

-- a hunk with no cut strictly inside, or that does not name c, stays whole
abbrev pub Clear : ℕ → ℕ → ℕ → Type 0
Clear x size k = (k ≤ x) ⊎ (x + size ≤ k)

pub not-inside : (x size k : ℕ) → Clear x size k → (ltb x k && ltb k (x + size)) ≡ false
not-inside x size k o = ⊎_elim (λ l. and_left _ _ (le-ltb _ _ l)) (λ l. and_right _ _ (le-ltb _ _ l)) o

abbrev pub Uncut : Source → Piece → List ℕ → Type 0
Uncut c h ks = (x : ℕ) → start_in c h.suspects ≡ Some x → AllByRecursion (Clear x h.size) ks

passed-by : {B : Type 0} (size k : ℕ) (o : Option ℕ) (a : ℕ → B) (b r : B) → b ≡ r → ((x : ℕ) → o ≡ Some x → Clear x size k)
    → on_some o r (λ x. cond (ltb x k && ltb k (x + size)) (a x) b) ≡ r
passed-by size k None a b r e f = refl
passed-by size k (Some x) a b r e f = cond-false _ _ _ (not-inside x size k (f x refl)) ∙ e

whole : (c : Source) (ks : List ℕ) (h : Piece) → Uncut c h ks → cut_at_all c ks (h ∷ []) ≡ h ∷ []
whole c [] h f = refl
whole c (k ∷ ks) h f =
    let e = passed-by h.size k (start_in c h.suspects) (λ x. front (k - x) h ∷ back (k - x) h ∷ []) (h ∷ []) (h ∷ []) refl (λ x e. (f x e).0) in
    ap (cut_at_all c ks) (append-nil (cut c k h) ∙ e) ∙ whole c ks h (λ x e. (f x e).1)

pub split-whole : (c : Source) (ks : List ℕ) (h : Piece) → Uncut c h ks → split c ks h ≡ h ∷ []
split-whole c [] h f = refl
split-whole c (k ∷ ks) h f =
    passed-by h.size k (start_in c h.suspects) (λ x. front (k - x) h ∷ split c ks (back (k - x) h)) (split c ks h) (h ∷ [])
    (split-whole c ks h (λ x e. (f x e).1)) (λ x e. (f x e).0)

pub unnamed-uncut : (c : Source) (ks : List ℕ) (h : Piece) → start_in c h.suspects ≡ None → Uncut c h ks
unnamed-uncut c ks h n x e = absurd cc

pub pieces-unnamed : (c p : Source) (cs : List Change) (h : Piece) → start_in c h.suspects ≡ None → pieces c p cs (h ∷ []) ≡ h ∷ []
pieces-unnamed c p cs h n =
    ap (map (moved c p cs)) (whole c (cuts cs) h (unnamed-uncut c (cuts cs) h n))
    ∙ ap (λ o. on_some o h (λ x. on_some (kept cs x) h (λ y. passed c p y h)) ∷ []) n

-- a hunk that is cut at k has nothing more to cut before k
front-uncut : (c : Source) (k x : ℕ) (ks : List ℕ) (h : Piece) → start_in c h.suspects ≡ Some x → x < k → Rises k ks → Uncut c (front (k - x) h) ks
front-uncut c k x ks h e l r y s =
    let u : x ≡ y = cc in
    All-weaker (λ i. k ≤ i) (Clear y (k - x)) (λ i m. inr (omega arith)) ks (rises-all k ks r)

splits : (c : Source) (a : ℕ) (ks : List ℕ) → Rises a ks → (h : Piece) → cut_at_all c ks (h ∷ []) ≡ split c ks h
splits c a [] r h = refl
splits c a (k ∷ ks) r h = ap (cut_at_all c ks) (append-nil (cut c k h)) ∙ go (splits c k ks r.1) (start_in c h.suspects) refl
  where
    go : ((g : Piece) → cut_at_all c ks (g ∷ []) ≡ split c ks g) → (o : Option ℕ) → start_in c h.suspects ≡ o
        → cut_at_all c ks (on_some o (h ∷ []) (cut_at k h)) ≡ on_some o (h ∷ []) (split_at c k h (split c ks))
    go ih None e = whole c ks h (unnamed-uncut c ks h e)
    go ih (Some x) e =
        elim (cases_Bool (ltb x k && ltb k (x + h.size))) [
          | inl b ↦
              let w = whole c ks (front (k - x) h) (front-uncut c k x ks h e (ltb-true x k (and_parts (ltb x k) _ b).0) r.1) in
              rw b (
              cuts-append c ks (front (k - x) h ∷ []) (back (k - x) h ∷ []) ∙ ap (λ l. l ++ cut_at_all c ks (back (k - x) h ∷ [])) w
              ∙ ap (λ l. front (k - x) h ∷ l) (ih (back (k - x) h))
              )
          | inr b ↦ rw b (ih h)
        ]

pub pieces-split : (c p : Source) (cs : List Change) (h : Piece) → Follows 0 cs → pieces c p cs (h ∷ []) ≡ map (moved c p cs) (split c (cuts cs) h)
pieces-split c p cs h f = ap (map (moved c p cs)) (splits c 0 (cuts cs) (cuts-rise cs 0 f) h)

-- where the lines behind the first d begin
abbrev pub ahead : ℕ → Option ℕ → Option ℕ
ahead d None = None
ahead d (Some x) = Some (x + d)

pub start-later : (c : Source) (d : ℕ) (ss : List Named) → start_in c (map (later d) ss) ≡ ahead d (start_in c ss)
start-later c d [] = refl
start-later c d (s ∷ ss) =
    elim (cases_Bool (same_source s.source c)) [ inl e ↦ rw e | inr e ↦ rw e (start-later c d ss) ]

pub back_start : (c : Source) (d x : ℕ) (h : Piece) → start_in c h.suspects ≡ Some x → start_in c (back d h).suspects ≡ Some (x + d)
back_start c d x h e = start-later c d h.suspects ∙ ap (ahead d) e

has-ahead : (d : ℕ) (o : Option ℕ) → has (ahead d o) ≡ has o
has-ahead d None = refl
has-ahead d (Some x) = refl

pub back-names : (q : Source) (d : ℕ) (h : Piece) → names q (back d h) ≡ names q h
back-names q d h = ap has (start-later q d h.suspects) ∙ has-ahead d (start_in q h.suspects)
