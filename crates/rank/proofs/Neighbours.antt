-- What neighbours that join come to, once they are made one from the first on.
use Rattle.std.proofs.Common.{◌≡◌, Bool, true, false, cond, List, [], ◌∷◌, ◌++◌, sym, refl, ap, ◌∙◌, ⊎_elim}
use Rattle.std.specs.List.{AllByRecursion}
use Rattle.std.proofs.lemmas.Bool.{cond-true, cond-false, cond_both, cases_Bool}
use Rattle.std.proofs.ByRecursion.{All-weaker}
use Rattle.rank.specs.Ranks.{InOrder}
use Rattle.rank.specs.Joins.{from, coalesced, AnyFirst, Stands, Parted}

module _ {X : Type 0} (joins : X → X → Bool) (joined : X → X → X) where
  -- where no two neighbours join, nothing changes
  from-parted : (x : X) (xs : List X) → Stands joins x xs → Parted joins xs → from joins joined x xs ≡ x ∷ xs
  from-parted x [] s p = refl
  from-parted x (y ∷ ys) s p = cond-false (joins x y) _ _ s ∙ ap (λ zs. x ∷ zs) (from-parted y ys p.0 p.1)

  pub settled : (xs : List X) → Parted joins xs → coalesced joins joined xs ≡ xs
  settled [] p = refl
  settled (x ∷ xs) p = from-parted x xs p.0 p.1

  -- what joined the first is what joins the first of the result
  module _ (inward : (a b c : X) → joins a b ≡ true → joins c (joined a b) ≡ joins c a) where
    stands_from : (w x : X) (xs : List X) → joins w x ≡ false → Stands joins w (from joins joined x xs)
    stands_from w x [] h = h
    stands_from w x (y ∷ ys) h =
        cond_both (joins x y) (from joins joined (joined x y) ys) (x ∷ from joins joined y ys) (Stands joins w)
        (λ e. stands_from w (joined x y) ys (inward x y w e ∙ h))
        (λ e. h)

    parted-from : (x : X) (xs : List X) → Parted joins (from joins joined x xs)
    parted-from x [] = (tt, tt)
    parted-from x (y ∷ ys) =
        cond_both (joins x y) (from joins joined (joined x y) ys) (x ∷ from joins joined y ys) (Parted joins)
        (λ e. parted-from (joined x y) ys)
        (λ e. (stands_from x y ys e, parted-from y ys))

    pub parted : (xs : List X) → Parted joins (coalesced joins joined xs)
    parted [] = tt
    parted (x ∷ xs) = parted-from x xs

    module _ (onward : (a b c : X) → joins a b ≡ true → joins (joined a b) c ≡ joins b c) (one-result : (a b c : X) → joins a b ≡ true → joins b c ≡ true → joined (joined a b) c ≡ joined a (joined b c)) where
      -- two that join may be made one before what stands in front of them is
      first-behind : (x a b : X) (back : List X) → joins a b ≡ true → from joins joined x (a ∷ b ∷ back) ≡ from joins joined x (joined a b ∷ back)
      first-behind x a b back e =
          ⊎_elim
          (λ h. cond-true (joins x a) _ _ h ∙ cond-true (joins (joined x a) b) _ _ (onward x a b h ∙ e) ∙ ap (λ z. from joins joined z back) (one-result x a b h e) ∙ sym (cond-true (joins x (joined a b)) _ _ (inward a b x e ∙ h)))
          (λ h. cond-false (joins x a) _ _ h ∙ ap (λ zs. x ∷ zs) (cond-true (joins a b) _ _ e) ∙ sym (cond-false (joins x (joined a b)) _ _ (inward a b x e ∙ h)))
          (cases_Bool (joins x a))

      first-from : (x : X) (front : List X) (a b : X) (back : List X) → joins a b ≡ true → from joins joined x (front ++ a ∷ b ∷ back) ≡ from joins joined x (front ++ joined a b ∷ back)
      first-from x [] a b back e = first-behind x a b back e
      first-from x (y ∷ front) a b back e =
          elim (joins x y) as (λ t. cond t (from joins joined (joined x y) (front ++ a ∷ b ∷ back)) (x ∷ from joins joined y (front ++ a ∷ b ∷ back)) ≡ cond t (from joins joined (joined x y) (front ++ joined a b ∷ back)) (x ∷ from joins joined y (front ++ joined a b ∷ back)))
          [ true ↦ first-from (joined x y) front a b back e | false ↦ ap (λ zs. x ∷ zs) (first-from y front a b back e) ]

      first-coalesced : (front : List X) (a b : X) (back : List X) → joins a b ≡ true → coalesced joins joined (front ++ a ∷ b ∷ back) ≡ coalesced joins joined (front ++ joined a b ∷ back)
      first-coalesced [] a b back e = cond-true (joins a b) _ _ e
      first-coalesced (x ∷ front) a b back e = first-from x front a b back e

      pub any-first : (xs : List X) → AnyFirst joins joined xs (coalesced joins joined xs)
      any-first xs front back a b e is = sym (first-coalesced front a b back e) ∙ sym (ap (coalesced joins joined) is)

  -- an order by a rank that joining leaves
  module _ (after : X → X → Bool) (rank : (a b c : X) → joins a b ≡ true → (after (joined a b) c ≡ after a c) × (after c (joined a b) ≡ after c a)) where
    none_after : (w x : X) (xs : List X) → after w x ≡ false → AllByRecursion (λ z. after w z ≡ false) xs → AllByRecursion (λ z. after w z ≡ false) (from joins joined x xs)
    none_after w x [] h a = (h, tt)
    none_after w x (y ∷ ys) h a =
        cond_both (joins x y) (from joins joined (joined x y) ys) (x ∷ from joins joined y ys) (AllByRecursion (λ z. after w z ≡ false))
        (λ e. none_after w (joined x y) ys ((rank x y w e).1 ∙ h) a.1)
        (λ e. (h, none_after w y ys a.0 a.1))

    from-in-order : (x : X) (xs : List X) → AllByRecursion (λ z. after x z ≡ false) xs → InOrder after xs → InOrder after (from joins joined x xs)
    from-in-order x [] a o = (tt, tt)
    from-in-order x (y ∷ ys) a o =
        cond_both (joins x y) (from joins joined (joined x y) ys) (x ∷ from joins joined y ys) (InOrder after)
        (λ e. from-in-order (joined x y) ys (All-weaker (λ z. after x z ≡ false) (λ z. after (joined x y) z ≡ false) (λ z h. (rank x y z e).0 ∙ h) ys a.1) o.1)
        (λ e. (none_after x y ys a.0 a.1, from-in-order y ys o.0 o.1))

    pub coalesced-in-order : (xs : List X) → InOrder after xs → InOrder after (coalesced joins joined xs)
    coalesced-in-order [] o = tt
    coalesced-in-order (x ∷ xs) o = from-in-order x xs o.0 o.1
