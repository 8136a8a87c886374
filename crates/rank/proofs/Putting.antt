-- Where an element is put, and that what is in order stays so.
use Rattle.std.proofs.Common.{unwrap_or, ltb, inl, inr, arith, ◌≡◌, ℕ, suc, ◌≤◌, Bool, true, false, cond, List, [], ◌∷◌, ◌++◌, length, take, drop, sym, refl, ap, ◌∙◌, suc-le-suc, zero-le}
use Rattle.std.specs.List.{insert, AllByRecursion, position, position_or_len}
use Rattle.std.proofs.lemmas.List.Recursion.{is_position_or_len}
use Rattle.std.proofs.lemmas.Bool.{cond_both, cases_Bool, ltb-false}
use Rattle.std.proofs.ByRecursion.{All-weaker}
use Rattle.rank.specs.Ranks.{InOrder, put, place_of, Among}

module _ {X : Type 0} (after : X → X → Bool) (x : X) where
  pub place-within : (xs : List X) → place_of after x xs ≤ length xs
  place-within [] = zero-le
  place-within (y ∷ ys) =
      elim (after y x) as (λ b. cond b 0 (suc (place_of after x ys)) ≤ suc (length ys)) [ true ↦ zero-le | false ↦ suc-le-suc (place-within ys) ]

  -- the place is the first position that passes, else the length
  pub place-else : (xs : List X) → unwrap_or (position (λ y. after y x) xs) (length xs) ≡ place_of after x xs
  place-else xs =
      let same = is_position_or_len (place_of after x) (λ y. after y x) refl (λ y ys. ap (cond (after y x) 0) (omega arith)) xs in
      let within = place-within xs in
      elim (cases_Bool (ltb (position_or_len (λ y. after y x) xs) (length xs))) [
        | inl e ↦ rw e (sym same)
        | inr e ↦ let l = ltb-false _ _ e in rw e (omega arith)
      ]

  pub put_is : (xs : List X) → put after x xs ≡ take (place_of after x xs) xs ++ x ∷ drop (place_of after x xs) xs
  put_is [] = refl
  put_is (y ∷ ys) =
      elim (after y x) as (λ b. cond b (x ∷ y ∷ ys) (y ∷ put after x ys) ≡ take (cond b 0 (suc (place_of after x ys))) (y ∷ ys) ++ x ∷ drop (cond b 0 (suc (place_of after x ys))) (y ∷ ys))
      [ true ↦ refl | false ↦ ap (λ zs. y ∷ zs) (put_is ys) ]

  -- x inserted at its place
  pub inserted-is-put : (xs out : List X) (n : ℕ) → out ≡ insert xs n x → n ≡ place_of after x xs → out ≡ put after x xs
  inserted-is-put xs out n e p = e ∙ ap (λ i. insert xs i x) p ∙ sym (put_is xs)

  pub put-among : (xs out : List X) → out ≡ put after x xs → Among x xs out
  put-among xs out e = record { place = place_of after x xs; within = place-within xs; is = e ∙ put_is xs }

  -- what holds of x and of each element holds of each when x is put among them
  pub put_all : (P : X → Type 0) (xs : List X) → P x → AllByRecursion P xs → AllByRecursion P (put after x xs)
  put_all P [] p a = (p, tt)
  put_all P (y ∷ ys) p a =
      elim (after y x) as (λ b. AllByRecursion P (cond b (x ∷ y ∷ ys) (y ∷ put after x ys))) [ true ↦ (p, a) | false ↦ (a.0, put_all P ys p a.1) ]

  module _ (total : (a b : X) → after a b ≡ true → after b a ≡ false) (transitive : (a b c : X) → after a b ≡ false → after b c ≡ false → after a c ≡ false) where
    pub put-in-order : (xs : List X) → InOrder after xs → InOrder after (put after x xs)
    put-in-order [] o = (tt, tt)
    put-in-order (y ∷ ys) o =
        cond_both (after y x) (x ∷ y ∷ ys) (y ∷ put after x ys) (InOrder after)
        (λ e. let f = total y x e in
        ((f, All-weaker (λ z. after y z ≡ false) (λ z. after x z ≡ false) (λ z h. transitive x y z f h) ys o.0), o))
        (λ e. (put_all (λ z. after y z ≡ false) ys e o.0, put-in-order ys o.1))
