-- A list that a loop fills from another, with all or with those that pass.
use Rattle.std.proofs.Common.{◌≡◌, ℕ, ◌+◌, ◌<◌, Bool, true, false, cond, List, [], ◌∷◌, ◌++◌, length, get_or, take, set, filter, sym, ap, ◌∙◌}
use Rattle.std.proofs.lemmas.List.{append-nil, take_more, take_more_set}
use Rattle.std.proofs.lemmas.List.Elements.{filter_more}

module _ {X : Type 0} (xs : List X) (i : ℕ) (x : X) (here : i < length xs) (is : x ≡ get_or xs i x) where
  pub read_more : take (i + 1) xs ≡ take i xs ++ x ∷ []
  read_more = take_more xs i x here ∙ ap (λ y. take i xs ++ y ∷ []) (sym is)

  pub copied_more : (ys : List X) (k : ℕ) → k < length ys → take k ys ≡ take i xs → take (k + 1) (set ys k x) ≡ take (i + 1) xs
  copied_more ys k l e = take_more_set ys k x l ∙ ap (λ zs. zs ++ x ∷ []) e ∙ sym read_more

  module _ (p : X → Bool) where
    pub kept-yes : p x ≡ true → filter p (take (i + 1) xs) ≡ filter p (take i xs) ++ x ∷ []
    kept-yes e =
        filter_more p xs i x here ∙ ap (λ y. filter p (take i xs) ++ cond (p y) (y ∷ []) []) (sym is)
        ∙ ap (λ b. filter p (take i xs) ++ cond b (x ∷ []) []) e

    pub kept-no : p x ≡ false → filter p (take (i + 1) xs) ≡ filter p (take i xs)
    kept-no e =
        filter_more p xs i x here ∙ ap (λ y. filter p (take i xs) ++ cond (p y) (y ∷ []) []) (sym is)
        ∙ ap (λ b. filter p (take i xs) ++ cond b (x ∷ []) []) e ∙ append-nil (filter p (take i xs))

    pub passed-more : (ys : List X) (k : ℕ) → k < length ys → take k ys ≡ filter p (take i xs) → p x ≡ true → take (k + 1) (set ys k x) ≡ filter p (take (i + 1) xs)
    passed-more ys k l e t = take_more_set ys k x l ∙ ap (λ zs. zs ++ x ∷ []) e ∙ sym (kept-yes t)
