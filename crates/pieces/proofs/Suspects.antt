-- Where a hunk begins in each of its suspects once one of them is dropped or renamed.
use Rattle.std.proofs.Common.{◌≡◌, ℕ, true, false, cond, List, [], ◌∷◌, map, Some, None, filter, sym, refl, ap, ◌∙◌, inl, inr}
use Rattle.std.proofs.lemmas.Bool.{cases_Bool, cond_both, eqb-true, eqb-false, eq-eqb, ne_eqb}
use Rattle.hunk.specs.declared.source.Source.{Source}
use Rattle.hunk.specs.Hunks.{Named, Piece, same_source, start_in, has, names, isnt, without, with_suspects, rename, passed}

-- a commit is none of two that differ
apart : (s c q : Source) → same_source q c ≡ false → same_source s c ≡ true → same_source s q ≡ false
apart s c q n e = let a = eqb-true s.commit c.commit e in let b = eqb-false q.commit c.commit n in ne_eqb _ _ (λ z. b (sym z ∙ a))

dropped-none : (c : Source) (ss : List Named) → start_in c (filter (isnt c) ss) ≡ None
dropped-none c [] = refl
dropped-none c (s ∷ ss) =
    elim (cases_Bool (same_source s.source c)) [
      | inl e ↦ rw e (dropped-none c ss)
      | inr e ↦ rw e (rw e (dropped-none c ss))
    ]

dropped-other : (c q : Source) (ss : List Named) → same_source q c ≡ false → start_in q (filter (isnt c) ss) ≡ start_in q ss
dropped-other c q [] n = refl
dropped-other c q (s ∷ ss) n =
    elim (cases_Bool (same_source s.source c)) [
      | inl e ↦ let g = apart s.source c q n e in rw (e, g) (dropped-other c q ss n)
      | inr e ↦ rw e (ap (cond (same_source s.source q) (Some s.start)) (dropped-other c q ss n))
    ]

renamed-none : (c p : Source) (y : ℕ) (ss : List Named) → same_source p c ≡ false → start_in c (map (rename c p y) ss) ≡ None
renamed-none c p y [] n = refl
renamed-none c p y (s ∷ ss) n =
    elim (cases_Bool (same_source s.source c)) [
      | inl e ↦ rw e (rw n (renamed-none c p y ss n))
      | inr e ↦ rw e (rw e (renamed-none c p y ss n))
    ]

renamed-other : (c p q : Source) (y : ℕ) (ss : List Named) → same_source q c ≡ false → same_source p q ≡ false → start_in q (map (rename c p y) ss) ≡ start_in q ss
renamed-other c p q y [] n m = refl
renamed-other c p q y (s ∷ ss) n m =
    elim (cases_Bool (same_source s.source c)) [
      | inl e ↦ let g = apart s.source c q n e in rw e (rw (m, g) (renamed-other c p q y ss n m))
      | inr e ↦ rw e (ap (cond (same_source s.source q) (Some s.start)) (renamed-other c p q y ss n m))
    ]

renamed-new : (c p : Source) (x y : ℕ) (ss : List Named) → start_in c ss ≡ Some x → has (start_in p ss) ≡ false → start_in p (map (rename c p y) ss) ≡ Some y
renamed-new c p x y [] e n = absurd cc
renamed-new c p x y (s ∷ ss) e n =
    elim (cases_Bool (same_source s.source c)) [
      | inl g ↦ let i : same_source p p ≡ true = eq-eqb _ _ refl in rw g (rw i)
      | inr g ↦
          elim (cases_Bool (same_source s.source p)) [
            | inl i ↦ let w : has (Some s.start) ≡ false = rw i at n in absurd cc
            | inr i ↦ rw g (rw i (renamed-new c p x y ss (rw g at e) (rw i at n)))
          ]
    ]

same-sym : (a b : Source) → same_source a b ≡ false → same_source b a ≡ false
same-sym a b n = let m = eqb-false a.commit b.commit n in ne_eqb _ _ (λ z. m (sym z))

-- a commit that the hunk names is not one that it does not name
named-apart : (p q : Source) (z : ℕ) (ss : List Named) → start_in q ss ≡ Some z → has (start_in p ss) ≡ false → same_source p q ≡ false
named-apart p q z ss e n =
    ne_eqb _ _ (λ i.
    let s : start_in p ss ≡ start_in q ss = ap (λ k. start_in (record { commit = k }) ss) i in
    let w : has (Some z) ≡ false = sym (ap has (s ∙ e)) ∙ n in
    cc)

-- c passed on to p
module _ (c p : Source) (y : ℕ) (h : Piece) where
  passed-both : (P : List Named → Type 0) → P (filter (isnt c) h.suspects) → (names p h ≡ false → P (map (rename c p y) h.suspects)) → P (passed c p y h).suspects
  passed-both P a b = cond_both (names p h) (without c h) (with_suspects h (map (rename c p y) h.suspects)) (λ g. P g.suspects) (λ _. a) b

  pub passed_none : same_source c p ≡ false → start_in c (passed c p y h).suspects ≡ None
  passed_none n = passed-both (λ ss. start_in c ss ≡ None) (dropped-none c h.suspects) (λ _. renamed-none c p y h.suspects (same-sym c p n))

  pub passed-new : (x : ℕ) → start_in c h.suspects ≡ Some x → names p h ≡ false → start_in p (passed c p y h).suspects ≡ Some y
  passed-new x e n = rw n (renamed-new c p x y h.suspects e n)

  pub passed-named : (q : Source) (z : ℕ) → same_source q c ≡ false → start_in q h.suspects ≡ Some z → start_in q (passed c p y h).suspects ≡ Some z
  passed-named q z n e =
      passed-both (λ ss. start_in q ss ≡ Some z) (dropped-other c q h.suspects n ∙ e)
      (λ m. renamed-other c p q y h.suspects n (named-apart p q z h.suspects e m) ∙ e)

  pub passed-unnamed : (q : Source) → same_source q c ≡ false → same_source q p ≡ false → start_in q h.suspects ≡ None → start_in q (passed c p y h).suspects ≡ None
  passed-unnamed q n m e =
      passed-both (λ ss. start_in q ss ≡ None) (dropped-other c q h.suspects n ∙ e) (λ _. renamed-other c p q y h.suspects n (same-sym q p m) ∙ e)

  pub passed-range : ((passed c p y h).asked ≡ h.asked) × ((passed c p y h).size ≡ h.size)
  passed-range =
      cond_both (names p h) (without c h) (with_suspects h (map (rename c p y) h.suspects)) (λ g. (g.asked ≡ h.asked) × (g.size ≡ h.size))
      (λ _. (refl, refl)) (λ _. (refl, refl))
