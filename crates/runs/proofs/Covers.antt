-- The runs of the first n lines cover them, each of its lines at the place that the run says.
use Rattle.std.proofs.Common.{◌≡◌, ℕ, zero, suc, ◌-◌, ◌<◌, ◌≤◌, true, false, List, [], ◌∷◌, reverse, Some, None, Option, sym, refl, ap, ◌∙◌, subst, inl, inr, arith}
use mathlib.Core.List.{reverse_aux}
use Rattle.std.proofs.lemmas.Bool.{cases_Bool, cases_lt, eqb-true, both_ways}
use Rattle.runs.specs.Rows.{Run, follows, goes_on, grow, runs_to, place_in, Parted, Cover}
use Rattle.runs.proofs.Along.{step, step-none}

-- the last of the runs does not go on in the first of those behind them
abbrev Between : List Run → List Run → Type 0
Between [] after = Unit {0}
Between (l ∷ ls) after = Parted l after

-- the runs cover the lines up to n, the last run first
abbrev Back : (ℕ → Option ℕ) → ℕ → List Run → Type 0
Back f n [] = n ≡ 0
Back f n (r ∷ rs) =
    (r.end ≡ n) × (r.start < n) × ((i : ℕ) → r.start ≤ i → i < n → f i ≡ place_in r i) × Between rs (r ∷ []) × Back f r.start rs

follows_is : (q p : Option ℕ) (k : ℕ) → follows q k p ≡ true → p ≡ step k q
follows_is None None k h = refl
follows_is None (Some p) k h = absurd (both_ways false refl h)
follows_is (Some q) None k h = absurd (both_ways false refl h)
follows_is (Some q) (Some p) k h = ap Some (eqb-true _ _ h)

-- one line alone
alone : (f : ℕ → Option ℕ) (n i : ℕ) → n ≤ i → i < suc n → f i ≡ step (i - n) (f n)
alone f n i a b = let e : i ≡ n = omega arith in ap f e ∙ sym (step-none (i - n) (f n) (omega arith))

grow-back : (f : ℕ → Option ℕ) (n : ℕ) (rs : List Run) → Back f n rs → Back f (suc n) (grow n (f n) rs)
grow-back f n [] b = (refl, omega arith, alone f n, tt, b)
grow-back f n (r ∷ rs) b =
    elim (cases_Bool (goes_on r (f n))) [
      | inl g ↦
          let last : f n ≡ step (n - r.start) r.place = follows_is r.place (f n) _ g ∙ ap (λ x. step (x - r.start) r.place) b.0 in
          let each : (i : ℕ) → r.start ≤ i → i < suc n → f i ≡ step (i - r.start) r.place =
          λ i l u. elim (cases_lt i n) [
            | inl v ↦ b.2 i l v
            | inr v ↦ let e : i ≡ n = omega arith in subst (λ x. f x ≡ step (x - r.start) r.place) (sym e) last
          ] in
          rw g (refl, omega (arith, b.1), each, same rs b.3, b.4)
      | inr g ↦ rw g (refl, omega arith, alone f n, g, b)
    ]
  where
    same : (ls : List Run) → Between ls (r ∷ []) → Between ls (record { start = r.start; end = suc n; place = r.place } ∷ [])
    same [] h = tt
    same (l ∷ ls) h = h

back : (f : ℕ → Option ℕ) (n : ℕ) → Back f n (runs_to f n)
back f zero = refl
back f (suc n) = grow-back f n (runs_to f n) (back f n)

turn : (f : ℕ → Option ℕ) (m n : ℕ) (rs after : List Run) → Back f n rs → Between rs after → Cover f n m after → Cover f 0 m (reverse_aux rs after)
turn f m n [] after b p c = subst (λ x. Cover f x m after) b c
turn f m n (r ∷ rs) after b p c =
    turn f m r.start rs (r ∷ after) b.4 (any rs b.3) (
      refl,
      omega (arith, b.0, b.1),
      λ i l u. b.2 i l (omega (arith, b.0)),
      p,
      subst (λ x. Cover f x m after) (sym b.0) c,
    )
  where
    any : (ls : List Run) → Between ls (r ∷ []) → Between ls (r ∷ after)
    any [] h = tt
    any (l ∷ ls) h = h

nothing-behind : (rs : List Run) → Between rs []
nothing-behind [] = tt
nothing-behind (r ∷ rs) = tt

pub covers : (f : ℕ → Option ℕ) (n : ℕ) → Cover f 0 n (reverse (runs_to f n))
covers f n = turn f n n (runs_to f n) [] (back f n) (nothing-behind (runs_to f n)) refl
