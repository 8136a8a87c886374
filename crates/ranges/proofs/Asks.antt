-- The lines that are asked with one more range merged in: its own, and those of the ranges before.
use Rattle.std.proofs.Common.{◌≡◌, ℕ, Bool, true, false, ◌||◌, List, [], ◌∷◌, fold, filter, refl, ap, ◌∙◌, inl, inr, arith}
use Rattle.std.specs.List.{AllByRecursion}
use Rattle.std.proofs.Math.Bool.{or_assoc}
use Rattle.std.proofs.lemmas.Bool.{cases_Bool}
use Rattle.std.proofs.lemmas.Bool.Decides.{nat_tests}
use Rattle.change.specs.declared.span.Span.{Span}
use Rattle.rank.specs.Ranks.{put}
use Rattle.ranges.specs.Spans.{has, any_has, whole, touches, is_apart, hull, merged, others, later, merged_in}
use Rattle.ranges.proofs.Merges.{Some-line, Meet, Over, meet-from, hull-over}

pub or_swap : (a b c : Bool) → (a || (b || c)) ≡ (b || (a || c))
or_swap true true c = refl
or_swap true false c = refl
or_swap false b c = refl

hull-has : (m t : Span) (k : ℕ) → Some-line m → Some-line t → Meet m t → has (hull m t) k ≡ (has m k || has t k)
hull-has m t k l h e = grind (arith, nat_tests)

parts-have : (n : Span) (k : ℕ) (rs : List Span) → AllByRecursion Some-line rs → (m : Span) → Some-line m → Over n m
    → (has (fold hull m (filter (touches n) rs)) k || any_has (filter (is_apart n) rs) k) ≡ (has m k || any_has rs k)
parts-have n k [] a m l o = refl
parts-have n k (t ∷ ts) a m l o =
    elim (cases_Bool (touches n t)) [
      | inl e ↦
          let g = meet-from n t e in
          let w = hull-over n m t o in
          rw e (parts-have n k ts a.1 (hull m t) (omega arith) w
          ∙ ap (λ b. b || any_has ts k) (hull-has m t k l a.0 (omega arith, omega arith))
          ∙ or_assoc (has m k) (has t k) (any_has ts k))
      | inr e ↦
          rw e (or_swap (has (fold hull m (filter (touches n) ts)) k) (has t k) (any_has (filter (is_apart n) ts) k)
          ∙ ap (λ b. has t k || b) (parts-have n k ts a.1 m l o)
          ∙ or_swap (has t k) (has m k) (any_has ts k))
    ]

put_has : (x : Span) (k : ℕ) (ys : List Span) → any_has (put later x ys) k ≡ (has x k || any_has ys k)
put_has x k [] = refl
put_has x k (y ∷ ys) =
    elim (cases_Bool (later y x)) [
      | inl e ↦ rw e refl
      | inr e ↦ rw e (ap (λ b. has y k || b) (put_has x k ys) ∙ or_swap (has y k) (has x k) (any_has ys k))
    ]

put_some : (x : Span) (ys : List Span) → whole (put later x ys) ≡ false
put_some x [] = refl
put_some x (y ∷ ys) = elim (cases_Bool (later y x)) [ inl e ↦ rw e refl | inr e ↦ rw e refl ]

pub merged-has : (n : Span) (rs : List Span) → Some-line n → AllByRecursion Some-line rs → (k : ℕ) → any_has (merged_in n rs) k ≡ (has n k || any_has rs k)
merged-has n rs l a k = put_has (merged n rs) k (others n rs) ∙ parts-have n k rs a n l (omega arith, omega arith)

pub merged_some : (n : Span) (rs : List Span) → whole (merged_in n rs) ≡ false
merged_some n rs = put_some (merged n rs) (others n rs)
