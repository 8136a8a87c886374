-- The ranges stay in order and apart with one more merged in.
use Rattle.std.proofs.Common.{◌≡◌, ◌<◌, ◌≤◌, true, false, ◌⊎◌, List, [], ◌∷◌, fold, filter, inl, inr, arith}
use Rattle.std.specs.List.{AllByRecursion}
use Rattle.std.proofs.ByRecursion.{all_kept_by, All-weaker}
use Rattle.std.proofs.lemmas.Bool.{both_ways, cases_Bool, ltb-true, ltb-false, not-true, not-false, or_cases, or_parts}
use Rattle.change.specs.declared.span.Span.{Span}
use Rattle.rank.specs.Ranks.{put}
use Rattle.rank.proofs.Putting.{put_all}
use Rattle.ranges.specs.Spans.{touches, is_apart, hull, merged, others, later, merged_in}
use Rattle.ranges.proofs.Parts.{Before, Parted}

-- it has a line
abbrev pub Some-line : Span → Type 0
Some-line r = r.start < r.end

-- one ends before the other begins, or they meet
abbrev pub Away : Span → Span → Type 0
Away r s = Before r s ⊎ Before s r

abbrev pub Meet : Span → Span → Type 0
Meet n r = (r.start ≤ n.end) × (n.start ≤ r.end)

pub meet-from : (n r : Span) → touches n r ≡ true → Meet n r
meet-from n r h = let p = or_parts _ _ (not-true _ h) in (ltb-false _ _ p.0, ltb-false _ _ p.1)

pub away-from : (n r : Span) → touches n r ≡ false → Away r n
away-from n r h =
    elim (or_cases _ _ (not-false _ h)) [
      | inl e ↦ inr (ltb-true _ _ e)
      | inr e ↦ inl (ltb-true _ _ e)
    ]

-- m has all lines of n
abbrev pub Over : Span → Span → Type 0
Over n m = (m.start ≤ n.start) × (n.end ≤ m.end)

pub hull-over : (n m t : Span) → Over n m → Over n (hull m t)
hull-over n m t o = (omega arith, omega arith)

pub merged-over : (n : Span) (rs : List Span) (m : Span) → Over n m → Over n (fold hull m (filter (touches n) rs))
merged-over n [] m o = o
merged-over n (t ∷ ts) m o =
    elim (cases_Bool (touches n t)) [
      | inl e ↦ rw e (merged-over n ts (hull m t) (hull-over n m t o))
      | inr e ↦ rw e (merged-over n ts m o)
    ]

hull-away : (r m t : Span) → Some-line r → Some-line t → Meet m t → Away r m → Away r t → Away r (hull m t)
hull-away r m t l k e a b =
    elim a [
      | inl p ↦ elim b [ inl q ↦ inl (omega arith) | inr q ↦ absurd (omega arith) ]
      | inr p ↦ elim b [ inl q ↦ absurd (omega arith) | inr q ↦ inr (omega arith) ]
    ]

merged-away : (n r : Span) → Some-line r → (rs : List Span) → AllByRecursion (λ t. Some-line t × (touches n t ≡ true → Away r t)) rs
    → (m : Span) → Over n m → Away r m → Away r (fold hull m (filter (touches n) rs))
merged-away n r l [] h m o a = a
merged-away n r l (t ∷ ts) h m o a =
    elim (cases_Bool (touches n t)) [
      | inl e ↦
          let k = meet-from n t e in
          rw e (merged-away n r l ts h.1 (hull m t) (hull-over n m t o) (hull-away r m t l h.0.0 (omega arith, omega arith) a (h.0.1 e)))
      | inr e ↦ rw e (merged-away n r l ts h.1 m o a)
    ]

all_both : {X : Type 0} (P Q R : X → Type 0) → ((x : X) → P x → Q x → R x) → (xs : List X) → AllByRecursion P xs → AllByRecursion Q xs → AllByRecursion R xs
all_both P Q R f [] p q = tt
all_both P Q R f (x ∷ xs) p q = (f x p.0 q.0, all_both P Q R f xs p.1 q.1)

pub all_lines : (rs : List Span) → Parted rs → AllByRecursion Some-line rs
all_lines [] p = tt
all_lines (r ∷ rs) p = (p.0, all_lines rs p.2)

-- of ranges that are apart, one that n touches is away from one that it does not
abbrev Clear : Span → List Span → Span → Type 0
Clear n rs r = touches n r ≡ false → AllByRecursion (λ t. Some-line t × (touches n t ≡ true → Away r t)) rs

clear-more : (n x r : Span) (xs : List Span) → Some-line x → Before x r → Clear n xs r → Clear n (x ∷ xs) r
clear-more n x r xs l b h f = ((l, λ _. inr b), h f)

all-clear : (n : Span) (rs : List Span) → Parted rs → AllByRecursion (Clear n rs) rs
all-clear n [] p = tt
all-clear n (x ∷ xs) p = (
  λ f. ((p.0, λ e. absurd (both_ways _ f e)), all_both Some-line (Before x) (λ t. Some-line t × (touches n t ≡ true → Away x t)) (λ t l b. (l, λ _. inl b)) xs (all_lines xs p.2) p.1),
  all_both (Before x) (Clear n xs) (Clear n (x ∷ xs)) (λ r b h. clear-more n x r xs p.0 b h) xs p.1 (all-clear n xs p.2),
)

-- the merged range is away from each of the others
others-away : (n : Span) (rs xs : List Span) → AllByRecursion Some-line xs → AllByRecursion (Clear n rs) xs → AllByRecursion (Away (merged n rs)) (filter (is_apart n) xs)
others-away n rs [] l h = tt
others-away n rs (x ∷ xs) l h =
    elim (cases_Bool (touches n x)) [
      | inl e ↦ rw e (others-away n rs xs l.1 h.1)
      | inr e ↦ rw e (turn _ _ (merged-away n x l.0 rs (h.0 e) n (omega arith, omega arith) (away-from n x e)), others-away n rs xs l.1 h.1)
    ]
  where
    turn : (r s : Span) → Away r s → Away s r
    turn r s a = elim a [ inl p ↦ inr p | inr p ↦ inl p ]

kept-parted : (n : Span) (rs : List Span) → Parted rs → Parted (others n rs)
kept-parted n [] p = tt
kept-parted n (r ∷ rs) p =
    elim (cases_Bool (touches n r)) [
      | inl e ↦ rw e (kept-parted n rs p.2)
      | inr e ↦ rw e (p.0, all_kept_by (is_apart n) (Before r) rs p.1, kept-parted n rs p.2)
    ]

-- a range that is away from all of them, put in by its start
put-parted : (x : Span) (ys : List Span) → Some-line x → Parted ys → AllByRecursion (Away x) ys → Parted (put later x ys)
put-parted x [] l p a = (l, tt, tt)
put-parted x (y ∷ ys) l p a =
    elim (cases_Bool (later y x)) [
      | inl e ↦
          let s = ltb-true x.start y.start e in
          let b : Before x y = elim a.0 [ inl q ↦ q | inr q ↦ absurd (omega (arith, p.0)) ] in
          rw e (l, (b, All-weaker (Before y) (Before x) (λ z q. omega (arith, p.0)) ys p.1), p)
      | inr e ↦
          let s = ltb-false x.start y.start e in
          let b : Before y x = elim a.0 [ inl q ↦ absurd (omega (arith, p.0)) | inr q ↦ q ] in
          rw e (p.0, put_all later x (Before y) ys b p.1, put-parted x ys l p.2 a.1)
    ]

pub merged-parted : (n : Span) (rs : List Span) → Some-line n → Parted rs → Parted (merged_in n rs)
merged-parted n rs l p =
    let o = merged-over n rs n (omega arith, omega arith) in
    put-parted (merged n rs) (others n rs) (omega arith) (kept-parted n rs p) (others-away n rs rs (all_lines rs p) (all-clear n rs p))
