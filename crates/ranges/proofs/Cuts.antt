-- Ranges cut to a line count: the lines below it, still in order and apart.
use Rattle.std.proofs.Common.{◌≡◌, ℕ, ◌-◌, ◌≤◌, true, false, ◌&&◌, ◌||◌, ltb, List, [], ◌∷◌, length, replicate, filter, sym, refl, ap, ◌∙◌, subst, inl, inr, arith}
use Rattle.std.specs.List.{AllByRecursion}
use Rattle.std.proofs.lemmas.List.{take_at}
use Rattle.std.proofs.ByRecursion.{All-get_or, All-map, all_kept_by, All-weaker}
use Rattle.std.proofs.Math.Bool.{and-or_distrib_right}
use Rattle.std.proofs.lemmas.Bool.{both_ways, cases_Bool, ltb-true}
use Rattle.std.proofs.lemmas.Bool.Decides.{nat_tests}
use Rattle.change.specs.declared.span.Span.{Span}
use Rattle.ranges.specs.Spans.{blank, has, any_has, whole, asked}
use Rattle.ranges.specs.Clips.{begins, cut, cut_all, all_of, clip_of, Within}
use Rattle.ranges.specs.declared.clipped.Clipped.{Clipped}
use Rattle.ranges.specs.Rows.{laid, in_use}
use Rattle.ranges.proofs.Parts.{Before, Parted, lines_of, apart_of}

cut-one : (n k : ℕ) (r : Span) → has (cut n r) k ≡ (has r k && ltb k n)
cut-one n k r = grind (arith, nat_tests)

past_one : (n k : ℕ) (r : Span) → begins n r ≡ false → (has r k && ltb k n) ≡ false
past_one n k r e = grind (arith, nat_tests)

cut_has : (n k : ℕ) (rs : List Span) → any_has (cut_all n rs) k ≡ (any_has rs k && ltb k n)
cut_has n k [] = refl
cut_has n k (r ∷ rs) =
    elim (cases_Bool (begins n r)) [
      | inl e ↦ rw e (ap (λ b. b || any_has (cut_all n rs) k) (cut-one n k r) ∙ ap (λ b. (has r k && ltb k n) || b) (cut_has n k rs) ∙ sym (and-or_distrib_right (has r k) (any_has rs k) (ltb k n)))
      | inr e ↦ rw e (cut_has n k rs ∙ ap (λ b. b || (any_has rs k && ltb k n)) (sym (past_one n k r e)) ∙ sym (and-or_distrib_right (has r k) (any_has rs k) (ltb k n)))
    ]

all-has : (n k : ℕ) → any_has (all_of n) k ≡ ltb k n
all-has n k = grind (arith, nat_tests)

pub clip-has : (n k : ℕ) (rs : List Span) → any_has (clip_of n rs) k ≡ (asked rs k && ltb k n)
clip-has n k [] = all-has n k
clip-has n k (r ∷ rs) = cut_has n k (r ∷ rs)

cut-parted : (n : ℕ) (rs : List Span) → Parted rs → Parted (cut_all n rs)
cut-parted n [] p = tt
cut-parted n (r ∷ rs) p =
    elim (cases_Bool (begins n r)) [
      | inl e ↦
          let l = ltb-true r.start n e in
          rw e (omega (arith, p.0), behind rs p.1, cut-parted n rs p.2)
      | inr e ↦ rw e (cut-parted n rs p.2)
    ]
  where
    behind : (ts : List Span) → AllByRecursion (Before r) ts → AllByRecursion (Before (cut n r)) (cut_all n ts)
    behind ts a =
        All-map (Before (cut n r)) (cut n) (filter (begins n) ts)
        (All-weaker (Before r) (λ t. Before (cut n r) (cut n t)) (λ t b. omega arith) (filter (begins n) ts) (all_kept_by (begins n) (Before r) ts a))

cut-ends : (n : ℕ) (rs : List Span) → AllByRecursion (λ r. r.end ≤ n) (cut_all n rs)
cut-ends n [] = tt
cut-ends n (r ∷ rs) = elim (cases_Bool (begins n r)) [ inl e ↦ rw e (omega arith, cut-ends n rs) | inr e ↦ rw e (cut-ends n rs) ]

within : (n : ℕ) (rs : List Span) → Parted rs → AllByRecursion (λ r. r.end ≤ n) rs → Within n rs
within n rs p a = record { apart = apart_of rs p; lines = lines_of rs p; ends = λ i h. All-get_or (λ r. r.end ≤ n) rs i blank h a }

pub clip-within : (n : ℕ) (rs : List Span) → Parted rs → Within n (clip_of n rs)
clip-within n [] p =
    elim (cases_Bool (ltb 0 n)) [
      | inl e ↦ let l = ltb-true 0 n e in rw e (within n (record { start = 0; end = n } ∷ []) (l, tt, tt) (omega arith, tt))
      | inr e ↦ rw e (within n [] tt tt)
    ]
clip-within n (r ∷ rs) p = within n (cut_all n (r ∷ rs)) (cut-parted n (r ∷ rs) p) (cut-ends n (r ∷ rs))

pub in_use_lem : (rs : List Span) → in_use (laid rs) ≡ rs
in_use_lem rs = take_at rs (replicate (64 - length rs) blank) (length rs) refl

pub clip-whole : (n : ℕ) (rs : List Span) → true ≡ whole rs → clip_of n rs ≡ all_of n
clip-whole n [] e = refl
clip-whole n (r ∷ rs) e = absurd (both_ways true e refl)

pub clip-some : (n : ℕ) (rs : List Span) → false ≡ whole rs → clip_of n rs ≡ cut_all n rs
clip-some n [] e = absurd (both_ways true (sym e) refl)
clip-some n (r ∷ rs) e = refl

-- what is told of ranges that are laid out so
pub record Told (n : ℕ) (rs : List Span) (c : Clipped) : Type 0 where
  pub is : c ≡ laid (clip_of n rs)
  pub lines : (k : ℕ) → any_has (in_use c) k ≡ (asked rs k && ltb k n)
  pub inside : Within n (in_use c)

pub told : (n : ℕ) (rs : List Span) (c : Clipped) → Parted rs → c ≡ laid (clip_of n rs) → Told n rs c
told n rs c p e =
    let u : in_use c ≡ clip_of n rs = ap in_use e ∙ in_use_lem (clip_of n rs) in
    record {
      is = e;
      lines = λ k. ap (λ l. any_has l k) u ∙ clip-has n k rs;
      inside = subst (Within n) (sym u) (clip-within n rs p);
    }
