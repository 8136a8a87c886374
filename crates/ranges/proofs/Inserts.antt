-- Rows without those that a range touches, and the range put among them.
use Rattle.std.proofs.Common.{◌≡◌, ℕ, ◌≤◌, Bool, ltb, List, [], ◌∷◌, length, Ok, Err, filter, Result, MatchResult, sym, refl, ap, ◌∙◌, inl, inr, arith}
use Rattle.std.proofs.lemmas.List.{length-map}
use Rattle.std.proofs.lemmas.List.Sums.{length-filter, count_by-le-length}
use Rattle.std.proofs.lemmas.Bool.{cases_Bool, ltb-false}
use Rattle.change.specs.declared.span.Span.{Span}
use Rattle.change.specs.declared.line_range.LineRange.{LineRange}
use Rattle.rank.specs.Abutting.{starts_after}
use Rattle.rank.specs.Ranks.{put}
use Rattle.rank.specs.Tables.{has_room, answer_to, then_holds}
use Rattle.rank.specs.declared.table.Full.{Full}
use Rattle.ranges.specs.declared.fault.RangeFault.{RangeFault}
use Rattle.ranges.specs.declared.fault.RangeFault.TheVariants.{RangesFull}
use Rattle.ranges.specs.Spans.{span_of, spans, is_apart, merged, others, later}
use Rattle.ranges.specs.Adds.{merge_of, answer_of, then_of}

abbrev pub away_from : Span → LineRange → Bool
away_from n x = is_apart n (span_of x)

spans-put : (x : LineRange) (rows : List LineRange) → spans (put starts_after x rows) ≡ put later (span_of x) (spans rows)
spans-put x [] = refl
spans-put x (y ∷ ys) =
    elim (cases_Bool (starts_after y x)) [
      | inl e ↦ rw e refl
      | inr e ↦ rw e (ap (λ l. span_of y ∷ l) (spans-put x ys))
    ]

spans-kept : (n : Span) (rows : List LineRange) → spans (filter (away_from n) rows) ≡ others n (spans rows)
spans-kept n [] = refl
spans-kept n (y ∷ ys) =
    elim (cases_Bool (away_from n y)) [
      | inl e ↦ rw e (ap (λ l. span_of y ∷ l) (spans-kept n ys))
      | inr e ↦ rw e (spans-kept n ys)
    ]

-- a filter that leaves as many leaves all
kept-all : {X : Type 0} (p : X → Bool) (xs : List X) → length xs ≤ length (filter p xs) → filter p xs ≡ xs
kept-all p [] h = refl
kept-all p (x ∷ xs) h =
    elim (cases_Bool (p x)) [
      | inl e ↦ rw e (ap (λ l. x ∷ l) (kept-all p xs (fewer (rw e at h))))
      | inr e ↦
          let k = length-filter p xs in
          let l = count_by-le-length p xs in
          let g = rw e at h in
          absurd (omega arith)
    ]
  where
    fewer : length (x ∷ xs) ≤ length (x ∷ filter p xs) → length xs ≤ length (filter p xs)
    fewer g = omega arith

module _ (n : Span) (rows held behind : List LineRange) (limit : ℕ) (w : LineRange) (most : limit ≡ 64)
    (kept : held ≡ filter (away_from n) rows) where
  plain : spans held ≡ others n (spans rows)
  plain = ap spans kept ∙ spans-kept n rows

  room : has_room limit held ≡ ltb (length (others n (spans rows))) 64
  room = ap (λ k. ltb k limit) (sym (length-map held span_of) ∙ ap length plain) ∙ ap (ltb (length (others n (spans rows)))) most

  -- what the table answers, with its refusal told as one of the ranges
  pub merged-answer : (Q : Full LineRange → Type 0) (r : Result (Unit {0}) RangeFault) → ((f : Full LineRange) → Q f → r ≡ Err RangesFull)
      → MatchResult (answer_to limit held w) (λ x. r ≡ Ok x) Q → r ≡ answer_of (merge_of n (spans rows))
  merged-answer Q r refused m =
      elim (cases_Bool (has_room limit held)) [
        | inl e ↦ let t = sym room ∙ e in rw t (rw e at m)
        | inr e ↦ let t = sym room ∙ e in rw t (refused _ (rw e at m))
      ]

  -- what it holds then: where it is full, no row was dropped
  pub merged-rows : span_of w ≡ merged n (spans rows) → length rows ≤ 64 → behind ≡ then_holds limit held (put starts_after w held)
      → spans behind ≡ then_of (spans rows) (merge_of n (spans rows))
  merged-rows wide few holds =
      elim (cases_Bool (has_room limit held)) [
        | inl e ↦
            let t = sym room ∙ e in
            let same : behind ≡ put starts_after w held = rw e at holds in
            rw t (ap spans same ∙ spans-put w held ∙ ap (λ l. put later (span_of w) l) plain ∙ ap (λ m. put later m (others n (spans rows))) wide)
        | inr e ↦
            let t = sym room ∙ e in
            let same : behind ≡ held = rw e at holds in
            let long = ltb-false (length held) limit e in
            rw t (ap spans (same ∙ kept ∙ kept-all (away_from n) rows (omega (arith, ap length kept))))
      ]
