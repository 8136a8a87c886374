use Rattle.std.proofs.Common.{◌≡◌, false, length, inl, inr, sym, refl, ap, ◌∙◌, arith}
use Rattle.std.proofs.lemmas.Bool.{both_ways}
use Rattle.compare.proofs.Same.{heads, tails, joined, both_empty}
use Rattle.compare.proofs.judge.same_rows.Goals as goal

pub returns-then-not-same_row : goal.returns-then-not-same_row
returns-then-not-same_row c =
    let s = c.in-Some.ensures in
    let i = c.loop-row.invariant in
    (λ e. absurd (both_ways false refl e), λ e. absurd (both_ways _ c.if-not-same_row.true (c.same_row.ensures.1 (heads (sym s.steps.0 ∙ i.1 e ∙ s.steps.1)))))

pub loop-row-preserved : goal.loop-row-preserved
loop-row-preserved c =
    let s = c.in-Some.ensures in
    let i = c.loop-row.invariant in (
      λ e. i.0 (s.steps.0 ∙ joined (c.same_row.ensures.0 c.if-not-same_row.false) e ∙ sym s.steps.1),
      λ e. tails (sym s.steps.0 ∙ i.1 e ∙ s.steps.1),
      omega (arith, i.2, ap length s.steps.0, ap length s.steps.1),
    )

pub returns : goal.returns
returns c =
    let i = c.loop-row.invariant in
    let none : length c.loop-row.row-iterator.a.rest.now ≡ 0 =
    elim c.in-None.ensures.steps [
      | inl a ↦ a.1.0
      | inr b ↦ i.2 ∙ b.1.0
    ] in
    (λ _. i.0 (both_empty _ _ none (sym i.2 ∙ none)), λ _. refl)
