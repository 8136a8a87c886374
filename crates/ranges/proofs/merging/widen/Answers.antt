use Rattle.std.proofs.Common.{sym, ap, ◌∙◌}
use Rattle.std.proofs.lemmas.Bool.{cond-true, cond-false}
use Rattle.ranges.specs.Spans.{span_of}
use Rattle.ranges.proofs.Along.{widen_more}
use Rattle.ranges.proofs.merging.widen.Goals as goal
use Rattle.ranges.proofs.merging.widen.Goals.{then-touches, else-touches}

pub loop-row-preserved : goal.loop-row-preserved
loop-row-preserved c =
    widen_more (span_of c.args.range) c.args.rows.now c.loop-row.row-index c.row-item.result _ _ c.loop-row-test.true c.row-item.is c.loop-row.invariant
    (elim c.if-touches.branch [
      | then-touches w ↦ ap span_of w.wide-is ∙ w.join-wide.ensures ∙ sym (cond-true _ _ _ (sym c.touches.ensures ∙ w.if-touches.true))
      | else-touches w ↦ ap span_of w.wide-is ∙ sym (cond-false _ _ _ (sym c.touches.ensures ∙ w.if-touches.false))
    ])
