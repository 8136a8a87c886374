use Rattle.std.proofs.Common.{◌<◌, length, sym, ap, ◌∙◌, arith}
use Rattle.ranges.specs.declared.clipped.Clipped.{Clipped}
use Rattle.ranges.specs.Rows.{laid}
use Rattle.ranges.proofs.Along.{cut-some, cut-none}
use Rattle.ranges.proofs.Laid.{laid_more}
use Rattle.ranges.proofs.clipping.cut.Goals as goal
use Rattle.ranges.proofs.clipping.cut.Goals.{in-Some, in_default}

pub loop-row-preserved : goal.loop-row-preserved
loop-row-preserved c =
    let rows = c.as_slice-row-items.result.now in
    let n = c.args.max_lines in
    let i = c.loop-row.row-index in
    let x = c.row-item.result in
    let few : c.loop-row.out.count < 64 = omega (arith, c.loop-row.invariant.1, c.loop-row-test.true, ap length c.as_slice-row-items.ensures.is, c.args.rows.now.table.few, c.args.rows.now.limit) in
    elim c.match-cut_row.branch [
      | in-Some w ↦ (
        laid_more _ _ _ _ c.loop-row.invariant.0 few w.out-is ∙ sym (ap laid (cut-some n rows i x c.loop-row-test.true c.row-item.is _ w.in-Some.ensures)),
        omega (arith, c.loop-row.invariant.1, ap (λ (o : Clipped). o.count) w.out-is),
      )
      | in_default w ↦ (
        w.out-is ∙ c.loop-row.invariant.0 ∙ sym (ap laid (cut-none n rows i x c.loop-row-test.true c.row-item.is w.in_default.ensures)),
        omega (arith, c.loop-row.invariant.1, ap (λ (o : Clipped). o.count) w.out-is),
      )
    ]
