use Rattle.std.proofs.Common.{◌∙◌, arith}
use Rattle.std.proofs.lemmas.List.{length-set, take_all}
use Rattle.ranges.proofs.Copies.{copied_more}
use Rattle.ranges.proofs.held.copy.Goals as goal

pub loop-row-preserved : goal.loop-row-preserved
loop-row-preserved c =
    let inv = c.loop-row.invariant in
    let held = c.loop-row.held in (
      copied_more c.args.rows.now c.loop-row.row-index c.row-item.result c.loop-row-test.true c.row-item.is held.rows held.count (omega (arith, inv.1, inv.2)) inv.0,
      omega (arith, inv.1),
      length-set held.rows held.count c.row-item.result ∙ inv.2,
    )

pub returns : goal.returns
returns c =
    let inv = c.loop-row.invariant in
    record { few = omega (arith, inv.1); is = inv.0 ∙ take_all c.loop-row.row-index c.args.rows.now c.loop-row-test.false }
