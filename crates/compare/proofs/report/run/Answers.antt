use Rattle.std.proofs.Common.{inl, arith}
use Rattle.text.proofs.Cutting.{few-lines}
use Rattle.compare.proofs.report.run.Goals as goal

pub loop-before-init : goal.loop-before-init
loop-before-init c =
    let few = few-lines c.args.text.now in
    let e = c.enumerate-before-items.ensures in
    ((tt, tt, inl (rw (c.into_iter-before-iterator.ensures.into_iter_gives, e.count, e.source) (omega (arith, few)))), tt)
