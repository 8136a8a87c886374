use Rattle.std.proofs.Common.{arith}
use Rattle.change.proofs.Validity.{valid-of}
use Rattle.pieces.proofs.Counting.{none-behind}
use Rattle.pieces.proofs.count.count_pieces.Goals as goal

pub returns-then-range-lines : goal.returns-then-range-lines
returns-then-range-lines c =
    omega (arith, c.loop-change.invariant.0, none-behind c.args.list.changes.now c.loop-change.change-index c.in-Unchanged.lines c.loop-change.so_far.last c.args.range.end (valid-of _ _ c.args.list.valid).follows c.loop-change-test.true c.in-Unchanged.is c.if-range-lines.true)
