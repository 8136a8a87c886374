use Rattle.std.proofs.Common.{length}
use Rattle.pieces.specs.Skips.{Skipped}
use Rattle.pieces.proofs.skip.skip.Given as goal

abbrev pub invariant-loop-left : goal.invariant-loop-left
invariant-loop-left l = Skipped l.range l.changes l.left l.initial.offset l.offset

abbrev pub decreases-loop-left : goal.decreases-loop-left
decreases-loop-left l = length l.left
