use Rattle.std.proofs.Common.{◌≡◌, length}
use Rattle.hunk.specs.Rows.{different}
use Rattle.hunk.proofs.rows.all_differ.Given as goal

abbrev pub invariant-loop-left : goal.invariant-loop-left
invariant-loop-left l = different l.left ≡ different l.suspects

abbrev pub decreases-loop-left : goal.decreases-loop-left
decreases-loop-left l = length l.left
