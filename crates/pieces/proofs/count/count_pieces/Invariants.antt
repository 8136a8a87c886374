use Rattle.std.proofs.Common.{◌≡◌, ◌+◌, ◌*◌, ◌≤◌, drop}
use Rattle.pieces.specs.Pieces.{cuts}
use Rattle.pieces.specs.Counts.{inside_from}
use Rattle.pieces.proofs.Counting.{total}
use Rattle.pieces.proofs.count.count_pieces.Given as goal

abbrev pub invariant-loop-change : goal.invariant-loop-change
invariant-loop-change l =
    (total l.so_far l.range.end (cuts (drop l.change-index l.list.changes.now)) ≡ 1 + inside_from l.range.start l.range.end (cuts l.list.changes.now))
    × (l.so_far.count ≤ 1 + 2 * l.change-index)
