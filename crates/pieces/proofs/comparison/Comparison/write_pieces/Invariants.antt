use Rattle.std.proofs.Common.{◌+◌, cond, is_some, length}
use Rattle.std.specs.Option.{option_map}
use Rattle.hunk.specs.Rows.{piece_of}
use Rattle.pieces.proofs.Writing.{Going}
use Rattle.pieces.proofs.comparison.Comparison.write_pieces.Given as goal

abbrev pub invariant-loop-at_hand : goal.invariant-loop-at_hand
invariant-loop-at_hand g l =
    Going g.R.TableRow.means g.R.TableRow.exact l.initial.out l.self.suspect l.self.parent l.self.list.changes.now (piece_of l.fn.hunk)
    l.out l.used l.offset (option_map piece_of l.at_hand) l.left

abbrev pub decreases-loop-at_hand : goal.decreases-loop-at_hand
decreases-loop-at_hand g l = length l.left + cond (is_some l.at_hand) 1 0
