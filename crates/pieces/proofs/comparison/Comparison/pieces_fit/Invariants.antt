use Rattle.std.proofs.Common.{◌≡◌, ◌+◌, ◌≤◌, map, length, drop}
use Rattle.pieces.specs.Comparisons.{pieces_by}
use Rattle.pieces.specs.Process.{hunks_of}
use Rattle.pieces.proofs.comparison.Comparison.pieces_fit.Given as goal

abbrev pub invariant-loop-row : goal.invariant-loop-row
invariant-loop-row g l =
    (length (pieces_by l.self (hunks_of (map g.R.TableRow.reads l.rows))) + l.left
    ≡ l.room + length (pieces_by l.self (hunks_of (map g.R.TableRow.reads (drop l.row-index l.rows)))))
    × (l.left ≤ l.room)
