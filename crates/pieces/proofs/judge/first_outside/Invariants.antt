use Rattle.std.proofs.Common.{◌≡◌, map, drop}
use Rattle.pieces.specs.Process.{first_outside}
use Rattle.pieces.proofs.judge.first_outside.Given as goal

abbrev pub invariant-loop-i : goal.invariant-loop-i
invariant-loop-i g l =
    first_outside l.suspect l.total l.i (map g.R.TableRow.reads (drop l.i l.rows))
    ≡ first_outside l.suspect l.total 0 (map g.R.TableRow.reads l.rows)
