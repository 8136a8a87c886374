use Rattle.std.proofs.Common.{◌≡◌, map, drop}
use Rattle.pieces.specs.Process.{first_none}
use Rattle.pieces.proofs.judge.first_no_hunk.Given as goal

abbrev pub invariant-loop-i : goal.invariant-loop-i
invariant-loop-i g l = first_none l.i (map g.R.TableRow.reads (drop l.i l.rows)) ≡ first_none 0 (map g.R.TableRow.reads l.rows)
