use Rattle.std.proofs.Common.{drop, vec_items}
use Rattle.runs.proofs.Along.{Walked}
use Rattle.runs.proofs.Puts.{runs_of}
use Rattle.runs.proofs.rows.rows.Given as goal

abbrev pub invariant-loop-change : goal.invariant-loop-change
invariant-loop-change l = Walked l.changes (drop l.change-index l.changes) (runs_of (vec_items l.rows)) l.old
