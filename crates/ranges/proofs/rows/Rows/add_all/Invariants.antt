use Rattle.std.proofs.Common.{◌≡◌, drop}
use Rattle.ranges.specs.Adds.{add_all_from, add_all_of}
use Rattle.ranges.specs.Ranges.{rows_of}
use Rattle.ranges.proofs.rows.Rows.add_all.Given as goal

abbrev pub invariant-loop-position : goal.invariant-loop-position
invariant-loop-position l = add_all_from l.position-counter (rows_of l.self) (drop l.position-counter l.list) ≡ add_all_of (rows_of l.initial.self) l.list
