use Rattle.std.proofs.Common.{◌≡◌, drop}
use Rattle.change.specs.Lists.{Within, check_from, checked}
use Rattle.change.proofs.list.check_list.Given as goal

abbrev pub invariant-loop-position : goal.invariant-loop-position
invariant-loop-position l = (check_from l.position l.at (drop l.position l.changes) ≡ checked l.changes) × Within l.at
