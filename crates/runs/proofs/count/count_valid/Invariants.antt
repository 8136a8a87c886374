use Rattle.std.proofs.Common.{drop}
use Rattle.runs.proofs.Counting.{Counted}
use Rattle.runs.proofs.count.count_valid.Given as goal

abbrev pub invariant-loop-change : goal.invariant-loop-change
invariant-loop-change l = Counted l.list.changes.now (drop l.change-index l.list.changes.now) l.count
