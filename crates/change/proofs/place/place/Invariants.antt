use Rattle.std.proofs.Common.{◌≡◌, drop}
use Rattle.change.specs.Places.{walk}
use Rattle.change.proofs.Walks.{Going}
use Rattle.change.proofs.place.place.Given as goal

abbrev pub invariant-loop-change : goal.invariant-loop-change
invariant-loop-change l =
    (walk l.added l.deleted (drop l.change-index l.list.changes.now) l.line ≡ walk 0 0 l.list.changes.now l.line)
    × Going (drop l.change-index l.list.changes.now) l.line l.added l.deleted
