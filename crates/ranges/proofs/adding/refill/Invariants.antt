use Rattle.std.proofs.Common.{◌≡◌, take}
use Rattle.rank.specs.Tables.{items_of}
use Rattle.ranges.proofs.adding.refill.Given as goal

abbrev pub invariant-loop-row : goal.invariant-loop-row
invariant-loop-row l = (items_of l.table ≡ take l.row-index l.rows) × (l.table.limit ≡ l.initial.table.limit)
