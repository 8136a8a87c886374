use Rattle.std.proofs.Common.{◌≡◌, length, take}
use Rattle.ranges.proofs.held.copy.Given as goal

abbrev pub invariant-loop-row : goal.invariant-loop-row
invariant-loop-row l = (take l.held.count l.held.rows ≡ take l.row-index l.rows) × (l.held.count ≡ l.row-index) × (length l.held.rows ≡ 64)
