use Rattle.std.proofs.Common.{◌≡◌, ◌≤◌, length, take, filter}
use Rattle.hunk.specs.Rows.{differs}
use Rattle.hunk.proofs.passing.dropped.Given as goal

abbrev pub invariant-loop-suspect : goal.invariant-loop-suspect
invariant-loop-suspect l = (take l.count l.left ≡ filter (differs l.from) (take l.suspect-index (take l.hunk.count l.hunk.suspects)))
    × (l.count ≤ l.suspect-index) × (length l.left ≡ 8)
