use Rattle.std.proofs.Common.{◌≡◌, drop}
use Rattle.hunk.specs.Rows.{range_at}
use Rattle.hunk.proofs.suspects.range_at.Given as goal

abbrev pub invariant-loop-suspect : goal.invariant-loop-suspect
invariant-loop-suspect l = range_at l.source (drop l.suspect-index l.suspects) ≡ range_at l.source l.suspects
