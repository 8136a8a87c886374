use Rattle.std.proofs.Common.{◌≡◌, ◌++◌, map, take, drop}
use Rattle.hunk.specs.Rows.{rename_at}
use Rattle.hunk.proofs.suspects.rename.Given as goal

abbrev pub invariant-loop-suspect : goal.invariant-loop-suspect
invariant-loop-suspect l =
    l.suspects ≡ map (rename_at l.from l.to l.range) (take l.suspect-index l.fn.suspects) ++ drop l.suspect-index l.fn.suspects
