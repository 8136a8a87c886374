use Rattle.std.proofs.Common.{◌≡◌, drop}
use Rattle.std.specs.List.{list_all}
use Rattle.hunk.specs.Rows.{differs}
use Rattle.hunk.proofs.rows.none_names.Given as goal

abbrev pub invariant-loop-suspect : goal.invariant-loop-suspect
invariant-loop-suspect l = list_all (differs l.source) (drop l.suspect-index l.suspects) ≡ list_all (differs l.source) l.suspects
