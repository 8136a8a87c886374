use Rattle.std.proofs.Common.{◌≡◌, drop}
use Rattle.std.specs.List.{list_all}
use Rattle.hunk.specs.Rows.{fits}
use Rattle.hunk.proofs.rows.all_fit.Given as goal

abbrev pub invariant-loop-suspect : goal.invariant-loop-suspect
invariant-loop-suspect l = list_all (fits l.size) (drop l.suspect-index l.suspects) ≡ list_all (fits l.size) l.suspects
