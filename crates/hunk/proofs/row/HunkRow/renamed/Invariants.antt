use Rattle.std.proofs.Common.{◌≡◌, map, replicate}
use Rattle.hunk.specs.Sound.{blank}
use Rattle.hunk.specs.Rows.{rename_at}
use Rattle.hunk.proofs.Laid.{laid}
use Rattle.hunk.proofs.row.HunkRow.renamed.Given as goal

abbrev pub invariant-loop-i : goal.invariant-loop-i
invariant-loop-i l = l.suspects ≡ laid (map (rename_at l.from l.to l.range) l.used) (replicate 8 blank) l.i
