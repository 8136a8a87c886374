use Rattle.std.proofs.Common.{◌≡◌, replicate}
use Rattle.hunk.specs.Sound.{blank}
use Rattle.hunk.proofs.Laid.{laid}
use Rattle.hunk.proofs.suspects.front.Given as goal

abbrev pub invariant-loop-i : goal.invariant-loop-i
invariant-loop-i l = l.written ≡ laid l.suspect-items (replicate 8 blank) l.i
