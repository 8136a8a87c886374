use Rattle.std.proofs.Common.{◌≡◌, map, length, take}
use Rattle.hunk.proofs.Cuts.{fronts, backs}
use Rattle.hunk.proofs.split.halves.Given as goal

abbrev pub invariant-loop-i : goal.invariant-loop-i
invariant-loop-i l = (take l.i l.before ≡ map (fronts l.k) (take l.i (take l.hunk.count l.hunk.suspects)))
    × (take l.i l.after ≡ map (backs l.k) (take l.i (take l.hunk.count l.hunk.suspects)))
    × (length l.before ≡ 8) × (length l.after ≡ 8)
