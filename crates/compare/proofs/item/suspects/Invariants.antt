use Rattle.std.proofs.Common.{◌++◌, drop, replicate}
use Rattle.compare.specs.Items.{nobody}
use Rattle.compare.proofs.Reading.{Placing}
use Rattle.compare.proofs.item.suspects.Given as goal

abbrev pub invariant-loop-place : goal.invariant-loop-place
invariant-loop-place l = Placing l.count l.text l.place-index (l.place-items ++ drop l.count (replicate 8 nobody)) l.rest
