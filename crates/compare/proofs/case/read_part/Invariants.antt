use Rattle.std.proofs.Common.{◌≡◌, ◌-◌, vec_items}
use Rattle.compare.specs.Items.{more}
use Rattle.compare.specs.Lines.{part_of}
use Rattle.compare.proofs.case.read_part.Given as goal

abbrev pub invariant-loop : goal.invariant-loop
invariant-loop g l = more g.T.Item.reads (vec_items l.items) (l.size - l.counter) l.rest ≡ part_of g.T.Item.reads l.letter l.text
