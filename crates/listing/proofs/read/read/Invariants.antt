use Rattle.std.proofs.Common.{map, length, vec_items}
use Rattle.listing.specs.Entries.{entry_of}
use Rattle.listing.proofs.Passing.{Between}
use Rattle.listing.proofs.read.read.Given as goal

abbrev pub invariant-loop-at : goal.invariant-loop-at
invariant-loop-at l = Between (map entry_of (vec_items l.lists)) (vec_items l.strays) l.text l.at.line l.at.rest.now

abbrev pub decreases-loop-at : goal.decreases-loop-at
decreases-loop-at l = length l.at.rest.now
