use Rattle.std.proofs.Common.{length, vec_items}
use Rattle.listing.proofs.Passing.{Inside}
use Rattle.listing.proofs.read.read_list.Given as goal

abbrev pub invariant-loop-text : goal.invariant-loop-text
invariant-loop-text l =
    Inside (vec_items l.changes) (vec_items l.strays) l.cursor.line l.cursor.rest.now l.at.line l.at.rest.now

abbrev pub decreases-loop-text : goal.decreases-loop-text
decreases-loop-text l = length l.at.rest.now
