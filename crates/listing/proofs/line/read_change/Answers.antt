use Rattle.std.proofs.Common.{sym, subst}
use Rattle.listing.specs.Format.{Reads}
use Rattle.listing.proofs.Reading.{change-reads}
use Rattle.listing.proofs.line.read_change.Goals as goal

pub returns : goal.returns
returns c = record { is = c.parse.ensures; reads = subst (Reads c.args.line.now) (sym c.parse.ensures) (change-reads c.args.line.now) }
