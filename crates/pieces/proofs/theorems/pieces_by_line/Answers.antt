use Rattle.pieces.proofs.Lines.{pieces-by-line}
use Rattle.pieces.proofs.theorems.pieces_by_line.Goals as goal

pub returns : goal.returns
returns c = pieces-by-line
