use Rattle.pieces.proofs.Rowed.{renamed-row}
use Rattle.pieces.proofs.rows.HunkRowTableRow.renamed.Goals as goal

pub returns : goal.returns
returns c h e k = renamed-row c.args.self.now c.renamed.result h c.args.from c.args.to c.args.range e k c.renamed.ensures.hunk
