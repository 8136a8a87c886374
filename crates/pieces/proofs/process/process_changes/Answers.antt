use Rattle.pieces.proofs.Answering.{answered-rows}
use Rattle.pieces.proofs.process.process_changes.Goals as goal

pub returns-clause-table : goal.returns-clause-table
returns-clause-table c = (answered-rows _ _ _ _ c.cut_hunks.ensures).1
