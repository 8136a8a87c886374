use Rattle.std.proofs.Common.{sym, ap, ◌∙◌}
use Rattle.hunk.specs.Rows.{piece_of, row_piece, row_of}
use Rattle.pieces.proofs.Answering.{row_back}
use Rattle.pieces.proofs.rows.HunkRowTableRow.written.Goals as goal

pub returns : goal.returns
returns c =
    let m = ap row_piece c.from.ensures ∙ row_back (piece_of c.args.hunk) in
    record { means = m; exact = c.from.ensures ∙ sym (ap row_of m) }
