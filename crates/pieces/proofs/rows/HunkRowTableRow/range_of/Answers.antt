use Rattle.std.proofs.Common.{◌<◌, ap, ◌∙◌, arith}
use Rattle.hunk.specs.Hunks.{Piece, range_in}
use Rattle.hunk.specs.Rows.{row_piece}
use Rattle.hunk.proofs.Checks.{right}
use Rattle.hunk.proofs.Rowwise.{range-of-hunk}
use Rattle.pieces.proofs.Rowed.{reads-row}
use Rattle.pieces.proofs.rows.HunkRowTableRow.range_of.Goals as goal

pub returns : goal.returns
returns c h e =
    let r = c.args.self.now in
    let b = reads-row r h e in
    let l = (right r b.0).lines in
    let some : 0 < (row_piece r).size = omega arith in
    let size = ap (λ (v : Piece). v.size) b.1 in
    (c.range_of.ensures ∙ range-of-hunk r c.args.source b.0 ∙ ap (range_in c.args.source) b.1, omega arith)
