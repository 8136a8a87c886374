use Rattle.std.proofs.Common.{◌≤◌, length, arith}
use Rattle.hunk.proofs.Owing.{owed}
use Rattle.hunk.proofs.Checks.{row-of}
use Rattle.hunk.proofs.rows.HunkRowFromUnblamedHunk.from.Goals as goal

pub returns : goal.returns
returns c =
    let h = c.args.hunk in
    let r = h.range_in_blamed_file in
    let n : h.count ≤ length h.suspects = omega arith in
    row-of r h.suspects h.count n h.lines (owed r h.suspects h.count n h.level h.within h.apart) _ h.few c.front.ensures
