use Rattle.std.proofs.Common.{sym, ap, ◌∙◌}
use Rattle.runs.specs.Rows.{row_of}
use Rattle.runs.specs.Steps.{put}
use Rattle.runs.proofs.Puts.{last-is, last-set, pushed, put-joined}
use Rattle.runs.proofs.rows.append.Goals as goal

pub returns-in-Some-join : goal.returns-in-Some-join
returns-in-Some-join c =
    let rows = c.args.rows.now in
    let row = row_of c.args.row in
    let h = c.in-Some.ensures.item.3.0 in
    let before = pushed _ _ _ (last-is rows.items _ c.in-Some.last.now rows.ok.0 h c.in-Some.ensures.value) in
    let after = pushed _ _ _ (last-set rows.items _ c.in-Some-join.joined rows.ok.0 h) in
    after ∙ put-joined (row_of c.in-Some.last.now) row _ _ c.in-Some-join.ensures ∙ sym (ap (put row) before)
