use Rattle.std.proofs.Common.{◌+◌, cond, map, drop, Some, sym, refl, ap, ◌∙◌}
use Rattle.pieces.specs.Process.{first_outside}
use Rattle.pieces.proofs.Along.{at_row, at-end}
use Rattle.pieces.proofs.judge.first_outside.Goals as goal

pub returns-then-is_outside : goal.returns-then-is_outside
returns-then-is_outside g c =
    let i = c.loop-i.i in
    let F = first_outside c.args.suspect c.args.total in
    let rest = map g.R.TableRow.reads (drop (i + 1) c.args.rows.now) in
    ap (λ b. cond b (Some i) (F (i + 1) rest)) c.if-is_outside.ensures
    ∙ sym (at_row g.R.TableRow.reads (F i) c.args.rows.now i c.index-rows-i.result (g.R.TableRow.reads c.index-rows-i.result) c.loop-i-test.true c.index-rows-i.is refl)
    ∙ c.loop-i.invariant

pub loop-i-preserved : goal.loop-i-preserved
loop-i-preserved g c =
    let i = c.loop-i.i in
    let F = first_outside c.args.suspect c.args.total in
    let rest = map g.R.TableRow.reads (drop (i + 1) c.args.rows.now) in
    ap (λ b. cond b (Some i) (F (i + 1) rest)) c.if-is_outside.ensures
    ∙ sym (at_row g.R.TableRow.reads (F i) c.args.rows.now i c.index-rows-i.result (g.R.TableRow.reads c.index-rows-i.result) c.loop-i-test.true c.index-rows-i.is refl)
    ∙ c.loop-i.invariant

pub returns : goal.returns
returns g c = sym (at-end g.R.TableRow.reads (first_outside c.args.suspect c.args.total c.loop-i.i) c.args.rows.now c.loop-i.i c.loop-i-test.false) ∙ c.loop-i.invariant
