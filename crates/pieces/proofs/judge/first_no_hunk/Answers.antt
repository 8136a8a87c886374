use Rattle.std.proofs.Common.{◌+◌, ◌∷◌, map, drop, sym, refl, ap, ◌∙◌}
use Rattle.pieces.specs.Process.{first_none}
use Rattle.pieces.proofs.Along.{at_row, at-end}
use Rattle.pieces.proofs.Rowed.{not-read, read_as}
use Rattle.pieces.proofs.judge.first_no_hunk.Goals as goal

pub returns-then-not-is_hunk : goal.returns-then-not-is_hunk
returns-then-not-is_hunk g c =
    let i = c.loop-i.i in
    let r = c.index-rows-i.result in
    let rest = map g.R.TableRow.reads (drop (i + 1) c.args.rows.now) in
    let none = not-read (g.R.TableRow.reads r) (sym c.is_hunk.ensures ∙ c.if-not-is_hunk.true) in
    sym (ap (λ v. first_none i (v ∷ rest)) none)
    ∙ sym (at_row g.R.TableRow.reads (first_none i) c.args.rows.now i r (g.R.TableRow.reads r) c.loop-i-test.true c.index-rows-i.is refl)
    ∙ c.loop-i.invariant

pub loop-i-preserved : goal.loop-i-preserved
loop-i-preserved g c =
    let i = c.loop-i.i in
    let r = c.index-rows-i.result in
    let rest = map g.R.TableRow.reads (drop (i + 1) c.args.rows.now) in
    let some = read_as (g.R.TableRow.reads r) (sym c.is_hunk.ensures ∙ c.if-not-is_hunk.false) in
    sym (ap (λ v. first_none i (v ∷ rest)) some.1)
    ∙ sym (at_row g.R.TableRow.reads (first_none i) c.args.rows.now i r (g.R.TableRow.reads r) c.loop-i-test.true c.index-rows-i.is refl)
    ∙ c.loop-i.invariant

pub returns : goal.returns
returns g c = sym (at-end g.R.TableRow.reads (first_none c.loop-i.i) c.args.rows.now c.loop-i.i c.loop-i-test.false) ∙ c.loop-i.invariant
