use Rattle.std.proofs.Common.{◌+◌, map, length, drop, sym, refl, ap, arith}
use Rattle.std.proofs.lemmas.Bool.{lt-leb, le-leb}
use Rattle.pieces.specs.Comparisons.{pieces_by}
use Rattle.pieces.specs.Process.{hunks_of}
use Rattle.pieces.proofs.Along.{at_row, at-end}
use Rattle.pieces.proofs.Tabling.{pieces_none, count-row-on}
use Rattle.pieces.proofs.comparison.Comparison.pieces_fit.Goals as goal

pub returns-then-count-left : goal.returns-then-count-left
returns-then-count-left g c =
    let d = c.args.self.now in
    let reads = g.R.TableRow.reads in
    let i = c.loop-row.row-index in
    let r = c.row-item.result in
    let on = at_row reads (λ os. length (pieces_by d (hunks_of os))) c.args.rows.now i r (reads r) c.loop-row-test.true c.row-item.is refl in
    let row = count-row-on d.suspect d.parent d.list.changes.now (reads r) (map reads (drop (i + 1) c.args.rows.now)) in
    sym (lt-leb _ _ (omega (arith, on, row, c.loop-row.invariant.0, c.count_row-count.ensures, c.if-count-left.true)))

pub loop-row-preserved : goal.loop-row-preserved
loop-row-preserved g c =
    let d = c.args.self.now in
    let reads = g.R.TableRow.reads in
    let i = c.loop-row.row-index in
    let r = c.row-item.result in
    let on = at_row reads (λ os. length (pieces_by d (hunks_of os))) c.args.rows.now i r (reads r) c.loop-row-test.true c.row-item.is refl in
    let row = count-row-on d.suspect d.parent d.list.changes.now (reads r) (map reads (drop (i + 1) c.args.rows.now)) in
    (omega (arith, on, row, c.loop-row.invariant.0, c.count_row-count.ensures, c.if-count-left.false), omega (arith, c.loop-row.invariant.1))

pub returns : goal.returns
returns g c =
    let d = c.args.self.now in
    let reads = g.R.TableRow.reads in
    let end = at-end reads (λ os. length (pieces_by d (hunks_of os))) c.args.rows.now c.loop-row.row-index c.loop-row-test.false in
    sym (le-leb _ _ (omega (arith, end, ap length (pieces_none d.suspect d.parent d.list.changes.now), c.loop-row.invariant.0)))
