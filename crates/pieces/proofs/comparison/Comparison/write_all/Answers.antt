use Rattle.std.proofs.Common.{◌+◌, ◌++◌, map, length, drop, sym, ap, ◌∙◌, subst, arith}
use Rattle.std.proofs.lemmas.List.{append-nil, take_rest, length-drop}
use Rattle.pieces.specs.Comparisons.{pieces_by}
use Rattle.pieces.specs.Process.{hunks_of}
use Rattle.pieces.specs.Tables.{Filled}
use Rattle.pieces.proofs.Along.{at-end}
use Rattle.pieces.proofs.Tabling.{along-room, along-here, along-row, pieces_none}
use Rattle.pieces.proofs.comparison.Comparison.write_all.Goals as goal

pub write_row-used-requires-clause-room : goal.write_row-used-requires-clause-room
write_row-used-requires-clause-room g c =
    let d = c.args.self.now in
    let i = c.loop-row.row-index in
    let reads = g.R.TableRow.reads in
    let r = c.row-item.result in
    let on = along-here g.R.TableRow.means g.R.TableRow.exact _ _ _ d.list.changes.now reads c.args.rows.now i r _ _ c.loop-row-test.true c.row-item.is c.loop-row.invariant in
    let room = along-room _ _ _ _ _ _ _ (map reads (drop (i + 1) c.args.rows.now)) i c.loop-row.out c.loop-row.used (reads r) on in
    omega (arith, room, ap length (take_rest c.loop-row.out c.loop-row.used), length-drop c.loop-row.used c.loop-row.out)

pub loop-row-preserved : goal.loop-row-preserved
loop-row-preserved g c =
    let d = c.args.self.now in
    let i = c.loop-row.row-index in
    let reads = g.R.TableRow.reads in
    let r = c.row-item.result in
    let os = map reads (drop (i + 1) c.args.rows.now) in
    let on = along-here g.R.TableRow.means g.R.TableRow.exact _ _ _ d.list.changes.now reads c.args.rows.now i r _ _ c.loop-row-test.true c.row-item.is c.loop-row.invariant in
    along-row _ _ _ _ _ _ _ os i c.loop-row.out c.loop-row.used (reads r) c.write_row-used.new.out c.write_row-used.result on c.write_row-used.ensures.count c.write_row-used.ensures.rows

pub returns : goal.returns
returns g c =
    let d = c.args.self.now in
    let reads = g.R.TableRow.reads in
    let a = c.loop-row.invariant in
    let end = at-end reads (λ os. pieces_by d (hunks_of os)) c.args.rows.now c.loop-row.row-index c.loop-row-test.false ∙ pieces_none d.suspect d.parent d.list.changes.now in
    let q = sym (append-nil a.ready) ∙ sym (ap (λ l. a.ready ++ l) end) ∙ a.whole in
    record {
      count = a.used-is ∙ ap length q;
      rows = subst (λ l. Filled g.R.TableRow.means g.R.TableRow.exact c.args.out.now l c.loop-row.out) q a.filled;
    }
