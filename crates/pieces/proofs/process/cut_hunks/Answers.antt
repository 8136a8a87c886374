use Rattle.std.proofs.Common.{map, sym, refl}
use Rattle.pieces.proofs.Answering.{answered-outside, answered-full, answered-pieces, all-inside}
use Rattle.pieces.proofs.process.cut_hunks.Goals as goal

pub returns-in-Some-first_outside : goal.returns-in-Some-first_outside
returns-in-Some-first_outside g c =
    let list = c.in_ok-list.ensures in
    answered-outside g.R.TableRow.means g.R.TableRow.exact c.args.out.now c.args.suspect c.args.parent c.args.changes.now _ _ _ (map g.R.TableRow.reads c.args.rows.now) _
    (sym c.in_default.ensures) (sym c.if-eq.ensures) list.0 list.1 refl c.in-Some-first_outside.row c.in-Some-first_outside.ensures

pub returns-then-not-pieces_fit : goal.returns-then-not-pieces_fit
returns-then-not-pieces_fit g c =
    let list = c.in_ok-list.ensures in
    answered-full g.R.TableRow.means g.R.TableRow.exact c.args.out.now c.args.suspect c.args.parent c.args.changes.now _ _ _ (map g.R.TableRow.reads c.args.rows.now) _
    (sym c.in_default.ensures) (sym c.if-eq.ensures) list.0 list.1 c.min.ensures c.in_default-first_outside.ensures c.if-not-pieces_fit.ensures

pub write_all-requires-clause-inside : goal.write_all-requires-clause-inside
write_all-requires-clause-inside g c =
    let list = c.in_ok-list.ensures in
    all-inside c.args.suspect c.args.changes.now _ (map g.R.TableRow.reads c.args.rows.now) _ list.0 list.1 c.in_default-first_outside.ensures

pub returns : goal.returns
returns g c =
    let list = c.in_ok-list.ensures in
    answered-pieces g.R.TableRow.means g.R.TableRow.exact c.args.out.now c.args.suspect c.args.parent c.args.changes.now _ _ _ (map g.R.TableRow.reads c.args.rows.now) _
    (sym c.in_default.ensures) (sym c.if-eq.ensures) list.0 list.1 c.min.ensures c.write_all.result c.write_all.new.out
    c.in_default-first_outside.ensures c.if-not-pieces_fit.ensures c.write_all.ensures.count c.write_all.ensures.rows
