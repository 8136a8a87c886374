use Rattle.std.proofs.Common.{map, drop}
use Rattle.pieces.proofs.Tabling.{Along}
use Rattle.pieces.proofs.comparison.Comparison.write_all.Given as goal

abbrev pub invariant-loop-row : goal.invariant-loop-row
invariant-loop-row g l =
    Along g.R.TableRow.means g.R.TableRow.exact l.initial.out l.self.suspect l.self.parent l.self.list.changes.now
    (map g.R.TableRow.reads l.rows) (map g.R.TableRow.reads (drop l.row-index l.rows)) l.row-index l.out l.used
