use Rattle.std.proofs.Common.{◌≡◌, [], ◌∷◌, length, sym, ap, ◌∙◌, subst}
use Rattle.pieces.specs.Comparisons.{pieces_by}
use Rattle.pieces.specs.Process.{hunks_of}
use Rattle.pieces.specs.Tables.{Filled}
use Rattle.pieces.proofs.Filling.{fill_none}
use Rattle.pieces.proofs.Rowed.{not-read}
use Rattle.pieces.proofs.Tabling.{pieces_none}
use Rattle.pieces.proofs.comparison.Comparison.write_row.Goals as goal

pub returns-then-not-is_hunk : goal.returns-then-not-is_hunk
returns-then-not-is_hunk g c =
    let d = c.args.self.now in
    let out = c.args.out.now in
    let k = not-read (g.R.TableRow.reads c.args.row.now) (sym c.is_hunk.ensures ∙ c.if-not-is_hunk.true) in
    let e : pieces_by d (hunks_of (g.R.TableRow.reads c.args.row.now ∷ [])) ≡ [] =
    ap (λ v. pieces_by d (hunks_of (v ∷ []))) k ∙ pieces_none d.suspect d.parent d.list.changes.now in
    record {
      count = sym (ap length e);
      rows = subst (λ l. Filled g.R.TableRow.means g.R.TableRow.exact out l out) (sym e) (fill_none g.R.TableRow.means g.R.TableRow.exact out);
    }
