use Rattle.std.proofs.Common.{[], ◌∷◌, length, sym, ap, ◌∙◌}
use Rattle.change.proofs.Validity.{valid-of}
use Rattle.pieces.specs.Comparisons.{pieces_by}
use Rattle.pieces.specs.Process.{hunks_of}
use Rattle.pieces.proofs.Rowed.{read_as, not-read}
use Rattle.pieces.proofs.Tabling.{pieces_none, count-unnamed, count-named}
use Rattle.pieces.proofs.comparison.Comparison.count_row.Goals as goal

pub returns-then-not-is_hunk : goal.returns-then-not-is_hunk
returns-then-not-is_hunk g c =
    let d = c.args.self.now in
    let k = not-read (g.R.TableRow.reads c.args.row.now) (sym c.is_hunk.ensures ∙ c.if-not-is_hunk.true) in
    sym (ap (λ v. length (pieces_by d (hunks_of (v ∷ [])))) k ∙ ap length (pieces_none d.suspect d.parent d.list.changes.now))

pub returns-in-Some : goal.returns-in-Some
returns-in-Some g c =
    let d = c.args.self.now in
    let k = read_as (g.R.TableRow.reads c.args.row.now) (sym c.is_hunk.ensures ∙ c.if-not-is_hunk.false) in
    c.count_pieces.ensures
    ∙ sym (ap (λ v. length (pieces_by d (hunks_of (v ∷ [])))) k.1
    ∙ count-named d.suspect d.parent d.list.changes.now k.0 c.in-Some.range (valid-of _ _ d.list.valid).follows (sym (c.in-Some.ensures k.0 k.1).0))

pub returns-in-None : goal.returns-in-None
returns-in-None g c =
    let d = c.args.self.now in
    let k = read_as (g.R.TableRow.reads c.args.row.now) (sym c.is_hunk.ensures ∙ c.if-not-is_hunk.false) in
    sym (ap (λ v. length (pieces_by d (hunks_of (v ∷ [])))) k.1 ∙ count-unnamed d.suspect d.parent d.list.changes.now k.0 (sym (c.in-None.ensures k.0 k.1).0))
