use Rattle.std.proofs.Common.{◌≡◌, Some, slice_get, arith}
use Rattle.change.proofs.Validity.{valid-of}
use Rattle.change.specs.declared.change.Change.TheVariants.{Unchanged}
use Rattle.pieces.specs.Walkers.{tail_of}
use Rattle.pieces.proofs.Whole.{whole-told}
use Rattle.pieces.proofs.Writing.{weights-fit, first-is}
use Rattle.pieces.proofs.comparison.Comparison.kept_whole.Goals as goal

pub skip-requires-clause-follows : goal.skip-requires-clause-follows
skip-requires-clause-follows g c = let d = c.args.self.now.list in (0, (valid-of d.changes.now d.totals d.valid).follows)

pub skip-requires-clause-fits : goal.skip-requires-clause-fits
skip-requires-clause-fits g c =
    let d = c.args.self.now.list in
    let v = valid-of d.changes.now d.totals d.valid in
    omega (arith, weights-fit d.changes.now, v.new_fits, v.old_fits)

pub returns-in-Some-Unchanged : goal.returns-in-Some-Unchanged
returns-in-Some-Unchanged g c =
    let d = c.args.self.now in
    let rest = c.skip.result.now in
    let u = c.in-Some-Unchanged.unchanged in
    let e : Some (Unchanged u) ≡ slice_get rest 0 = rw c.in-Some-Unchanged.field-0-is at c.in-Some-Unchanged.ensures.value in
    whole-told d.suspect d.parent d.list.changes.now c.in_ok-range.range c.skip.new.offset rest (tail_of rest) u (g.R.TableRow.reads c.args.row.now) c.shifted_range.result
    d.differ (valid-of _ _ d.list.valid) c.requires.inside c.in_ok-range.ensures c.in-None.ensures c.skip.ensures
    (first-is rest (Unchanged u) e) c.if-range-unchanged.true c.shifted_range.ensures
