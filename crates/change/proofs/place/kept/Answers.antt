use Rattle.std.proofs.Common.{◌≡◌, Ok, sym, ap, ◌∙◌, subst}
use Rattle.change.specs.Lists.{checked}
use Rattle.change.specs.Places.{walk, kept, of_valid, Placed}
use Rattle.change.proofs.Validity.{valid-of}
use Rattle.change.proofs.Walks.{walk-finds, placed}
use Rattle.change.proofs.place.kept.Goals as goal

pub returns : goal.returns
returns c =
    let cs = c.args.changes.now in
    let n = c.args.line in
    let list = c.in_ok-list.list in
    let same : list.changes.now ≡ cs = c.in_ok-list.ensures in
    let ok : checked cs ≡ Ok list.totals = subst (λ x. checked x ≡ Ok list.totals) same list.valid in
    let f = (valid-of cs list.totals ok).follows in
    let e : c.place.result ≡ kept cs n = subst (λ x. c.place.result ≡ walk 0 0 x n) same c.place.ensures ∙ walk-finds cs n f in
    record {
      is = subst (λ k. Ok c.place.result ≡ of_valid k (kept cs n)) (sym ok) (ap Ok e);
      placed = subst (Placed cs n) (sym e) (placed cs n f);
    }
