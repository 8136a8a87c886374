use Rattle.std.proofs.Common.{◌≡◌, ◌+◌, drop, Ok, Err, sym, ◌∙◌, subst}
use Rattle.std.proofs.lemmas.List.{at_drop_more, at_drop_all}
use Rattle.change.specs.Lists.{check_from, checked, Judged}
use Rattle.change.proofs.Validity.{judged, check-stops}
use Rattle.change.proofs.list.check_list.Goals as goal

pub returns-in_default : goal.returns-in_default
returns-in_default c =
    let i = c.loop-position.position in
    let cs = c.args.changes.now in
    let e : Err (record { position = i }) ≡ checked cs =
    sym (check-stops i c.loop-position.at _ (drop (i + 1) cs) (sym c.in_default.ensures.is))
    ∙ sym (at_drop_more (check_from i c.loop-position.at) cs i _ c.loop-position-test.true)
    ∙ c.loop-position.invariant.0 in
    record { is = e; judged = subst (Judged cs) (sym e) (judged cs) }

pub returns : goal.returns
returns c =
    let i = c.loop-position.position in
    let cs = c.args.changes.now in
    let e : Ok c.loop-position.at ≡ checked cs =
    sym (at_drop_all (check_from i c.loop-position.at) cs i c.loop-position-test.false) ∙ c.loop-position.invariant.0 in
    record { is = e; judged = subst (Judged cs) (sym e) (judged cs) }
