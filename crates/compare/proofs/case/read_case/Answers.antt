use Rattle.std.proofs.Common.{sym, ◌∙◌}
use Rattle.std.proofs.lemmas.Bool.{eqb-true, eqb-false}
use Rattle.compare.proofs.Reading.{parts-read, whole-some, whole-none}
use Rattle.compare.proofs.case.read_case.Goals as goal

pub returns-then-not-is_empty : goal.returns-then-not-is_empty
returns-then-not-is_empty c =
    parts-read c.args.line.now _ _ c.in-Some.rest.now _ c.in_ok-rows.rest.now _ c.in_ok-changes.rest.now _ c.in_ok-expected.rest.now
    (sym c.in-Some.ensures) c.in_ok-rows.ensures c.in_ok-changes.ensures c.in_ok-expected.ensures
    ∙ whole-none _ _ (eqb-false _ _ (sym c.is_empty.ensures ∙ c.if-not-is_empty.true))

pub returns : goal.returns
returns c =
    parts-read c.args.line.now _ _ c.in-Some.rest.now _ c.in_ok-rows.rest.now _ c.in_ok-changes.rest.now _ c.in_ok-expected.rest.now
    (sym c.in-Some.ensures) c.in_ok-rows.ensures c.in_ok-changes.ensures c.in_ok-expected.ensures
    ∙ whole-some _ _ (eqb-true _ _ (sym c.is_empty.ensures ∙ c.if-not-is_empty.false))
