use Rattle.std.proofs.Common.{◌<◌, length, vec_items, sym, ap, ◌∙◌, subst, arith}
use Rattle.std.proofs.lemmas.Bool.{eqb-true, eqb-false}
use Rattle.listing.specs.Listings.{kind_of}
use Rattle.listing.proofs.Passing.{Ended, entry-is, inside-as, shorter, inside-change, inside-other, ended-text, ended-blank, ended-heading}
use Rattle.listing.proofs.read.read_list.Goals as goal
use Rattle.listing.proofs.read.read_list.Goals.{in-Change+in_ok-push-in-Change, in-Other+in_ok-push-in-Other}
use Rattle.listing.proofs.read.read_list.Goals.{else-loop-text-test, then-loop-text-test+in-Heading, then-loop-text-test+in-Blank}

pub loop-text-smaller : goal.loop-text-smaller
loop-text-smaller c =
    let t = c.loop-text.at.rest.now in
    let h : 0 < length t = omega (arith, eqb-false _ _ (sym c.is_empty.ensures ∙ c.loop-text-test.true)) in
    subst (λ l. length l < length t) (sym c.first_line.ensures.rest) (shorter t h)

pub loop-text-preserved : goal.loop-text-preserved
loop-text-preserved c =
    let t = c.loop-text.at.rest.now in
    let h : 0 < length t = omega (arith, eqb-false _ _ (sym c.is_empty.ensures ∙ c.loop-text-test.true)) in
    let line = c.first_line.ensures.line in
    let rest = c.first_line.ensures.rest in
    elim c.match-read_line.branch [
      | in-Change+in_ok-push-in-Change w ↦
          inside-as (ap vec_items w.changes-is ∙ w.in_ok-push-in-Change.ensures.items) (ap vec_items w.strays-is) rest
          (inside-change _ _ _ _ c.loop-text.at.line t c.loop-text.invariant w.in-Change.change h (sym (ap kind_of line) ∙ sym w.in-Change.ensures))
      | in-Other+in_ok-push-in-Other w ↦
          inside-as (ap vec_items w.changes-is) (ap vec_items w.strays-is ∙ w.in_ok-push-in-Other.ensures.items) rest
          (inside-other _ _ _ _ c.loop-text.at.line t c.loop-text.invariant h (sym (ap kind_of line) ∙ sym w.in-Other.ensures))
    ]

pub returns : goal.returns
returns c =
    let t = c.loop-text.at.rest.now in
    let e : Ended (vec_items c.loop-text.changes) (vec_items c.loop-text.strays) c.args.cursor.now.line c.args.cursor.now.rest.now c.loop-text.at.line t c.loop-text.invariant =
    elim c.loop-text-test.branch [
      | else-loop-text-test w ↦ ended-text _ _ _ _ _ t c.loop-text.invariant (eqb-true _ _ (sym c.is_empty.ensures ∙ w.loop-text-test.false))
      | then-loop-text-test+in-Heading w ↦
          ended-heading _ _ _ _ _ t c.loop-text.invariant w.in-Heading.field-0.now (omega (arith, eqb-false _ _ (sym c.is_empty.ensures ∙ w.loop-text-test.true)))
          (sym (ap kind_of w.first_line.ensures.line) ∙ sym w.in-Heading.ensures)
      | then-loop-text-test+in-Blank w ↦
          ended-blank _ _ _ _ _ t c.loop-text.invariant (omega (arith, eqb-false _ _ (sym c.is_empty.ensures ∙ w.loop-text-test.true)))
          (sym (ap kind_of w.first_line.ensures.line) ∙ sym w.in-Blank.ensures)
    ] in
    record { list = entry-is _ _ _ _ _ _ e.changes e.strays; passed = e.passed }
