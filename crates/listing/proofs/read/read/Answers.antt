use Rattle.std.proofs.Common.{◌+◌, ◌<◌, [], ◌∷◌, ◌++◌, map, length, vec_items, sym, refl, ap, ◌∙◌, subst, arith}
use Rattle.std.proofs.lemmas.Bool.{eqb-false}
use Rattle.std.proofs.lemmas.List.{map_push}
use Rattle.listing.specs.Entries.{entry_of, entry_at, Passed}
use Rattle.listing.specs.Listings.{kind_of, kinds, recorded, other}
use Rattle.listing.proofs.Passing.{between-as, between-blank, between-stray, between-list, shorter}
use Rattle.listing.proofs.read.read.Goals as goal

pub loop-at-smaller-in_ok-push-in-Heading : goal.loop-at-smaller-in_ok-push-in-Heading
loop-at-smaller-in_ok-push-in-Heading c =
    let t = c.loop-at.at.rest.now in
    let h : 0 < length t = omega (arith, eqb-false _ _ (sym c.is_empty.ensures ∙ c.loop-at-test.true)) in
    let p = c.in_ok-read_list-in-Heading.ensures.passed in
    omega (arith, p.shorter, ap length c.first_line.ensures.rest, shorter t h)

pub loop-at-preserved-in_ok-push-in-Heading : goal.loop-at-preserved-in_ok-push-in-Heading
loop-at-preserved-in_ok-push-in-Heading c =
    let t = c.loop-at.at.rest.now in
    let j = c.loop-at.at.line in
    let h : 0 < length t = omega (arith, eqb-false _ _ (sym c.is_empty.ensures ∙ c.loop-at-test.true)) in
    let name = c.in-Heading.name.now in
    let u = c.read_list.new.cursor.rest.now in
    let i = c.read_list.new.cursor.line in
    let l = c.in_ok-read_list-in-Heading.ensures in
    let p = subst (λ x. Passed (j + 1) x i u) c.first_line.ensures.rest l.passed in
    let e = l.list ∙ ap (λ x. entry_at j name (j + 1) (kinds x)) c.first_line.ensures.rest in
    between-as
    (ap (map entry_of) c.in_ok-push-in-Heading.ensures.items ∙ map_push entry_of (vec_items c.loop-at.lists) c.in_ok-read_list-in-Heading.field-0
    ∙ ap (λ x. map entry_of (vec_items c.loop-at.lists) ++ x ∷ []) e)
    refl refl
    (between-list _ _ _ j t c.loop-at.invariant h name i u (sym (ap kind_of c.first_line.ensures.line) ∙ sym c.in-Heading.ensures) p)

pub loop-at-smaller-in-Blank : goal.loop-at-smaller-in-Blank
loop-at-smaller-in-Blank c =
    let t = c.loop-at.at.rest.now in
    let h : 0 < length t = omega (arith, eqb-false _ _ (sym c.is_empty.ensures ∙ c.loop-at-test.true)) in
    subst (λ l. length l < length t) (sym c.first_line.ensures.rest) (shorter t h)

pub loop-at-preserved-in-Blank : goal.loop-at-preserved-in-Blank
loop-at-preserved-in-Blank c =
    let t = c.loop-at.at.rest.now in
    let h : 0 < length t = omega (arith, eqb-false _ _ (sym c.is_empty.ensures ∙ c.loop-at-test.true)) in
    between-as refl refl c.first_line.ensures.rest
    (between-blank _ _ _ _ t c.loop-at.invariant h (sym (ap kind_of c.first_line.ensures.line) ∙ sym c.in-Blank.ensures))

pub loop-at-smaller-in_ok-push-in-Change : goal.loop-at-smaller-in_ok-push-in-Change
loop-at-smaller-in_ok-push-in-Change c =
    let t = c.loop-at.at.rest.now in
    let h : 0 < length t = omega (arith, eqb-false _ _ (sym c.is_empty.ensures ∙ c.loop-at-test.true)) in
    subst (λ l. length l < length t) (sym c.first_line.ensures.rest) (shorter t h)

pub loop-at-preserved-in_ok-push-in-Change : goal.loop-at-preserved-in_ok-push-in-Change
loop-at-preserved-in_ok-push-in-Change c =
    let t = c.loop-at.at.rest.now in
    let h : 0 < length t = omega (arith, eqb-false _ _ (sym c.is_empty.ensures ∙ c.loop-at-test.true)) in
    between-as refl c.in_ok-push-in-Change.ensures.items c.first_line.ensures.rest
    (between-stray _ _ _ _ t c.loop-at.invariant h (recorded c.in-Change.field-0) refl refl (sym (ap kind_of c.first_line.ensures.line) ∙ sym c.in-Change.ensures))

pub loop-at-smaller : goal.loop-at-smaller
loop-at-smaller c =
    let t = c.loop-at.at.rest.now in
    let h : 0 < length t = omega (arith, eqb-false _ _ (sym c.is_empty.ensures ∙ c.loop-at-test.true)) in
    subst (λ l. length l < length t) (sym c.first_line.ensures.rest) (shorter t h)

pub loop-at-preserved : goal.loop-at-preserved
loop-at-preserved c =
    let t = c.loop-at.at.rest.now in
    let h : 0 < length t = omega (arith, eqb-false _ _ (sym c.is_empty.ensures ∙ c.loop-at-test.true)) in
    between-as refl c.in_ok-push-in-Other.ensures.items c.first_line.ensures.rest
    (between-stray _ _ _ _ t c.loop-at.invariant h other refl refl (sym (ap kind_of c.first_line.ensures.line) ∙ sym c.in-Other.ensures))
