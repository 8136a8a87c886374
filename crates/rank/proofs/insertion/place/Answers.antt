use Rattle.std.proofs.Common.{length, ap, ◌∙◌, unwrap_or, rules, tests}
use Rattle.std.proofs.lemmas.Iterator.{YieldsList-from_slice}
use Rattle.std.proofs.lemmas.Iterator.Search.{position_from_yields_List}
use Rattle.rank.proofs.Putting.{place-else}
use Rattle.rank.proofs.insertion.place.Goals as goal

pub returns : goal.returns
returns g c =
    let after = g.T.Ranked.after in
    let x = c.args.x.now in
    let found = position_from_yields_List (λ y. after y x) _ _ c.position.result c.position.ensures.ran (YieldsList-from_slice c.args.rows.now cc) (λ y b q k. search (rules, tests)) in
    c.unwrap_or.ensures ∙ ap (λ o. unwrap_or o (length c.args.rows.now)) found ∙ place-else after x c.args.rows.now
