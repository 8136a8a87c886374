use Rattle.std.proofs.Common.{not, rules, tests}
use Rattle.std.proofs.lemmas.Fn.{filter_same}
use Rattle.rank.proofs.touching.drop_touched.Goals as goal

pub returns-clause-items : goal.returns-clause-items
returns-clause-items g c =
    rw (← c.table.view_is) (filter_same _ (λ y. not (g.T.Touching.touches c.args.x.now y)) _ (λ y b f k. search (rules, tests)) _ _ c.retain.ensures.filtered)
