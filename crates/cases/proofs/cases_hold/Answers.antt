use Rattle.std.proofs.Common.{[], ◌∷◌, refl, ap, lit<}
use Rattle.rank.specs.Entries.{lengthened}
use Rattle.rank.proofs.Made.{same-entry}
use Rattle.cases.specs.Credits.{seven}
use Rattle.cases.proofs.cases_hold.Goals as goal

pub returns : goal.returns
returns c =
    let joined = lengthened (seven 0 3 2 (lit< tt)) (seven 2 5 1 (lit< tt)) in
    ((refl, refl, refl, refl), (refl, refl), (ap (λ e. e ∷ []) (same-entry joined (seven 0 3 3 (lit< tt)) refl refl refl refl), refl))
