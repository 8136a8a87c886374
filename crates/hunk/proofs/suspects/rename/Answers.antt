use Rattle.std.proofs.Common.{arith}
use Rattle.std.proofs.lemmas.List.{get_or_default}
use Rattle.std.proofs.lemmas.List.Edits.{map_over_more}
use Rattle.hunk.specs.Rows.{rename_at}
use Rattle.hunk.specs.Sound.{blank}
use Rattle.hunk.proofs.suspects.rename.Goals as goal

pub loop-suspect-preserved : goal.loop-suspect-preserved
loop-suspect-preserved c =
    let i = c.loop-suspect.suspect-index in
    rw c.renamed.ensures
    (map_over_more (rename_at c.args.from c.args.to c.args.range) c.args.suspects.now c.loop-suspect.suspects i _ c.loop-suspect-test.true c.loop-suspect.invariant
    (get_or_default c.loop-suspect.suspects i blank _ (omega (arith, c.loop-suspect.auto.suspects))))
