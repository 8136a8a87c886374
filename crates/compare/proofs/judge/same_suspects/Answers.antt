use Rattle.std.proofs.lemmas.Slice.Eq.{slice_eq-Decides}
use Rattle.compare.proofs.Same.{same_suspect}
use Rattle.compare.proofs.judge.same_suspects.Goals as goal

pub returns : goal.returns
returns c = slice_eq-Decides same_suspect _ _ _ c.eq.ensures
