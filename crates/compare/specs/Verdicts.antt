-- What is said of the rows that were written and those expected. Assumes nothing.
use Rattle.std.specs.Prelude.{◌≡◌, List, vec_items, ◌≢◌}
use Rattle.hunk.specs.declared.row.HunkRow.{HunkRow}
use Rattle.compare.specs.declared.judge.Verdict.{Verdict}
use Rattle.compare.specs.declared.judge.Verdict.TheVariants.{Agrees, Differs, Refused}

abbrev pub Says : List HunkRow → List HunkRow → Verdict → Type 0
Says written expected Agrees = written ≡ expected
Says written expected (Differs rows) = (vec_items rows ≡ written) × (written ≢ expected)
Says written expected (Refused n) = ⊥
