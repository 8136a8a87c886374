-- A line of a case file. Assumes nothing.
use Rattle.std.specs.Prelude.{◌≡◌, ℕ, List, [], ◌∷◌, Some, None, vec_items, Option}
use Rattle.change.specs.declared.change.Change.{Change}
use Rattle.hunk.specs.declared.source.Source.{Source}
use Rattle.hunk.specs.declared.row.HunkRow.{HunkRow}
use Rattle.compare.specs.declared.case.Case.{Case}
use Rattle.compare.specs.declared.case.NoCase.{NoCase}
use Rattle.change.specs.declared.unmade.Unmade.{Unmade}
use Rattle.change.specs.declared.unmade.Unmade.TheVariants.{Refused, OutOfMemory}
use Rattle.compare.specs.Tokens.{and_then, size_of}
use Rattle.compare.specs.Items.{more, row_of, change_of, sources_of}

-- a part: its letter, how many items it has, and these
abbrev pub part_of : {X : Type 0} → (List ℕ → Option (X × List ℕ)) → ℕ → List ℕ → Option (List X × List ℕ)
part_of item letter s = and_then (size_of letter s) (λ n. more item [] n.0 n.1)

pub record Parts : Type 0 where
  pub suspect : Source
  pub parent : Source
  pub rows : List HunkRow
  pub changes : List Change
  pub expected : List HunkRow

-- nothing may stand behind it
abbrev pub whole : {X : Type 0} → X → List ℕ → Option X
whole x [] = Some x
whole x (b ∷ bs) = None

abbrev pub parts_of : List ℕ → Option Parts
parts_of s =
    and_then (sources_of s) (λ a. and_then (part_of row_of 72 a.1) (λ h. and_then (part_of change_of 67 h.1) (λ c. and_then (part_of row_of 82 c.1) (λ e.
    whole (record { suspect = a.0.0; parent = a.0.1; rows = h.0; changes = c.0; expected = e.0 }) e.1))))

abbrev pub parts_in : Case → Parts
parts_in c = record { suspect = c.suspect; parent = c.parent; rows = vec_items c.rows; changes = vec_items c.changes; expected = vec_items c.expected }

-- what is read is told so; a fault of form says that nothing can be read
abbrev pub Fails : {X : Type 0} → Option X → Unmade NoCase → Type 0
Fails o (Refused n) = o ≡ None
Fails o OutOfMemory = Unit {0}
