-- What a hunk's suspects owe: these facts are part of the hunk's type. Assumes nothing.
use Rattle.std.specs.Prelude.{◌≡◌, ℕ, ◌+◌, ◌<◌, ◌≤◌, List, ◌≢◌, slice_index_or}
use Rattle.change.specs.declared.span.Span.{Span}
use Rattle.hunk.specs.declared.suspect.Suspect.{Suspect}

abbrev pub blank : Suspect
blank = record { source = record { commit = 0 }; range = record { start = 0; end = 0 } }

-- the first n suspects have ranges of the length of r
abbrev pub Level : Span → List Suspect → ℕ → Type 0
Level r ss n = (i : ℕ) → i < n → (slice_index_or ss i blank).range.start + r.end ≡ (slice_index_or ss i blank).range.end + r.start

-- .. within the file limit
abbrev pub Within : List Suspect → ℕ → Type 0
Within ss n = (i : ℕ) → i < n → (slice_index_or ss i blank).range.end ≤ 16777215

-- .. and name different commits
abbrev pub Apart : List Suspect → ℕ → Type 0
Apart ss n = (i j : ℕ) → i < j → j < n → (slice_index_or ss i blank).source.commit ≢ (slice_index_or ss j blank).source.commit
