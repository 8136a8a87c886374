-- Ranges of lines: which lines they have, when two touch, and what they are with one more, merged into those that it
-- touches. Lines count from 0, and a range excludes its end. Assumes nothing.
use Rattle.std.specs.Prelude.{ℕ, ◌<◌, min, max, Bool, true, false, not, ◌&&◌, ◌||◌, List, [], ◌∷◌, map, length, fold, filter, nat_le, nat_lt, slice_index_or}
use Rattle.change.specs.declared.span.Span.{Span}
use Rattle.change.specs.declared.line_range.LineRange.{LineRange}
use Rattle.rank.specs.Ranks.{put}

abbrev pub blank : Span
blank = record { start = 0; end = 0 }

-- ranges of a line or more by their type, as plain ones
abbrev pub span_of : LineRange → Span
span_of r = record { start = r.start; end = r.end }

abbrev pub spans : List LineRange → List Span
spans rows = map span_of rows

-- the line n is in the range, in one of the ranges
abbrev pub has : Span → ℕ → Bool
has r n = nat_le r.start n && nat_lt n r.end

abbrev pub any_has : List Span → ℕ → Bool
any_has [] n = false
any_has (r ∷ rs) n = has r n || any_has rs n

-- no range is the whole file: the line n is asked
abbrev pub whole : List Span → Bool
whole [] = true
whole (r ∷ rs) = false

abbrev pub asked : List Span → ℕ → Bool
asked rs n = whole rs || any_has rs n

-- neither ends before the other begins
abbrev pub touches : Span → Span → Bool
touches n r = not (nat_lt n.end r.start || nat_lt r.end n.start)

abbrev pub is_apart : Span → Span → Bool
is_apart n r = not (touches n r)

-- from the lower start to the higher end
abbrev pub hull : Span → Span → Span
hull a b = record { start = min a.start b.start; end = max a.end b.end }

-- the range widened over all that it touches, and the others
abbrev pub merged : Span → List Span → Span
merged n rs = fold hull n (filter (touches n) rs)

abbrev pub others : Span → List Span → List Span
others n rs = filter (is_apart n) rs

abbrev pub later : Span → Span → Bool
later a b = nat_lt b.start a.start

-- the ranges with n, in the order of their starts
abbrev pub merged_in : Span → List Span → List Span
merged_in n rs = put later (merged n rs) (others n rs)

-- the ranges are in order, and a line or more lies between each two
abbrev pub Apart : List Span → Type 0
Apart rs = (i j : ℕ) → i < j → j < length rs → (slice_index_or rs i blank).end < (slice_index_or rs j blank).start

-- each range has a line or more
abbrev pub Lines : List Span → Type 0
Lines rs = (i : ℕ) → i < length rs → (slice_index_or rs i blank).start < (slice_index_or rs i blank).end
