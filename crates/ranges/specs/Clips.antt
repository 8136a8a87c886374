-- What is left of ranges in a file of so many lines. Assumes nothing.
use Rattle.std.specs.Prelude.{ℕ, ◌<◌, ◌≤◌, min, Bool, cond, List, [], ◌∷◌, map, length, Some, None, filter, Option, nat_lt, slice_index_or}
use Rattle.change.specs.declared.span.Span.{Span}
use Rattle.ranges.specs.Spans.{blank, Apart, Lines}

-- it begins before the line n
abbrev pub begins : ℕ → Span → Bool
begins n r = nat_lt r.start n

-- with its end cut to n
abbrev pub cut : ℕ → Span → Span
cut n r = record { start = r.start; end = min r.end n }

abbrev pub cut_of : ℕ → Span → Option Span
cut_of n r = cond (begins n r) (Some (cut n r)) None

-- those that begin before it, cut
abbrev pub cut_all : ℕ → List Span → List Span
cut_all n rs = map (cut n) (filter (begins n) rs)

-- all lines of a file of n lines
abbrev pub all_of : ℕ → List Span
all_of n = cond (nat_lt 0 n) (record { start = 0; end = n } ∷ []) []

-- what is asked of a file of n lines
abbrev pub clip_of : ℕ → List Span → List Span
clip_of n [] = all_of n
clip_of n (r ∷ rs) = cut_all n (r ∷ rs)

-- ranges of a file of n lines: in order and apart, each of a line or more, within the file
pub record Within (n : ℕ) (rs : List Span) : Type 0 where
  pub apart : Apart rs
  pub lines : Lines rs
  pub ends : (i : ℕ) → i < length rs → (slice_index_or rs i blank).end ≤ n
