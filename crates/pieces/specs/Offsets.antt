-- The running offset between lines of a commit and their places in the parent. Assumes nothing.
use Rattle.std.specs.Prelude.{◌≡◌, ℕ, ◌+◌, ◌-◌, ◌^◌, cond, Some, None, Option, nat_le, nat_lt}
use Rattle.change.specs.declared.span.Span.{Span}
use Rattle.change.specs.Lists.{limit, lines}
use Rattle.hunk.specs.Hunks.{span_of}
use Rattle.pieces.specs.declared.offset.Offset.{Offset}
use Rattle.pieces.specs.declared.offset.Offset.TheVariants.{Added, Deleted}

abbrev pub size_of : Offset → ℕ
size_of (Added k) = k
size_of (Deleted k) = k

-- with n lines added, and with n lines deleted
abbrev pub plus : Offset → ℕ → Offset
plus (Added k) n = Added (k + n)
plus (Deleted k) n = cond (nat_lt k n) (Added (n - k)) (Deleted (k - n))

abbrev pub minus : Offset → ℕ → Offset
minus (Added k) n = cond (nat_lt k n) (Deleted (n - k)) (Added (k - n))
minus (Deleted k) n = Deleted (k + n)

-- the place of a line, if there is one that 32 bits hold
abbrev pub shifted : Offset → ℕ → Option ℕ
shifted (Added k) n = cond (nat_le k n) (Some (n - k)) None
shifted (Deleted k) n = cond (nat_lt (n + k) (2 ^ 32)) (Some (n + k)) None

-- the range at its place, if it ends within the file limit
abbrev pub placed : ℕ → Option ℕ → Option Span
placed size None = None
placed size (Some y) = cond (nat_le (y + size) limit) (Some (span_of size y)) None

abbrev pub shifted_range : Offset → Span → Option Span
shifted_range o r = placed (lines r) (shifted o r.start)

-- the offset behind a lines added and d deleted in all
abbrev pub Stands : Offset → ℕ → ℕ → Type 0
Stands (Added k) a d = k + d ≡ a
Stands (Deleted k) a d = k + a ≡ d
