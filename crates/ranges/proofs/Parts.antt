-- Ranges in order and apart, as a list.
use Rattle.std.proofs.Common.{zero, suc, ◌<◌, List, [], ◌∷◌, arith}
use Rattle.std.specs.List.{AllByRecursion}
use Rattle.std.proofs.ByRecursion.{All-from_get_or, All-get_or}
use Rattle.change.specs.declared.span.Span.{Span}
use Rattle.ranges.specs.Spans.{blank, Apart, Lines}

-- each has a line, and ends before all behind it begin
abbrev pub Before : Span → Span → Type 0
Before r s = r.end < s.start

abbrev pub Parted : List Span → Type 0
Parted [] = Unit {0}
Parted (r ∷ rs) = (r.start < r.end) × AllByRecursion (Before r) rs × Parted rs

pub parted : (rs : List Span) → Lines rs → Apart rs → Parted rs
parted [] l a = tt
parted (r ∷ rs) l a = (
  l 0 (omega arith),
  All-from_get_or (Before r) rs blank (λ i h. a 0 (suc i) (omega arith) (omega arith)),
  parted rs (λ i h. l (suc i) (omega arith)) (λ i j h k. a (suc i) (suc j) (omega arith) (omega arith)),
)

pub lines_from : (rs : List Span) → AllByRecursion (λ r. r.start < r.end) rs → Lines rs
lines_from rs a i h = All-get_or (λ r. r.start < r.end) rs i blank h a

pub lines_of : (rs : List Span) → Parted rs → Lines rs
lines_of [] p i h = omega arith
lines_of (r ∷ rs) p zero h = p.0
lines_of (r ∷ rs) p (suc i) h = lines_of rs p.2 i (omega arith)

pub apart_of : (rs : List Span) → Parted rs → Apart rs
apart_of [] p i j l h = omega arith
apart_of (r ∷ rs) p zero zero l h = omega arith
apart_of (r ∷ rs) p zero (suc j) l h = All-get_or (Before r) rs j blank (omega arith) p.1
apart_of (r ∷ rs) p (suc i) zero l h = omega arith
apart_of (r ∷ rs) p (suc i) (suc j) l h = apart_of rs p.2 i j (omega arith) (omega arith)
