-- What adding a range, or a list of ranges, answers, and which ranges there are then. Assumes nothing.
use Rattle.std.specs.Prelude.{◌≡◌, ℕ, ◌+◌, ◌-◌, Bool, false, cond, not, ◌&&◌, ◌||◌, List, [], ◌∷◌, length, Ok, Err, Result, ◌==◌, nat_lt}
use Rattle.change.specs.declared.span.Span.{Span}
use Rattle.change.specs.declared.line_range.LineRange.{LineRange}
use Rattle.ranges.specs.declared.one_based.OneBased.{OneBased}
use Rattle.ranges.specs.declared.fault.RangeFault.{RangeFault}
use Rattle.ranges.specs.declared.fault.RangeFault.TheVariants.{ZeroLine, EmptyRange, RangesFull}
use Rattle.ranges.specs.declared.fault.BadEntry.{BadEntry}
use Rattle.ranges.specs.Spans.{span_of, has, whole, asked, others, merged_in}

-- lines s to e, from one and the last included, as a range
abbrev pub zero_based : ℕ → ℕ → Span
zero_based s e = record { start = s - 1; end = e }

-- .. unless they are refused, in this order
abbrev pub zero_based_of : ℕ → ℕ → Result Span RangeFault
zero_based_of s e = cond (s == 0) (Err ZeroLine) (cond (nat_lt e s) (Err EmptyRange) (Ok (zero_based s e)))

abbrev pub plain_of : Result LineRange RangeFault → Result Span RangeFault
plain_of (Ok r) = Ok (span_of r)
plain_of (Err f) = Err f

-- the ranges with n, of which there are at most 64
abbrev pub merge_of : Span → List Span → Result (List Span) RangeFault
merge_of n rs = cond (nat_lt (length (others n rs)) 64) (Ok (merged_in n rs)) (Err RangesFull)

abbrev pub merge_any : Result Span RangeFault → List Span → Result (List Span) RangeFault
merge_any (Ok n) rs = merge_of n rs
merge_any (Err f) rs = Err f

-- the ranges with lines s to e
abbrev pub add_of : List Span → ℕ → ℕ → Result (List Span) RangeFault
add_of rs s e = merge_any (zero_based_of s e) rs

-- what is answered of these ranges, and which there are then: where they are refused, those before
abbrev pub answer_of : {E : Type 0} → Result (List Span) E → Result (Unit {0}) E
answer_of (Ok rs) = Ok tt
answer_of (Err f) = Err f

abbrev pub then_of : {E : Type 0} → List Span → Result (List Span) E → List Span
then_of before (Ok rs) = rs
then_of before (Err f) = before

-- the ranges with each of a list, in turn: the first that is refused refuses the list
abbrev pub go_on : ℕ → Result (List Span) RangeFault → (List Span → Result (List Span) BadEntry) → Result (List Span) BadEntry
go_on i (Ok rs) next = next rs
go_on i (Err f) next = Err (record { position = i; fault = f })

abbrev pub add_all_from : ℕ → List Span → List OneBased → Result (List Span) BadEntry
add_all_from i rs [] = Ok rs
add_all_from i rs (a ∷ list) = go_on i (add_of rs a.first a.last) (λ more. add_all_from (i + 1) more list)

abbrev pub add_all_of : List Span → List OneBased → Result (List Span) BadEntry
add_all_of rs list = add_all_from 0 rs list

-- the lines that were asked, unless it was the whole file
abbrev pub asked_only : List Span → ℕ → Bool
asked_only rs n = not (whole rs) && asked rs n

-- by lines: those of the range s to e are asked, and those that were
abbrev pub AskedToo : List Span → ℕ → ℕ → List Span → Type 0
AskedToo before s e behind = (n : ℕ) → asked behind n ≡ (has (zero_based s e) n || asked_only before n)

-- .. and those of each of the list; none leaves all as it was
abbrev pub list_has : List OneBased → ℕ → Bool
list_has [] n = false
list_has (a ∷ list) n = has (zero_based a.first a.last) n || list_has list n

abbrev pub AllAskedToo : List Span → List OneBased → List Span → Type 0
AllAskedToo before [] behind = (n : ℕ) → asked behind n ≡ asked before n
AllAskedToo before (a ∷ list) behind = (n : ℕ) → asked behind n ≡ (list_has (a ∷ list) n || asked_only before n)
