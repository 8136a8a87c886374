-- What `new` makes of two that join.
use Rattle.std.specs.Prelude.{◌≡◌, ℕ, ◌+◌, ◌<◌, ◌≤◌, refl, true, Some, None, Option, MatchOption}
use Rattle.std.proofs.Common.{ap, ◌∙◌, arith}
use Rattle.std.proofs.lemmas.Bool.{and_parts, eqb-true}
use Rattle.change.specs.declared.line_range.LineRange.{LineRange}
use Rattle.change.specs.contracts.line_range.LineRange.{the_row as range_row}
use Rattle.hunk.specs.declared.source.Source.{Source}
use Rattle.rank.specs.declared.entry.BlameEntry.{BlameEntry}
use Rattle.rank.specs.contracts.entry.BlameEntry.{the_row as entry_row}
use Rattle.rank.specs.Joins.{joint}
use Rattle.rank.specs.Abutting.{abuts, spanning}
use Rattle.rank.specs.Entries.{continues, lengthened}

-- a range is told by its start and its end, and an entry by its numbers and its source
pub same-range : (a b : LineRange) → a.start ≡ b.start → a.end ≡ b.end → a ≡ b
same-range a b p q = grind (arith, range_row.coded.inj)

pub same-entry : (a b : BlameEntry) → a.start_in_blamed_file ≡ b.start_in_blamed_file → a.start_in_source_file ≡ b.start_in_source_file → a.len ≡ b.len → a.source ≡ b.source → a ≡ b
same-entry a b p q r s = grind (arith, entry_row.coded.inj)

-- .. whatever shows that each has a line
pub same_end : (s e t : ℕ) (l : s < e) (m : s < t) → e ≡ t → ◌≡◌ {A = LineRange} (record { start = s; end = e; lines = l }) (record { start = s; end = t; lines = m })
same_end s e t l m q = same-range _ _ refl q

pub same_len : (x y : ℕ) (w : Source) (n m : ℕ) (l : 0 < n) (k : 0 < m) → n ≡ m
    → ◌≡◌ {A = BlameEntry} (record { start_in_blamed_file = x; start_in_source_file = y; len = n; source = w; lines = l })
    (record { start_in_blamed_file = x; start_in_source_file = y; len = m; source = w; lines = k })
same_len x y w n m l k e = same-entry _ _ refl refl e refl

-- a range from the start s of the first to the end e of the second
pub made-spanning : (a b : LineRange) (s e : ℕ) (r : Option LineRange) → abuts a b ≡ true → s ≡ a.start → e ≡ b.end → MatchOption r (e ≤ s) (λ x. (x.start ≡ s) × (x.end ≡ e)) → r ≡ joint abuts spanning a b
made-spanning a b s e None j p q h =
    let m = eqb-true a.end b.start (and_parts _ _ j).0 in
    absurd (omega (arith, h, a.lines, b.lines))
made-spanning a b s e (Some x) j p q h =
    let m = eqb-true a.end b.start (and_parts _ _ j).0 in
    rw j (ap (λ y. Some y) (same-range x (spanning a b) (h.0 ∙ p) (omega (arith, h.1, b.lines))))

-- an entry of the starts of the first, n lines and its source
pub made-lengthened : (a b : BlameEntry) (n : ℕ) (r : Option BlameEntry) → continues a b ≡ true → n ≡ a.len + b.len
    → MatchOption r (n ≡ 0) (λ e. (e.start_in_blamed_file ≡ a.start_in_blamed_file) × (e.start_in_source_file ≡ a.start_in_source_file) × (e.len ≡ n) × (e.source ≡ a.source))
    → r ≡ joint continues lengthened a b
made-lengthened a b n None j p h = absurd (omega (arith, h, p, a.lines))
made-lengthened a b n (Some x) j p h = rw j (ap (λ y. Some y) (same-entry x (lengthened a b) h.0 h.1 (h.2 ∙ p) h.3))
