-- What it takes to join, in numbers, and what the laws of joining say of entries and ranges.
use Rattle.std.specs.Prelude.{◌≡◌, ℕ, Bool, ◌+◌, ◌≤◌, ◌&&◌, ◌==◌, max, nat_le, true}
use Rattle.std.proofs.Common.{refl, arith}
use Rattle.std.proofs.lemmas.Bool.{and_parts, eqb-true, leb-true}
use Rattle.std.proofs.lemmas.Bool.Decides.{nat_tests}
use Rattle.change.specs.Lists.{limit}
use Rattle.change.specs.declared.line_range.LineRange.{LineRange}
use Rattle.hunk.specs.Hunks.{same_source}
use Rattle.rank.specs.declared.entry.BlameEntry.{BlameEntry}
use Rattle.rank.specs.Abutting.{abuts, spanning}
use Rattle.rank.specs.Entries.{goes_on, continues, lengthened}
use Rattle.rank.proofs.Made.{same-entry, same-range}

pub goes_on_lem : (s n t m : ℕ) → goes_on s n t m ≡ true → (s + n ≡ t) × (t + m ≤ limit)
goes_on_lem s n t m g = let p = and_parts (s + n == t) (nat_le (t + m) limit) g in (eqb-true _ _ p.0, leb-true _ _ p.1)

-- what goes on behind the second of two goes on behind both, and what the first goes on behind, both do
pub goes-on-behind : (s n t m u k : ℕ) → goes_on s n t m ≡ true → goes_on s (n + m) u k ≡ goes_on t m u k
goes-on-behind s n t m u k g = grind (arith, nat_tests)

pub goes-on-before : (s n t m u k : ℕ) → goes_on s n t m ≡ true → goes_on u k s (n + m) ≡ goes_on u k s n
goes-on-before s n t m u k g = grind (arith, nat_tests)

pub record Continued (a b : BlameEntry) : Type 0 where
  pub asked : goes_on a.start_in_blamed_file a.len b.start_in_blamed_file b.len ≡ true
  pub kept : goes_on a.start_in_source_file a.len b.start_in_source_file b.len ≡ true
  pub same : a.source.commit ≡ b.source.commit

pub continued : (a b : BlameEntry) → continues a b ≡ true → Continued a b
continued a b j =
    let p = and_parts (goes_on a.start_in_blamed_file a.len b.start_in_blamed_file b.len && goes_on a.start_in_source_file a.len b.start_in_source_file b.len) (same_source a.source b.source) j in
    let q = and_parts (goes_on a.start_in_blamed_file a.len b.start_in_blamed_file b.len) (goes_on a.start_in_source_file a.len b.start_in_source_file b.len) p.0 in
    record { asked = q.0; kept = q.1; same = eqb-true _ _ p.1 }

-- three tests joined are equal to three equal ones
pub all_three : (p q r p' q' r' : Bool) → p ≡ p' → q ≡ q' → r ≡ r' → (p && q && r) ≡ (p' && q' && r')
all_three p q r p' q' r' e f g = cc

pub onward : (a b c : BlameEntry) → continues a b ≡ true → continues (lengthened a b) c ≡ continues b c
onward a b c j = grind (arith, nat_tests)

pub inward : (a b c : BlameEntry) → continues a b ≡ true → continues c (lengthened a b) ≡ continues c a
inward a b c j = grind (arith, nat_tests)

-- three come to one, whichever two are joined first
pub lengthened-twice : (a b c : BlameEntry) → lengthened (lengthened a b) c ≡ lengthened a (lengthened b c)
lengthened-twice a b c = same-entry _ _ refl refl (omega arith) refl

pub spanning-three : (a b c : LineRange) → spanning (spanning a b) c ≡ spanning a (spanning b c)
spanning-three a b c = same-range _ _ refl (omega arith)

-- the end of the second is the later
pub spans-to : (a b : LineRange) → abuts a b ≡ true → max a.end b.end ≡ b.end
spans-to a b j = let e = eqb-true a.end b.start (and_parts _ _ j).0 in omega (arith, b.lines)
