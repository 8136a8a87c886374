-- Credited lines: their rank, and those that go on where others end. Assumes nothing.
use Rattle.std.specs.Prelude.{ℕ, ◌+◌, Bool, ◌&&◌, ◌==◌, nat_le, nat_lt}
use Rattle.std.proofs.Common.{lt_of_lt_of_le, le-add_right}
use Rattle.change.specs.Lists.{limit}
use Rattle.hunk.specs.Hunks.{same_source}
use Rattle.rank.specs.declared.entry.BlameEntry.{BlameEntry}

-- a starts after b does in the asked file
abbrev pub credited_after : BlameEntry → BlameEntry → Bool
credited_after a b = nat_lt b.start_in_blamed_file a.start_in_blamed_file

-- n lines from s on end where m lines from t on start, and these end within the file limit
abbrev pub goes_on : ℕ → ℕ → ℕ → ℕ → Bool
goes_on s n t m = s + n == t && nat_le (t + m) limit

-- b goes on where a ends, in the asked file and in one source
abbrev pub continues : BlameEntry → BlameEntry → Bool
continues a b =
    goes_on a.start_in_blamed_file a.len b.start_in_blamed_file b.len
    && goes_on a.start_in_source_file a.len b.start_in_source_file b.len
    && same_source a.source b.source

-- a, with the lines of b too
abbrev pub lengthened : BlameEntry → BlameEntry → BlameEntry
lengthened a b = record {
  start_in_blamed_file = a.start_in_blamed_file;
  start_in_source_file = a.start_in_source_file;
  len = a.len + b.len;
  source = a.source;
  lines = lt_of_lt_of_le a.lines (le-add_right a.len b.len);
}
