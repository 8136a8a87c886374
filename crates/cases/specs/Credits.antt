-- Worked cases of credited lines that join. Assumes nothing.
use Rattle.std.specs.Prelude.{◌≡◌, ℕ, ◌<◌, [], ◌∷◌}
use Rattle.std.proofs.Common.{lit<}
use Rattle.rank.specs.declared.entry.BlameEntry.{BlameEntry}
use Rattle.rank.specs.Entries.{continues, lengthened}
use Rattle.rank.specs.Joins.{coalesced}

-- n lines of commit 7, from the asked line a and its line s on
abbrev pub seven : ℕ → ℕ → (n : ℕ) → 0 < n → BlameEntry
seven a s n l = record { start_in_blamed_file = a; start_in_source_file = s; len = n; source = record { commit = 7 }; lines = l }

-- entries join where they go on in both files, and not in one alone
abbrev pub EntriesHold : Type 0
EntriesHold =
    (coalesced continues lengthened (seven 0 3 2 (lit< tt) ∷ seven 2 5 1 (lit< tt) ∷ []) ≡ seven 0 3 3 (lit< tt) ∷ [])
    × (coalesced continues lengthened (seven 0 3 2 (lit< tt) ∷ seven 2 6 1 (lit< tt) ∷ []) ≡ seven 0 3 2 (lit< tt) ∷ seven 2 6 1 (lit< tt) ∷ [])
