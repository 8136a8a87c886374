-- Worked cases of asked ranges: lines counted from one, the last included, as ranges. Assumes nothing.
use Rattle.std.specs.Prelude.{◌≡◌, ℕ, [], ◌∷◌, Ok}
use Rattle.ranges.specs.declared.one_based.OneBased.{OneBased}
use Rattle.ranges.specs.Adds.{add_all_of}
use Rattle.cases.specs.Cuts.{upto}

abbrev pub through : ℕ → ℕ → OneBased
through s e = record { first = s; last = e }

-- ranges that touch are merged, and ranges a line apart are not
abbrev pub RangesHold : Type 0
RangesHold =
    (add_all_of [] (through 1 3 ∷ through 4 6 ∷ []) ≡ Ok (upto 0 6 ∷ []))
    × (add_all_of [] (through 1 3 ∷ through 5 6 ∷ []) ≡ Ok (upto 0 3 ∷ upto 4 6 ∷ []))
