-- The lines of a run that are also in a range. Assumes nothing.
use Rattle.std.specs.Prelude.{◌≡◌, ℕ, ◌+◌, ◌-◌, ◌^◌, ◌<◌, ◌≤◌, min, max, Bool, true, cond, ◌&&◌, Some, None, Option, nat_lt}
use Rattle.std.specs.Option.{option_map}
use Rattle.change.specs.declared.span.Span.{Span}
use Rattle.runs.specs.Rows.{Run, place_in}

-- from the later start to the earlier end, with the place of the first line there
abbrev pub shared : Span → Run → Run
shared s r = record {
  start = max r.start s.start;
  end = min r.end s.end;
  place = option_map (λ q. q + (max r.start s.start - r.start)) r.place;
}

-- the place is one of 32 bits
abbrev pub place_fits : Option ℕ → Bool
place_fits None = true
place_fits (Some q) = nat_lt q (2 ^ 32)

abbrev pub told : Run → Option Run
told x = cond (nat_lt x.start x.end && place_fits x.place) (Some x) None

abbrev pub part_of : Span → Run → Option Run
part_of s r = told (shared s r)

-- the line n is in the run, and in the range
abbrev pub InRun : Run → ℕ → Type 0
InRun r n = (r.start ≤ n) × (n < r.end)

abbrev pub InRange : Span → ℕ → Type 0
InRange s n = (s.start ≤ n) × (n < s.end)

-- all places of a run are of 32 bits, as those of a valid list's rows are
abbrev pub Fits : Run → Type 0
Fits r = (n : ℕ) → InRun r n → place_fits (place_in r n) ≡ true

-- the part has just the lines that are in both, each at its place; none says that there is no such line
abbrev pub Shared : Span → Run → Option Run → Type 0
Shared s r None = (n : ℕ) → InRun r n → InRange s n → ⊥
Shared s r (Some x) =
    ((n : ℕ) → InRun x n → InRun r n × InRange s n × (place_in x n ≡ place_in r n)) × ((n : ℕ) → InRun r n → InRange s n → InRun x n)
