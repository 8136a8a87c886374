-- Asked lines as they are written for the program, `3,7`: two numbers, from one and the last included. Assumes nothing.
use Rattle.std.specs.Prelude.{ℕ, List, codes, Option}
use Rattle.text.specs.Decimal.{number_of}
use Rattle.listing.specs.Format.{greatest}
use Rattle.listing.specs.Parsing.{and_then, skip, whole}
use Rattle.ranges.specs.declared.one_based.OneBased.{OneBased}

abbrev pub asked_of : List ℕ → Option OneBased
asked_of s =
    and_then (number_of greatest s) (λ a. and_then (skip (codes ",") a.1) (λ t. and_then (number_of greatest t) (λ b.
    whole (record { first = a.0; last = b.0 }) b.1)))
