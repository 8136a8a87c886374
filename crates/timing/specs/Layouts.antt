-- The numbers under which the tables are asked for. Assumes nothing.
use Rattle.std.specs.Prelude.{ℕ}
use Rattle.timing.specs.declared.layout.Layout.{Layout}
use Rattle.timing.specs.declared.layout.Layout.TheVariants.{Whole, Cut, Kept}

abbrev pub number_of : Layout → ℕ
number_of Whole = 0
number_of Cut = 1
number_of Kept = 2
