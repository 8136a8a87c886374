-- The numbers and names under which the refusals are known. Assumes nothing.
use Rattle.std.specs.Prelude.{ℕ, List, codes}
use Rattle.ranges.specs.declared.fault.RangeFault.{RangeFault}
use Rattle.ranges.specs.declared.fault.RangeFault.TheVariants.{ZeroLine, EmptyRange, RangesFull}

abbrev pub number_of : RangeFault → ℕ
number_of ZeroLine = 1
number_of EmptyRange = 2
number_of RangesFull = 3

abbrev pub name_of : RangeFault → List ℕ
name_of ZeroLine = codes "ZeroLine"
name_of EmptyRange = codes "EmptyRange"
name_of RangesFull = codes "RangesFull"
