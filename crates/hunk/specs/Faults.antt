-- The numbers and names under which the refusals are known. Assumes nothing.
use Rattle.std.specs.Prelude.{ℕ, List, codes}
use Rattle.hunk.specs.declared.fault.SuspectFault.{SuspectFault}
use Rattle.hunk.specs.declared.fault.SuspectFault.TheVariants.{SameCommit, EmptyRange, SuspectsFull}

abbrev pub number_of : SuspectFault → ℕ
number_of SameCommit = 6
number_of EmptyRange = 2
number_of SuspectsFull = 8

abbrev pub name_of : SuspectFault → List ℕ
name_of SameCommit = codes "SameCommit"
name_of EmptyRange = codes "EmptyRange"
name_of SuspectsFull = codes "SuspectsFull"
