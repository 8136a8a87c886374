-- The numbers and names under which the refusals are known. Assumes nothing.
use Rattle.std.specs.Prelude.{ℕ, List, codes}
use Rattle.pieces.specs.declared.fault.ListFault.{ListFault}
use Rattle.pieces.specs.declared.fault.ListFault.TheVariants.{BadList, ListFull}
use Rattle.pieces.specs.declared.fault.ProcessFault.{ProcessFault}
use Rattle.pieces.specs.declared.fault.ProcessFault.TheVariants.{EmptyRange, SameCommit, List as OfList, HunkOutside, HunksFull}

abbrev pub list_number : ListFault → ℕ
list_number (BadList b) = 4
list_number ListFull = 9

abbrev pub list_name : ListFault → List ℕ
list_name (BadList b) = codes "BadList"
list_name ListFull = codes "ListFull"

abbrev pub process_number : ProcessFault → ℕ
process_number (EmptyRange i) = 2
process_number SameCommit = 6
process_number (OfList f) = list_number f
process_number (HunkOutside i) = 5
process_number HunksFull = 7

abbrev pub process_name : ProcessFault → List ℕ
process_name (EmptyRange i) = codes "EmptyRange"
process_name SameCommit = codes "SameCommit"
process_name (OfList f) = list_name f
process_name (HunkOutside i) = codes "HunkOutside"
process_name HunksFull = codes "HunksFull"
