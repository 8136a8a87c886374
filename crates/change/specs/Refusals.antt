-- The number and the name of a refusal, or of want of memory. Assumes nothing.
use Rattle.std.specs.Prelude.{ℕ, List, codes}
use Rattle.change.specs.declared.unmade.Unmade.{Unmade}
use Rattle.change.specs.declared.unmade.Unmade.TheVariants.{Refused, OutOfMemory}

abbrev pub or_memory_number : {E : Type 0} → (E → ℕ) → Unmade E → ℕ
or_memory_number number (Refused e) = number e
or_memory_number number OutOfMemory = 255

abbrev pub or_memory_name : {E : Type 0} → (E → List ℕ) → Unmade E → List ℕ
or_memory_name called (Refused e) = called e
or_memory_name called OutOfMemory = codes "OutOfMemory"
