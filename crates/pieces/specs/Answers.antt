-- What cutting a table of hunks answers, whatever its rows are. Assumes nothing.
use Rattle.std.specs.Prelude.{◌≡◌, ℕ, List, length, Ok, Err, Result}
use Rattle.hunk.specs.Hunks.{Piece}
use Rattle.pieces.specs.declared.fault.ProcessFault.{ProcessFault}
use Rattle.pieces.specs.Tables.{Filled}

-- accepted: their number, and the table has just these pieces in its first rows; refused: the refusal, and the table as it was
abbrev pub Answered : {R : Type 0} → (R → Piece) → (R → Type 0) → List R → List R → Result (List Piece) ProcessFault → Result ℕ ProcessFault → Type 0
Answered means exact entry out (Ok ps) (Ok n) = (n ≡ length ps) × Filled means exact entry ps out
Answered means exact entry out (Ok ps) (Err f) = ⊥
Answered means exact entry out (Err e) (Ok n) = ⊥
Answered means exact entry out (Err e) (Err f) = (f ≡ e) × (out ≡ entry)
