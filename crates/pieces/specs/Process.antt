-- What process_changes answers: the refusals in their order, or the pieces of all hunks. Assumes nothing.
use Rattle.std.specs.Prelude.{◌≡◌, ℕ, ◌+◌, ◌≤◌, Bool, false, cond, List, [], ◌∷◌, ◌++◌, map, length, drop, Some, None, Ok, Err, Option, Result, nat_le, nat_lt}
use Rattle.std.specs.Option.{option_map}
use Rattle.change.specs.declared.change.Change.{Change}
use Rattle.change.specs.declared.list.Totals.{Totals}
use Rattle.change.specs.declared.list.BadList.{BadList}
use Rattle.change.specs.Lists.{checked, new_total}
use Rattle.hunk.specs.declared.source.Source.{Source}
use Rattle.hunk.specs.declared.row.HunkRow.{HunkRow}
use Rattle.hunk.specs.Hunks.{Piece, same_source, start_in, on_some}
use Rattle.hunk.specs.Rows.{row_of}
use Rattle.pieces.specs.declared.fault.ListFault.{ListFault}
use Rattle.pieces.specs.declared.fault.ListFault.TheVariants.{BadList as Bad, ListFull}
use Rattle.pieces.specs.declared.fault.ProcessFault.{ProcessFault}
use Rattle.pieces.specs.declared.fault.ProcessFault.TheVariants.{EmptyRange, SameCommit, List as OfList, HunkOutside, HunksFull}
use Rattle.pieces.specs.Pieces.{pieces}

-- a hunk that names c ends within the file of c, which has this many lines
abbrev pub Inside : Source → ℕ → Piece → Type 0
Inside c total h = (x : ℕ) → start_in c h.suspects ≡ Some x → x + h.size ≤ total

-- the list judged: a bad position comes before a list of more than 512 changes
abbrev pub not_too_long : List Change → Result Totals BadList → Result Totals ListFault
not_too_long cs (Ok t) = cond (nat_le (length cs) 512) (Ok t) (Err ListFull)
not_too_long cs (Err b) = Err (Bad b)

abbrev pub judge_of : List Change → Result Totals ListFault
judge_of cs = not_too_long cs (checked cs)

-- rows of a table, each read as a hunk or none: the first that is none, counted from i; and the hunks
abbrev pub first_none : ℕ → List (Option Piece) → Option ℕ
first_none i [] = None
first_none i (None ∷ os) = Some i
first_none i (Some h ∷ os) = first_none (i + 1) os

abbrev pub hunks_of : List (Option Piece) → List Piece
hunks_of [] = []
hunks_of (None ∷ os) = hunks_of os
hunks_of (Some h ∷ os) = h ∷ hunks_of os

-- the first that names c past the end of its file
abbrev pub outside : Source → ℕ → Option Piece → Bool
outside c total None = false
outside c total (Some h) = on_some (start_in c h.suspects) false (λ x. nat_lt total (x + h.size))

abbrev pub first_outside : Source → ℕ → ℕ → List (Option Piece) → Option ℕ
first_outside c total i [] = None
first_outside c total i (o ∷ os) = cond (outside c total o) (Some i) (first_outside c total (i + 1) os)

-- the first refusal that applies
abbrev pub first_of : Option ProcessFault → Option ProcessFault → Option ProcessFault
first_of None f = f
first_of (Some e) f = Some e

abbrev pub list_fault : Result Totals ListFault → Option ProcessFault
list_fault (Ok t) = None
list_fault (Err f) = Some (OfList f)

module _ (c p : Source) (cs : List Change) (room : ℕ) where
  abbrev pub fault_of : List (Option Piece) → Option ProcessFault
  fault_of os =
      first_of (option_map EmptyRange (first_none 0 os))
      (first_of (cond (same_source c p) (Some SameCommit) None)
      (first_of (list_fault (judge_of cs))
      (first_of (option_map HunkOutside (first_outside c (new_total cs) 0 os))
      (cond (nat_le (length (pieces c p cs (hunks_of os))) room) None (Some HunksFull)))))

  abbrev pub answer_of : Option ProcessFault → List (Option Piece) → Result (List Piece) ProcessFault
  answer_of None os = Ok (pieces c p cs (hunks_of os))
  answer_of (Some e) os = Err e

  -- the pieces of all hunks, or the first refusal
  abbrev pub process_of : List (Option Piece) → Result (List Piece) ProcessFault
  process_of os = answer_of (fault_of os) os

-- the caller's table behind the call, and what the call answers
abbrev pub table_of : List HunkRow → Result (List Piece) ProcessFault → List HunkRow
table_of entry (Ok ps) = map row_of ps ++ drop (length ps) entry
table_of entry (Err e) = entry

abbrev pub count_of : Result (List Piece) ProcessFault → Result ℕ ProcessFault
count_of (Ok ps) = Ok (length ps)
count_of (Err e) = Err e
