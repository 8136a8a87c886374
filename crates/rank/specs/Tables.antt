-- Tables with a limit: what they hold, and what becomes of an element that is offered. Assumes nothing.
use Rattle.std.specs.Prelude.{ℕ, Bool, cond, List, length, Ok, Err, Result, nat_lt}
use Rattle.rank.specs.declared.table.Table.{Table}
use Rattle.rank.specs.declared.table.Full.{Full}

module _ {X : Type 0} where
  abbrev pub items_of : Table X → List X
  items_of t = t.items

  -- a table of these elements takes one more
  abbrev pub has_room : ℕ → List X → Bool
  has_room limit xs = nat_lt (length xs) limit

  -- what x is answered: it is taken, or handed back where the table is full
  abbrev pub answer_to : ℕ → List X → X → Result (Unit {0}) (Full X)
  answer_to limit xs x = cond (has_room limit xs) (Ok tt) (Err (record { value = x }))

  -- what the table holds then: `taken`, or what it held
  abbrev pub then_holds : ℕ → List X → List X → List X
  then_holds limit xs taken = cond (has_room limit xs) taken xs
