-- What a table is to those who use it: its limit, its elements in their order, no more than that, and how many it has memory for,
-- no fewer than that and no more. Assumes nothing.
use Rattle.std.specs.Prelude.{◌≡◌, ℕ, ◌≤◌, List, length, refl}
use Rattle.std.proofs.Math.Nat.{le_refl}

pub record Holding (X : Type 0) : Type 0 where
  pub limit : ℕ
  pub items : List X
  pub few : length items ≤ limit
  pub capacity : ℕ
  pub room : limit ≤ capacity
  pub exact : capacity ≡ limit

module _ {X : Type 0} where
  -- .. of this limit and these elements
  abbrev pub holding : (limit : ℕ) (items : List X) → length items ≤ limit → Holding X
  holding limit items few = record { limit = limit; items = items; few = few; capacity = limit; room = le_refl limit; exact = refl }
