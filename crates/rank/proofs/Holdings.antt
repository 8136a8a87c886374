-- A table is told by its limit and its elements: what it has memory for follows from them.
use Rattle.std.proofs.Common.{◌≡◌, ℕ, ◌≤◌, List, length, sym, ◌∙◌}
use Rattle.std.proofs.Math.Bridge.{le_prop}
use Rattle.std.proofs.Math.Nat.{ℕ_set}
use Rattle.std.proofs.Math.Path.{to_path_p}
use Rattle.rank.specs.Holding.{Holding, holding}

module _ {X : Type 0} (a : Holding X) where
  -- tables of one limit and of equal elements are equal
  pub same_holding : (b : Holding X) → a.limit ≡ b.limit → a.items ≡ b.items → a ≡ b
  same_holding b l e =
      let c : a.capacity ≡ b.capacity = a.exact ∙ l ∙ sym b.exact in
      let few = to_path_p (λ i. length (e i) ≤ l i) (le_prop _ b.few) in
      let room = to_path_p (λ i. l i ≤ c i) (le_prop _ b.room) in
      let exact = to_path_p (λ i. c i ≡ l i) (ℕ_set _ _ _ b.exact) in
      λ i. record { limit = l i; items = e i; few = few i; capacity = c i; room = room i; exact = exact i }

  pub is_holding : (limit : ℕ) (items : List X) (few : length items ≤ limit) → a.limit ≡ limit → a.items ≡ items → a ≡ holding limit items few
  is_holding limit items few = same_holding (holding limit items few)
