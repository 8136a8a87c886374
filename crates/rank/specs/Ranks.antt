-- Elements in the order of a ranking, where `after a b` says that a ranks after b, and where one is put among them. Assumes nothing.
use Rattle.std.specs.Prelude.{◌≡◌, ℕ, suc, ◌≤◌, Bool, false, cond, List, [], ◌∷◌, ◌++◌, length, take, drop}
use Rattle.std.specs.List.{AllByRecursion}

-- no element ranks after a later one
abbrev pub InOrder : {X : Type 0} → (X → X → Bool) → List X → Type 0
InOrder after [] = Unit {0}
InOrder after (x ∷ xs) = AllByRecursion (λ y. after x y ≡ false) xs × InOrder after xs

-- x before the first element that ranks after it, else at the end
abbrev pub put : {X : Type 0} → (X → X → Bool) → X → List X → List X
put after x [] = x ∷ []
put after x (y ∷ ys) = cond (after y x) (x ∷ y ∷ ys) (y ∷ put after x ys)

-- at which place that is
abbrev pub place_of : {X : Type 0} → (X → X → Bool) → X → List X → ℕ
place_of after x [] = 0
place_of after x (y ∷ ys) = cond (after y x) 0 (suc (place_of after x ys))

-- x stands at one place among the elements, which are as before and in their order
pub record Among {X : Type 0} (x : X) (before behind : List X) : Type 0 where
  pub place : ℕ
  pub within : place ≤ length before
  pub is : behind ≡ take place before ++ x ∷ drop place before
