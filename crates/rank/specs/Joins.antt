-- Neighbours that join, made one from the first on. Assumes nothing.
use Rattle.std.specs.Prelude.{◌≡◌, Bool, true, false, cond, List, [], ◌∷◌, ◌++◌, Some, None, Option}

module _ {X : Type 0} (joins : X → X → Bool) (joined : X → X → X) where
  -- what the two join to, if they join
  abbrev pub joint : X → X → Option X
  joint a b = cond (joins a b) (Some (joined a b)) None

  -- x with all that follow it and join, and what is left behind them
  abbrev pub from : X → List X → List X
  from x [] = x ∷ []
  from x (y ∷ ys) = cond (joins x y) (from (joined x y) ys) (x ∷ from y ys)

  abbrev pub coalesced : List X → List X
  coalesced [] = []
  coalesced (x ∷ xs) = from x xs

  -- xs coalesces to ys, whichever neighbours that join are made one first
  abbrev pub AnyFirst : List X → List X → Type 0
  AnyFirst xs ys = (front back : List X) (a b : X) → joins a b ≡ true → xs ≡ front ++ a ∷ b ∷ back → coalesced (front ++ joined a b ∷ back) ≡ ys

module _ {X : Type 0} (joins : X → X → Bool) where
  -- x does not join the first of xs
  abbrev pub Stands : X → List X → Type 0
  Stands x [] = Unit {0}
  Stands x (y ∷ ys) = joins x y ≡ false

  -- no two neighbours join
  abbrev pub Parted : List X → Type 0
  Parted [] = Unit {0}
  Parted (x ∷ xs) = Stands x xs × Parted xs
