-- Suspects are equal if their parts are, and lists of rows if their first rows and the rows behind are.
use Rattle.std.proofs.Common.{◌≡◌, List, [], ◌∷◌, length, Decides, rules, refl, arith}
use Rattle.hunk.specs.declared.suspect.Suspect.{Suspect}
use Rattle.hunk.specs.contracts.suspect.SuspectPartialEq.TheImpl.{eq-value as suspect_eq}

pub same_suspect : (a b : Suspect) → Decides (suspect_eq.it a b) (a ≡ b)
same_suspect a b = search rules

module _ {X : Type 0} where
  pub heads : {a b : X} {as_ bs : List X} → a ∷ as_ ≡ b ∷ bs → a ≡ b
  heads e = cc

  pub tails : {a b : X} {as_ bs : List X} → a ∷ as_ ≡ b ∷ bs → as_ ≡ bs
  tails e = cc

  pub joined : {a b : X} {as_ bs : List X} → a ≡ b → as_ ≡ bs → a ∷ as_ ≡ b ∷ bs
  joined p q = cc

  pub both_empty : (xs ys : List X) → length xs ≡ 0 → length ys ≡ 0 → xs ≡ ys
  both_empty [] [] p q = refl
  both_empty (x ∷ xs) ys p q = absurd (omega arith)
  both_empty [] (y ∷ ys) p q = absurd (omega arith)
