-- A list that a loop lays over another: the first i are of xs, the others still of zs.
use Rattle.std.proofs.Common.{◌≡◌, ℕ, ◌+◌, ◌<◌, List, [], ◌∷◌, ◌++◌, length, get_or, take, drop, set, sym, ap, ◌∙◌, arith}
use Rattle.std.proofs.lemmas.List.{append_assoc, drop_more, length-take-le, set_at, take_more}
use Rattle.hunk.specs.declared.suspect.Suspect.{Suspect}
use Rattle.hunk.specs.Sound.{blank}

-- a suspect of zeros
pub zeros : (a b d : ℕ) → a ≡ 0 → b ≡ 0 → d ≡ 0 → ◌≡◌ {A = Suspect} (record { source = record { commit = a }; range = record { start = b; end = d } }) blank
zeros a b d p q r = cc

abbrev pub laid : List Suspect → List Suspect → ℕ → List Suspect
laid xs zs i = take i xs ++ drop i zs

module _ (xs zs : List Suspect) (i : ℕ) where
  laid-here : i < length zs → laid xs zs i ≡ take i xs ++ get_or zs i blank ∷ drop (i + 1) zs
  laid-here h = ap (λ l. take i xs ++ l) (drop_more zs i blank h)

  laid_more : i < length xs → laid xs zs (i + 1) ≡ take i xs ++ get_or xs i blank ∷ drop (i + 1) zs
  laid_more h = ap (λ l. l ++ drop (i + 1) zs) (take_more xs i blank h) ∙ append_assoc (take i xs) (get_or xs i blank ∷ []) (drop (i + 1) zs)

  pub laid-set : i < length xs → i < length zs → set (laid xs zs i) i (get_or xs i blank) ≡ laid xs zs (i + 1)
  laid-set h l =
      ap (λ m. set m i (get_or xs i blank)) (laid-here l)
      ∙ set_at (take i xs) (get_or zs i blank) (drop (i + 1) zs) (get_or xs i blank) i (length-take-le i xs (omega arith))
      ∙ sym (laid_more h)
