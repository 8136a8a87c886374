-- The place of the first byte that passes a test, as it is found or not.
use Rattle.std.proofs.Common.{◌≡◌, ℕ, ◌≤◌, Bool, ltb, List, length, Some, None, inl, inr, arith}
use Rattle.std.specs.List.{position, position_or_len}
use Rattle.std.proofs.lemmas.Bool.{cases_Bool, ltb-false}

none≢some : {i : ℕ} → None ≡ Some i → ⊥
none≢some e = let z : ◌≡◌ {A = ℕ} 0 1 = cc in omega arith

pub found_at : (p : ℕ → Bool) (s : List ℕ) (i : ℕ) → Some i ≡ position p s → i ≡ position_or_len p s
found_at p s i e =
    elim (cases_Bool (ltb (position_or_len p s) (length s))) [
      | inl t ↦ let q : Some i ≡ Some (position_or_len p s) = rw t at e in cc
      | inr t ↦ let q : Some i ≡ None = rw t at e in let z : ◌≡◌ {A = ℕ} 0 1 = cc in absurd (omega arith)
    ]

pub found_nowhere : (p : ℕ → Bool) (s : List ℕ) → None ≡ position p s → length s ≤ position_or_len p s
found_nowhere p s e =
    elim (cases_Bool (ltb (position_or_len p s) (length s))) [
      | inl t ↦ let q : None ≡ Some (position_or_len p s) = rw t at e in absurd (none≢some q)
      | inr t ↦ ltb-false _ _ t
    ]
