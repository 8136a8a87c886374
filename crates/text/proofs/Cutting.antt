-- The first line of a text and the lines behind it.
use Rattle.std.proofs.Common.{◌≡◌, ◌==◌, refl, ℕ, suc, ◌+◌, ◌<◌, ◌≤◌, eqb, List, [], ◌∷◌, length, ap, inl, inr, arith}
use Rattle.std.specs.List.{before_first, after_first, position_or_len}
use Rattle.std.proofs.lemmas.Bool.{cases_Bool}
use Rattle.text.specs.Cuts.{line_of, rest_of, in_front, lines_of}

-- the first line ends before the first LF
pub cut_at : (s : List ℕ) → (line_of s ≡ before_first (λ b. b == 10) s) × (rest_of s ≡ after_first (λ b. b == 10) s)
cut_at [] = (refl, refl)
cut_at (b ∷ bs) =
    let more = cut_at bs in
    let n = position_or_len (λ b. b == 10) bs in
    let p : 1 + n ≡ suc n = omega arith in
    let q : 1 + n + 1 ≡ suc (n + 1) = omega arith in
    elim (cases_Bool (eqb b 10)) [
      | inl e ↦ (rw e refl, rw e refl)
      | inr e ↦ (rw e (rw p (ap (λ l. b ∷ l) more.0)), rw e (rw q more.1))
    ]

-- the lines of a text are its first line and those behind it
pub lines_cut : (b : ℕ) (bs : List ℕ) → lines_of (b ∷ bs) ≡ line_of (b ∷ bs) ∷ lines_of (rest_of (b ∷ bs))
lines_cut b [] = elim (cases_Bool (eqb b 10)) [ inl e ↦ rw e | inr e ↦ rw e ]
lines_cut b (x ∷ xs) =
    let more = lines_cut x xs in
    elim (cases_Bool (eqb b 10)) [ inl e ↦ rw e | inr e ↦ rw e (ap (in_front b) more) ]

-- what stands behind a line is shorter
pub rest-shorter : (b : ℕ) (bs : List ℕ) → length (rest_of (b ∷ bs)) < length (b ∷ bs)
rest-shorter b [] = elim (cases_Bool (eqb b 10)) [ inl e ↦ rw e (omega arith) | inr e ↦ rw e (omega arith) ]
rest-shorter b (x ∷ xs) =
    let more = rest-shorter x xs in
    elim (cases_Bool (eqb b 10)) [ inl e ↦ rw e (omega arith) | inr e ↦ rw e (omega (arith, more)) ]

-- .. if it has a byte
pub lines-of-some : (s : List ℕ) → 0 < length s → lines_of s ≡ line_of s ∷ lines_of (rest_of s)
lines-of-some [] h = absurd (omega arith)
lines-of-some (b ∷ bs) h = lines_cut b bs

-- a text has no more lines than bytes
in-front-length : (b : ℕ) (ls : List (List ℕ)) → length (in_front b ls) ≤ 1 + length ls
in-front-length b [] = omega arith
in-front-length b (l ∷ ls) = omega arith

pub few-lines : (s : List ℕ) → length (lines_of s) ≤ length s
few-lines [] = omega arith
few-lines (b ∷ bs) =
    let more = few-lines bs in
    elim (cases_Bool (eqb b 10)) [
      | inl e ↦ rw e (omega (arith, more))
      | inr e ↦ rw e (omega (arith, more, in-front-length b (lines_of bs)))
    ]
