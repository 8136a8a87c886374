-- The digits in front of a text, and the number that they write.
use Rattle.std.proofs.Common.{◌≡◌, ℕ, zero, suc, ◌+◌, ◌-◌, ◌*◌, ◌<◌, ◌≤◌, Bool, true, not, ltb, leb, List, [], ◌∷◌, ◌++◌, length, get_or, slice_index_or, take, drop, Some, None, refl, ap, ◌∙◌, inl, inr, arith}
use Rattle.std.specs.List.{before_first, position_or_len}
use Rattle.std.proofs.lemmas.List.{take-append-drop, take_more}
use Rattle.std.proofs.lemmas.Bool.{and_right, cases_Bool, le-leb, lt-leb}
use Rattle.text.specs.Decimal.{digit, front, back, value, number_of}

abbrev pub other : ℕ → Bool
other b = not (digit b)

-- the digits end before the first byte that is none
pub digits_at : (s : List ℕ) → (front s ≡ before_first other s) × (back s ≡ drop (position_or_len other s) s)
digits_at [] = (refl, refl)
digits_at (b ∷ bs) =
    let more = digits_at bs in
    let n = position_or_len other bs in
    let p : 1 + n ≡ suc n = omega arith in
    elim (cases_Bool (digit b)) [
      | inl e ↦ (rw e (rw p (ap (λ l. b ∷ l) more.0)), rw e (rw p more.1))
      | inr e ↦ (rw e refl, rw e refl)
    ]

-- each byte in front is a digit
pub front-digits : (s : List ℕ) (i : ℕ) → i < length (front s) → digit (get_or (front s) i 0) ≡ true
front-digits [] i h = absurd (omega arith)
front-digits (b ∷ bs) zero h =
    elim (cases_Bool (digit b)) [
      | inl e ↦ rw e e
      | inr e ↦ let z : 0 < length {A = ℕ} [] = rw e at h in absurd (omega arith)
    ]
front-digits (b ∷ bs) (suc i) h =
    elim (cases_Bool (digit b)) [
      | inl e ↦ let z : suc i < length (b ∷ front bs) = rw e at h in rw e (front-digits bs i (omega arith))
      | inr e ↦ let z : suc i < length {A = ℕ} [] = rw e at h in absurd (omega arith)
    ]

pub value-append : (v : ℕ) (xs ys : List ℕ) → value v (xs ++ ys) ≡ value (value v xs) ys
value-append v [] ys = refl
value-append v (b ∷ xs) ys = value-append (v * 10 + (b - 48)) xs ys

-- one digit more
pub value_more : (ds : List ℕ) (i : ℕ) → i < length ds → value 0 (take (i + 1) ds) ≡ value 0 (take i ds) * 10 + (get_or ds i 0 - 48)
value_more ds i h = ap (value 0) (take_more ds i 0 h) ∙ value-append 0 (take i ds) (get_or ds i 0 ∷ [])

-- a number does not fall as digits follow
pub value_grows : (v : ℕ) (bs : List ℕ) → v ≤ value v bs
value_grows v [] = omega arith
value_grows v (b ∷ bs) = omega (arith, value_grows (v * 10 + (b - 48)) bs)

pub value_past : (ds : List ℕ) (i : ℕ) → value 0 (take i ds) ≤ value 0 ds
value_past ds i = omega (arith, ap (value 0) (take-append-drop i ds), value-append 0 (take i ds) (drop i ds), value_grows (value 0 (take i ds)) (drop i ds))

-- a number that is read
pub reads : (most : ℕ) (s : List ℕ) → 0 < length (front s) → value 0 (front s) ≤ most → number_of most s ≡ Some (value 0 (front s), back s)
reads most s h l =
    let x : ltb 0 (length (front s)) ≡ true = le-leb _ _ h in
    let y : leb (value 0 (front s)) most ≡ true = le-leb _ _ l in
    rw (x, y)

-- a number past the most
pub too_large : (most : ℕ) (s : List ℕ) → most < value 0 (front s) → number_of most s ≡ None
too_large most s h = let e = and_right (ltb 0 (length (front s))) (leb (value 0 (front s)) most) (lt-leb _ _ h) in rw e

-- .. as the digit shows that passes it
pub passed : (most v : ℕ) (left s : List ℕ) → 1 ≤ length left → digit (slice_index_or left 0 0) ≡ true → value v (front left) ≡ value 0 (front s)
    → most < v * 10 + (slice_index_or left 0 0 - 48) → number_of most s ≡ None
passed most v [] s h d e l = absurd (omega arith)
passed most v (b ∷ bs) s h d e l =
    let f : value (v * 10 + (b - 48)) (front bs) ≡ value 0 (front s) = rw d at e in
    too_large most s (omega (arith, f, l, value_grows (v * 10 + (b - 48)) (front bs)))
