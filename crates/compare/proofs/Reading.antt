-- One item on, in the reading of a part and of a row's suspects.
use Rattle.std.proofs.Common.{◌≡◌, ℕ, suc, ◌+◌, ◌-◌, ◌<◌, ◌≤◌, List, [], ◌∷◌, ◌++◌, length, take, drop, set, replicate, Some, None, Option, sym, refl, ap, ◌∙◌, arith, length-set, take-append-drop, length-take}
use Rattle.std.proofs.lemmas.List.{take_more_set, drop-set-lt, drop-replicate}
use Rattle.change.specs.declared.change.Change.{Change}
use Rattle.hunk.specs.declared.source.Source.{Source}
use Rattle.hunk.specs.declared.suspect.Suspect.{Suspect}
use Rattle.hunk.specs.declared.row.HunkRow.{HunkRow}
use Rattle.compare.specs.Tokens.{and_then}
use Rattle.compare.specs.Lines.{part_of, Parts, parts_of, whole}
use Rattle.compare.specs.Items.{more, suspect_of, suspects_of, row_of, change_of, sources_of, nobody, placed}

module _ {X : Type 0} (item : List ℕ → Option (X × List ℕ)) (xs : List X) (n i : ℕ) (s : List ℕ) where
  pub more-step : (x : X) (t : List ℕ) → i < n → item s ≡ Some (x, t) → more item xs (n - i) s ≡ more item (xs ++ x ∷ []) (n - (i + 1)) t
  more-step x t h e = let z : n - i ≡ suc (n - (i + 1)) = omega arith in rw (z, e)

  -- with the item pushed onto those before it
  pub more-push : {r : Option (List X × List ℕ)} {x : X} {t : List ℕ} {ys : List X} → i < n → ys ≡ xs ++ x ∷ [] → item s ≡ Some (x, t) → more item xs (n - i) s ≡ r → more item ys (n - (i + 1)) t ≡ r
  more-push {t = t} h p e before = ap (λ zs. more item zs (n - (i + 1)) t) p ∙ sym (more-step _ t h e) ∙ before

  pub more-stop : i < n → item s ≡ None → more item xs (n - i) s ≡ None
  more-stop h e = let z : n - i ≡ suc (n - (i + 1)) = omega arith in rw (z, e)

  pub more-done : n ≤ i → more item xs (n - i) s ≡ Some (xs, s)
  more-done h = let z : n - i ≡ 0 = omega arith in rw z

-- so many of k suspects are read from the text s, and t is left
pub record Placing (k : ℕ) (s : List ℕ) (i : ℕ) (xs : List Suspect) (t : List ℕ) : Type 0 where
  pub same : more suspect_of (take i xs) (k - i) t ≡ more suspect_of [] k s
  pub empty : (j : ℕ) → i ≤ j → drop j xs ≡ replicate (8 - j) nobody
  pub size : length xs ≡ 8

pub placing : (k : ℕ) (s : List ℕ) → Placing k s 0 (replicate 8 nobody) s
placing k s = record { same = let z : k - 0 ≡ k = omega arith in rw z; empty = λ j _. drop-replicate j 8 nobody; size = refl }

module _ (k : ℕ) (s : List ℕ) (i : ℕ) (xs : List Suspect) (t : List ℕ) (on : Placing k s i xs t) where
  pub placing-more : (x : Suspect) (u : List ℕ) → i < k → k ≤ 8 → suspect_of t ≡ Some (x, u) → Placing k s (i + 1) (set xs i x) u
  placing-more x u h m e =
      let l : i < length xs = omega (arith, on.size) in
      record {
        same = ap (λ ys. more suspect_of ys (k - (i + 1)) u) (take_more_set xs i x l) ∙ sym (more-step suspect_of (take i xs) k i t x u h e) ∙ on.same;
        empty = λ j b. drop-set-lt j xs i x (omega (arith, b)) ∙ on.empty j (omega (arith, b));
        size = length-set xs i x ∙ on.size;
      }

  pub placing-stop : i < k → suspect_of t ≡ None → suspects_of k s ≡ None
  placing-stop h e = let z : more suspect_of [] k s ≡ None = sym on.same ∙ more-stop suspect_of (take i xs) k i t h e in rw z

  pub placing-done : k ≤ i → i ≤ 8 → suspects_of k s ≡ Some (xs, t)
  placing-done h m =
      let z : more suspect_of [] k s ≡ Some (take i xs, t) = sym on.same ∙ more-done suspect_of (take i xs) k i t h in
      let l : length (take i xs) ≡ i = omega (arith, length-take i xs, on.size) in
      let p : placed (take i xs) ≡ xs =
      ap (λ m. take i xs ++ replicate (8 - m) nobody) l ∙ ap (λ ys. take i xs ++ ys) (sym (on.empty i (omega arith))) ∙ take-append-drop i xs in
      rw z (ap (λ ys. Some (ys, t)) p)

-- the end of a line
pub whole-some : {X : Type 0} (x : X) (s : List ℕ) → length s ≡ 0 → whole x s ≡ Some x
whole-some x [] h = refl
whole-some x (b ∷ bs) h = absurd (omega (arith, h))

pub whole-none : {X : Type 0} (x : X) (s : List ℕ) → (length s ≡ 0 → ⊥) → whole x s ≡ None
whole-none x [] h = absurd (h refl)
whole-none x (b ∷ bs) h = refl

then_some : {X Y : Type 0} {o : Option X} {x : X} → o ≡ Some x → (f : X → Option Y) → and_then o f ≡ f x
then_some e f = ap (λ o. and_then o f) e

module _ (s : List ℕ) (a b : Source) (t : List ℕ) (rows : List HunkRow) (u : List ℕ) (changes : List Change) (v : List ℕ) (expected : List HunkRow) (w : List ℕ) where
  abbrev read : Parts
  read = record { suspect = a; parent = b; rows = rows; changes = changes; expected = expected }

  pub parts-read : sources_of s ≡ Some ((a, b), t) → part_of row_of 72 t ≡ Some (rows, u) → part_of change_of 67 u ≡ Some (changes, v) → part_of row_of 82 v ≡ Some (expected, w)
      → parts_of s ≡ whole read w
  parts-read p h c e = then_some p _ ∙ then_some h _ ∙ then_some c _ ∙ then_some e _
