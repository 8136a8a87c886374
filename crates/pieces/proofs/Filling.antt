-- A table as pieces are written to it.
use Rattle.std.proofs.Common.{◌≡◌, ℕ, ◌+◌, ◌-◌, ◌≤◌, List, [], ◌++◌, map, length, take, drop, sym, refl, ap, ◌∙◌, subst, arith}
use borrow.Rule.Slice.PartMut.{put_mid}
use Rattle.std.specs.List.{AllByRecursion}
use Rattle.std.proofs.lemmas.List.{length-append, length-drop, length-take-le, take-append-drop, take_at, take_rest, drop_at, drop_all, drop-drop, map-append, append_assoc, append-nil}
use Rattle.std.proofs.ByRecursion.{All-append}
use Rattle.hunk.specs.Hunks.{Piece}
use Rattle.pieces.specs.Tables.{Filled}

module _ {R : Type 0} (means : R → Piece) (exact : R → Type 0) (entry : List R) where
  pub fill_none : Filled means exact entry [] entry
  fill_none = record { pieces = refl; exacts = tt; rest = refl; long = refl }

-- lists side by side
parts : {X : Type 0} (xs ys : List X) (n b : ℕ) → n ≡ length xs → b ≤ length ys → (take (n + b) (xs ++ ys) ≡ xs ++ take b ys) × (drop (n + b) (xs ++ ys) ≡ drop b ys)
parts xs ys n b e l =
    let len : length (xs ++ take b ys) ≡ n + b = length-append xs (take b ys) ∙ omega (arith, e, length-take-le b ys l) in
    let whole : xs ++ ys ≡ (xs ++ take b ys) ++ drop b ys = ap (λ z. xs ++ z) (sym (take-append-drop b ys)) ∙ sym (append_assoc xs (take b ys) (drop b ys)) in
    (ap (take (n + b)) whole ∙ take_at (xs ++ take b ys) (drop b ys) (n + b) len, ap (drop (n + b)) whole ∙ drop_at (xs ++ take b ys) (drop b ys) (n + b) len)

-- the free tail of the table, from n on, was lent to a writer, which filled it with more pieces
pub fill-tail : {R : Type 0} (means : R → Piece) (exact : R → Type 0) (entry old new : List R) (ready ps : List Piece) (n : ℕ) → n ≡ length ready → n ≤ length old
    → Filled means exact entry ready old → Filled means exact (take (length old - n) (drop n old)) ps new → length ps ≤ length new
    → Filled means exact entry (ready ++ ps) (put_mid n (length old - n) old new)
fill-tail means exact entry old new ready ps n e l f w fit =
    let tail : take (length old - n) (drop n old) ≡ drop n old = take_rest old n in
    let none : drop (length old - n) (drop n old) ≡ [] = drop_all (length old - n) (drop n old) (simp length-drop (omega arith)) in
    let out : put_mid n (length old - n) old new ≡ take n old ++ new = ap (λ z. take n old ++ (new ++ z)) none ∙ ap (λ z. take n old ++ z) (append-nil new) in
    let size : n ≡ length (take n old) = sym (length-take-le n old l) in
    let len : length (ready ++ ps) ≡ n + length ps = length-append ready ps ∙ omega (arith, e) in
    let q = parts (take n old) new n (length ps) size fit in
    let t : take (length (ready ++ ps)) (take n old ++ new) ≡ take n old ++ take (length ps) new = ap (λ k. take k (take n old ++ new)) len ∙ q.0 in
    let old-ready : take n old ≡ take (length ready) old = ap (λ k. take k old) e in
    let done : Filled means exact entry (ready ++ ps) (take n old ++ new) =
    record {
      pieces = ap (map means) (t ∙ ap (λ z. z ++ take (length ps) new) old-ready) ∙ map-append means (take (length ready) old) (take (length ps) new)
          ∙ ap (λ z. z ++ map means (take (length ps) new)) f.pieces ∙ ap (λ z. ready ++ z) w.pieces;
      exacts = subst (AllByRecursion exact) (sym (t ∙ ap (λ z. z ++ take (length ps) new) old-ready)) (All-append exact (take (length ready) old) (take (length ps) new) f.exacts w.exacts);
      rest = ap (λ k. drop k (take n old ++ new)) len ∙ q.1 ∙ w.rest ∙ ap (drop (length ps)) tail ∙ drop-drop (length ps) n old
          ∙ sym (drop-drop (length ps) n old) ∙ ap (drop (length ps)) (ap (λ k. drop k old) e ∙ f.rest ∙ ap (λ k. drop k entry) (sym e)) ∙ drop-drop (length ps) n entry ∙ sym (ap (λ k. drop k entry) len);
      long = length-append (take n old) new ∙ omega (arith, size, w.long, ap length tail, length-drop n old, f.long);
    } in
    subst (Filled means exact entry (ready ++ ps)) (sym out) done
