-- What is answered once the refusals before it do not apply; and rows that are written.
use Rattle.std.proofs.Common.{◌≡◌, ℕ, ◌+◌, ◌-◌, true, false, leb, List, [], ◌∷◌, ◌++◌, map, length, take, drop, replicate, Some, None, Ok, Err, Option, Result, sym, refl, ap, ◌∙◌, subst, inl, inr, arith}
use Rattle.std.specs.List.{AllByRecursion}
use Rattle.std.proofs.lemmas.Bool.{cases_Bool}
use Rattle.std.proofs.lemmas.List.{take_at, length-map, take-append-drop}
use Rattle.change.specs.declared.change.Change.{Change}
use Rattle.change.specs.declared.list.Totals.{Totals}
use Rattle.change.specs.declared.list.BadList.{BadList}
use Rattle.change.specs.Lists.{checked, new_total, Valid, Judged}
use Rattle.change.proofs.Validity.{judged}
use Rattle.hunk.specs.declared.source.Source.{Source}
use Rattle.hunk.specs.declared.row.HunkRow.{HunkRow}
use Rattle.hunk.specs.Hunks.{Named, Piece, same_source, named}
use Rattle.hunk.specs.Rows.{row_piece, row_of, suspect_of}
use Rattle.hunk.specs.Sound.{blank}
use Rattle.pieces.specs.declared.fault.ListFault.{ListFault}
use Rattle.pieces.specs.declared.fault.ListFault.TheVariants.{ListFull}
use Rattle.pieces.specs.declared.fault.ProcessFault.{ProcessFault}
use Rattle.pieces.specs.declared.fault.ProcessFault.TheVariants.{HunkOutside, HunksFull}
use Rattle.pieces.specs.Answers.{Answered}
use Rattle.pieces.specs.Pieces.{pieces}
use Rattle.pieces.specs.Process.{judge_of, not_too_long, first_none, first_outside, hunks_of, process_of, table_of, count_of}
use Rattle.pieces.specs.Tables.{Filled}

-- a list that is judged good
pub judged-good : (cs : List Change) (t : Totals) → judge_of cs ≡ Ok t → Valid cs × (t.new ≡ new_total cs)
judged-good cs t e = go (checked cs) refl e
  where
    go : (r : Result Totals BadList) → checked cs ≡ r → not_too_long cs r ≡ Ok t → Valid cs × (t.new ≡ new_total cs)
    go (Err b) q n = absurd cc
    go (Ok u) q n =
        elim (cases_Bool (leb (length cs) 512)) [
          | inl l ↦
              let k : ◌≡◌ {A = Result Totals ListFault} (Ok u) (Ok t) = rw l at n in
              let w : u ≡ t = cc in
              let j = subst (Judged cs) q (judged cs) in
              (j.0, ap (λ (v : Totals). v.new) (sym w) ∙ j.1)
          | inr l ↦ let k : ◌≡◌ {A = Result Totals ListFault} (Err ListFull) (Ok t) = rw l at n in absurd cc
        ]

-- no row is outside of a list that is judged good, by its total
pub all-inside : (c : Source) (cs changes : List Change) (os : List (Option Piece)) (t : Totals) → changes ≡ cs → judge_of cs ≡ Ok t → None ≡ first_outside c t.new 0 os
    → first_outside c (new_total changes) 0 os ≡ None
all-inside c cs changes os t same j o = rw same (ap (λ k. first_outside c k 0 os) (sym (judged-good cs t j).1) ∙ sym o)

-- what is answered of such a list: `changes` is the list that was judged
module _ {R : Type 0} (means : R → Piece) (exact : R → Type 0) (entry : List R) (c p : Source) (cs changes : List Change) (room fit : ℕ) (os : List (Option Piece)) (t : Totals)
    (a : first_none 0 os ≡ None) (b : same_source c p ≡ false) (same : changes ≡ cs) (j : judge_of cs ≡ Ok t) (m : fit ≡ room) where
  total : t.new ≡ new_total cs
  total = (judged-good cs t j).1

  pub answered-outside : (i : ℕ) → Some i ≡ first_outside c t.new 0 os → Answered means exact entry entry (process_of c p cs room os) (Err (HunkOutside i))
  answered-outside i o =
      let q : first_outside c (new_total cs) 0 os ≡ Some i = ap (λ k. first_outside c k 0 os) (sym total) ∙ sym o in
      let w : process_of c p cs room os ≡ Err (HunkOutside i) = rw (a, b, j, q) in
      subst (λ r. Answered means exact entry entry r (Err (HunkOutside i))) (sym w) (refl, refl)

  pub answered-full : None ≡ first_outside c t.new 0 os → false ≡ leb (length (pieces c p changes (hunks_of os))) fit
      → Answered means exact entry entry (process_of c p cs room os) (Err HunksFull)
  answered-full o l =
      let q : first_outside c (new_total cs) 0 os ≡ None = ap (λ k. first_outside c k 0 os) (sym total) ∙ sym o in
      let f : leb (length (pieces c p cs (hunks_of os))) room ≡ false = sym (rw (same, m) at l) in
      let w : process_of c p cs room os ≡ Err HunksFull = rw (a, b, j, q, f) in
      subst (λ r. Answered means exact entry entry r (Err HunksFull)) (sym w) (refl, refl)

  pub answered-pieces : (n : ℕ) (out : List R) → None ≡ first_outside c t.new 0 os → true ≡ leb (length (pieces c p changes (hunks_of os))) fit
      → n ≡ length (pieces c p changes (hunks_of os)) → Filled means exact entry (pieces c p changes (hunks_of os)) out
      → Answered means exact entry out (process_of c p cs room os) (Ok n)
  answered-pieces n out o l k w =
      let q : first_outside c (new_total cs) 0 os ≡ None = ap (λ k. first_outside c k 0 os) (sym total) ∙ sym o in
      let f : leb (length (pieces c p cs (hunks_of os))) room ≡ true = sym (rw (same, m) at l) in
      let g : process_of c p cs room os ≡ Ok (pieces c p cs (hunks_of os)) = rw (a, b, j, q, f) in
      subst (λ r. Answered means exact entry out r (Ok n)) (sym g) (rw same at k, rw same at w)

-- a written row reads as its piece
named_back : (size : ℕ) (ss : List Named) → map named (map (suspect_of size) ss) ≡ ss
named_back size [] = refl
named_back size (s ∷ ss) = ap (λ l. s ∷ l) (named_back size ss)

pub row_back : (p : Piece) → row_piece (row_of p) ≡ p
row_back p =
    let rest = replicate (8 - length p.suspects) blank in
    let e : map named (take (length p.suspects) (map (suspect_of p.size) p.suspects ++ rest)) ≡ p.suspects =
    ap (map named) (take_at (map (suspect_of p.size) p.suspects) rest (length p.suspects) (length-map p.suspects (suspect_of p.size)))
    ∙ named_back p.size p.suspects in
    let s : p.asked + p.size - p.asked ≡ p.size = omega arith in
    same s e
  where
    same : {x y : ℕ} {u v : List Named} → x ≡ y → u ≡ v → ◌≡◌ {A = Piece} (record { asked = p.asked; size = x; suspects = u }) (record { asked = p.asked; size = y; suspects = v })
    same g h = rw (g, h)

-- rows that are written exactly are the rows of their pieces
rows-exact : (rs : List HunkRow) → AllByRecursion (λ r. r ≡ row_of (row_piece r)) rs → rs ≡ map row_of (map row_piece rs)
rows-exact [] a = refl
rows-exact (r ∷ rs) a = ap (λ x. x ∷ rs) a.0 ∙ ap (λ l. row_of (row_piece r) ∷ l) (rows-exact rs a.1)

pub table-rows : (entry out : List HunkRow) (ps : List Piece) → Filled row_piece (λ r. r ≡ row_of (row_piece r)) entry ps out → out ≡ map row_of ps ++ drop (length ps) entry
table-rows entry out ps f =
    sym (take-append-drop (length ps) out) ∙ ap (λ l. l ++ drop (length ps) out) (rows-exact (take (length ps) out) f.exacts ∙ ap (map row_of) f.pieces)
    ∙ ap (λ l. map row_of ps ++ l) f.rest

-- the answer and the table of plain rows
pub answered-rows : (entry out : List HunkRow) (a : Result (List Piece) ProcessFault) (r : Result ℕ ProcessFault)
    → Answered row_piece (λ r. r ≡ row_of (row_piece r)) entry out a r → (r ≡ count_of a) × (out ≡ table_of entry a)
answered-rows entry out (Ok ps) (Ok n) w = (ap Ok w.0, table-rows entry out ps w.1)
answered-rows entry out (Ok ps) (Err f) w = absurd w
answered-rows entry out (Err e) (Ok n) w = absurd w
answered-rows entry out (Err e) (Err f) w = (ap Err w.0, w.1)
