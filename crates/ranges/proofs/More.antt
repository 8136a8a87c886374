-- A range added: the ranges stay in order and apart, and its lines are asked too.
use Rattle.std.proofs.Common.{◌≡◌, ℕ, false, ◌||◌, eqb, ltb, List, [], ◌∷◌, length, IfOk, Ok, Err, Result, sym, refl, ap, ◌∙◌, subst, inl, inr, arith}
use Rattle.std.specs.List.{AllByRecursion}
use Rattle.std.proofs.lemmas.Bool.{cases_Bool, eqb-false, ltb-false}
use Rattle.change.specs.declared.span.Span.{Span}
use Rattle.change.specs.declared.line_range.LineRange.{LineRange}
use Rattle.ranges.specs.declared.fault.RangeFault.{RangeFault}
use Rattle.ranges.specs.Spans.{spans, has, any_has, whole, others, merged_in, Apart}
use Rattle.ranges.specs.Adds.{zero_based, merge_of, add_of, answer_of, then_of, asked_only, AskedToo}
use Rattle.ranges.proofs.Parts.{Parted, parted, lines_from}
use Rattle.ranges.proofs.Merges.{Some-line, all_lines, merged-parted}
use Rattle.ranges.proofs.Asks.{merged-has, merged_some}

-- a row has a line by its type
rows-lines : (rows : List LineRange) → AllByRecursion Some-line (spans rows)
rows-lines [] = tt
rows-lines (r ∷ rs) = (r.lines, rows-lines rs)

pub rows-parted : (rows : List LineRange) → Apart (spans rows) → Parted (spans rows)
rows-parted rows a = parted (spans rows) (lines_from (spans rows) (rows-lines rows)) a

-- what an answer says of the ranges
pub answered-ok : (o : Result (List Span) RangeFault) (rs : List Span) → Ok tt ≡ answer_of o → o ≡ Ok (then_of rs o)
answered-ok (Ok new) rs e = refl
answered-ok (Err g) rs e = let z : ◌≡◌ {A = ℕ} 0 1 = cc in absurd (omega arith)

-- the ranges with lines s to e, where they are not refused
pub record Grown (rs : List Span) (s e : ℕ) (more : List Span) : Type 0 where
  pub order : Parted more
  pub some : whole more ≡ false
  pub asks : (k : ℕ) → any_has more k ≡ (has (zero_based s e) k || any_has rs k)

pub grown : (rs : List Span) (s e : ℕ) (more : List Span) → Parted rs → add_of rs s e ≡ Ok more → Grown rs s e more
grown rs s e more p q =
    elim (cases_Bool (eqb s 0)) [
      | inl z ↦ let w : ◌≡◌ {A = ℕ} 0 1 = (let r = rw z at q in cc) in absurd (omega arith)
      | inr z ↦
          elim (cases_Bool (ltb e s)) [
            | inl y ↦ let w : ◌≡◌ {A = ℕ} 0 1 = (let r = rw (z, y) at q in cc) in absurd (omega arith)
            | inr y ↦
                elim (cases_Bool (ltb (length (others (zero_based s e) rs)) 64)) [
                  | inl x ↦
                      let same : merged_in (zero_based s e) rs ≡ more = (let r = rw (z, y, x) at q in cc) in
                      let l : Some-line (zero_based s e) = (let a = eqb-false s 0 z in let b = ltb-false e s y in omega arith) in
                      record {
                        order = subst Parted same (merged-parted (zero_based s e) rs l p);
                        some = ap whole (sym same) ∙ merged_some (zero_based s e) rs;
                        asks = λ k. ap (λ m. any_has m k) (sym same) ∙ merged-has (zero_based s e) rs l (all_lines rs p) k;
                      }
                  | inr x ↦ let w : ◌≡◌ {A = ℕ} 0 1 = (let r = rw (z, y, x) at q in cc) in absurd (omega arith)
                ]
          ]
    ]

pub only : (rs : List Span) (k : ℕ) → any_has rs k ≡ asked_only rs k
only [] k = refl
only (r ∷ rs) k = refl

pub add-asks : (rs : List Span) (s e : ℕ) (r : Result (Unit {0}) RangeFault) (behind : List Span) → Parted rs → r ≡ answer_of (add_of rs s e) → behind ≡ then_of rs (add_of rs s e)
    → IfOk r (λ _. AskedToo rs s e behind)
add-asks rs s e (Ok t) behind p a h =
    let g = grown rs s e behind p (answered-ok (add_of rs s e) rs a ∙ ap Ok (sym h)) in
    λ k. ap (λ w. w || any_has behind k) g.some ∙ g.asks k ∙ ap (λ b. has (zero_based s e) k || b) (only rs k)
add-asks rs s e (Err f) behind p a h = tt

-- a range merged in, or refused
pub merge-parted : (n : Span) (rs : List Span) → Some-line n → Parted rs → Parted (then_of rs (merge_of n rs))
merge-parted n rs l p = elim (cases_Bool (ltb (length (others n rs)) 64)) [ inl e ↦ rw e (merged-parted n rs l p) | inr e ↦ rw e p ]
