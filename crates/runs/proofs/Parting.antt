-- The part of a run in a range has just the lines that are in both, each at its place.
use Rattle.std.proofs.Common.{◌≡◌, ℕ, ◌+◌, ◌-◌, ◌^◌, ◌<◌, ◌≤◌, max, false, cond, ◌&&◌, ltb, Some, None, Option, sym, refl, ap, ◌∙◌, subst, inl, inr, arith}
use Rattle.std.proofs.lemmas.Bool.{cases_Bool, and_cases, and_right, le-ltb, ltb-true, ltb-false, both_ways}
use Rattle.std.specs.Option.{option_map}
use Rattle.change.specs.declared.span.Span.{Span}
use Rattle.runs.specs.Rows.{Run}
use Rattle.runs.specs.Parts.{shared, place_fits, part_of, Fits, Shared}

-- the place of a line by the part, and by the run
moved_on : (q : Option ℕ) (a b n : ℕ) → a ≤ b → b ≤ n → option_map (λ x. x + (n - b)) (option_map (λ x. x + (b - a)) q) ≡ option_map (λ x. x + (n - a)) q
moved_on None a b n l m = refl
moved_on (Some x) a b n l m = ap Some (omega arith)

pub part-shared : (s : Span) (r : Run) → Fits r → Shared s r (part_of s r)
part-shared s r f =
    let x = shared s r in
    elim (cases_Bool (ltb x.start x.end && place_fits x.place)) [
      | inl b ↦
          let some : Shared s r (Some x) = (
            λ n k. ((omega (arith, k.0), omega (arith, k.1)), (omega (arith, k.0), omega (arith, k.1)), moved_on r.place r.start x.start n (omega arith) k.0),
            λ n k l. (omega (arith, k.0, l.0), omega (arith, k.1, l.1)),
          ) in
          subst (Shared s r) (sym (ap (λ v. cond v (Some x) None) b)) some
      | inr b ↦
          let none : Shared s r None =
          λ n k l.
          elim (and_cases (ltb x.start x.end) (place_fits x.place) b) [
            | inl e ↦ let m : x.end ≤ x.start = ltb-false _ _ e in omega (arith, k.0, k.1, l.0, l.1)
            | inr e ↦ both_ways (place_fits x.place) e (f x.start (omega arith, omega (arith, k.0, k.1, l.0, l.1)))
          ] in
          subst (Shared s r) (sym (ap (λ v. cond v (Some x) None) b)) none
    ]

-- .. where the place passes 32 bits
pub no_part : (s : Span) (r : Run) (q : ℕ) → r.place ≡ Some q → (q + (max r.start s.start - r.start) < 2 ^ 32 → ⊥) → None ≡ part_of s r
no_part s r q e n =
    let x = shared s r in
    let p : place_fits x.place ≡ false = ap (λ v. place_fits (option_map (λ w. w + (max r.start s.start - r.start)) v)) e ∙ le-ltb _ _ (past n) in
    sym (ap (λ v. cond v (Some x) None) (and_right (ltb x.start x.end) (place_fits x.place) p))
  where
    past : {a b : ℕ} → (a < b → ⊥) → b ≤ a
    past {a} {b} h = elim (cases_Bool (ltb a b)) [ inl t ↦ absurd (h (ltb-true a b t)) | inr t ↦ ltb-false a b t ]
