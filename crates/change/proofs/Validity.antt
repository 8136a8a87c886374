-- The check of a list, change by change, tells whether the list is valid, and where it first is not.
use Rattle.std.proofs.Common.{◌≡◌, ℕ, ◌+◌, ◌≤◌, true, List, [], ◌∷◌, ◌++◌, length, take, Some, None, Ok, Err, refl, subst, inl, inr, arith}
use Rattle.std.proofs.lemmas.Bool.{cases_Bool, both_ways}
use Rattle.std.proofs.lemmas.Bool.Decides.{nat_tests}
use Rattle.std.proofs.lemmas.List.{append-nil, append_assoc, length_push, length-append, take_at}
use Rattle.change.specs.declared.change.Change.{Change}
use Rattle.change.specs.declared.change.Change.TheVariants.{Unchanged, AddedOrReplaced, Deleted}
use Rattle.change.specs.declared.list.Totals.{Totals}
use Rattle.change.specs.Lists.{limit, new_lines, old_lines, new_total, old_total, Follows, Valid, stands, grown, step_of, check_from, checked, Judged}

abbrev pub totals : List Change → Totals
totals cs = record { new = new_total cs; old = old_total cs }

-- totals of a list and of what stands behind it
pub new-append : (p q : List Change) → new_total (p ++ q) ≡ new_total p + new_total q
new-append [] q = omega arith
new-append (c ∷ p) q = omega (arith, new-append p q)

pub old-append : (p q : List Change) → old_total (p ++ q) ≡ old_total p + old_total q
old-append [] q = omega arith
old-append (c ∷ p) q = omega (arith, old-append p q)

-- a list that follows ends at its total, and what stands behind it goes on from there
pub follows-join : (p q : List Change) (at : ℕ) → Follows at p → Follows (at + new_total p) q → Follows at (p ++ q)
follows-join [] q at f g = let e : at + 0 ≡ at = omega arith in subst (λ n. Follows n q) e g
follows-join (Unchanged r ∷ p) q at f g =
    let e : at + new_total (Unchanged r ∷ p) ≡ r.end + new_total p = omega (arith, f.0, f.1) in
    (f.0, f.1, follows-join p q r.end f.2 (subst (λ n. Follows n q) e g))
follows-join (AddedOrReplaced r k ∷ p) q at f g =
    let e : at + new_total (AddedOrReplaced r k ∷ p) ≡ r.end + new_total p = omega (arith, f.0, f.1) in
    (f.0, f.1, follows-join p q r.end f.2 (subst (λ n. Follows n q) e g))
follows-join (Deleted l k ∷ p) q at f g =
    let e : at + new_total (Deleted l k ∷ p) ≡ at + new_total p = omega arith in
    (f.0, f.1, follows-join p q at f.2 (subst (λ n. Follows n q) e g))

pub follows-front : (p q : List Change) (at : ℕ) → Follows at (p ++ q) → Follows at p
follows-front [] q at f = tt
follows-front (Unchanged r ∷ p) q at f = (f.0, f.1, follows-front p q r.end f.2)
follows-front (AddedOrReplaced r k ∷ p) q at f = (f.0, f.1, follows-front p q r.end f.2)
follows-front (Deleted l k ∷ p) q at f = (f.0, f.1, follows-front p q at f.2)

pub follows-back : (p q : List Change) (at : ℕ) → Follows at (p ++ q) → Follows (at + new_total p) q
follows-back [] q at f = let e : at ≡ at + 0 = omega arith in subst (λ n. Follows n q) e f
follows-back (Unchanged r ∷ p) q at f =
    let e : r.end + new_total p ≡ at + new_total (Unchanged r ∷ p) = omega (arith, f.0, f.1) in
    subst (λ n. Follows n q) e (follows-back p q r.end f.2)
follows-back (AddedOrReplaced r k ∷ p) q at f =
    let e : r.end + new_total p ≡ at + new_total (AddedOrReplaced r k ∷ p) = omega (arith, f.0, f.1) in
    subst (λ n. Follows n q) e (follows-back p q r.end f.2)
follows-back (Deleted l k ∷ p) q at f =
    let e : at + new_total p ≡ at + new_total (Deleted l k ∷ p) = omega arith in
    subst (λ n. Follows n q) e (follows-back p q at f.2)

-- what a change owes to stand behind these totals
pub record Fits (at : Totals) (c : Change) : Type 0 where
  pub follows : Follows at.new (c ∷ [])
  pub new_fits : at.new + new_lines c ≤ limit
  pub old_fits : at.old + old_lines c ≤ limit

stands-true : (at : Totals) (c : Change) → at.new ≤ limit → stands at c ≡ true → Fits at c
stands-true at (Unchanged r) w h = record { follows = (grind (arith, nat_tests), grind (arith, nat_tests), tt); new_fits = grind (arith, nat_tests); old_fits = grind (arith, nat_tests) }
stands-true at (AddedOrReplaced r k) w h = record { follows = (grind (arith, nat_tests), grind (arith, nat_tests), tt); new_fits = grind (arith, nat_tests); old_fits = grind (arith, nat_tests) }
stands-true at (Deleted l k) w h = record { follows = (grind (arith, nat_tests), grind (arith, nat_tests), tt); new_fits = omega arith; old_fits = grind (arith, nat_tests) }

stands-fits : (at : Totals) (c : Change) → Fits at c → stands at c ≡ true
stands-fits at (Unchanged r) f = let a = f.follows.0 in let b = f.follows.1 in let n = f.new_fits in let o = f.old_fits in grind (arith, nat_tests)
stands-fits at (AddedOrReplaced r k) f = let a = f.follows.0 in let b = f.follows.1 in let n = f.new_fits in let o = f.old_fits in grind (arith, nat_tests)
stands-fits at (Deleted l k) f = let a = f.follows.0 in let b = f.follows.1 in let o = f.old_fits in grind (arith, nat_tests)

-- one change more
pub valid-push : (p : List Change) (c : Change) → Valid p → Fits (totals p) c → Valid (p ++ c ∷ [])
valid-push p c v f = record {
  follows = follows-join p (c ∷ []) 0 v.follows (subst (λ n. Follows n (c ∷ [])) (omega arith) f.follows);
  new_fits = rw (new-append p (c ∷ [])) (omega (arith, f.new_fits));
  old_fits = rw (old-append p (c ∷ [])) (omega (arith, f.old_fits));
}

pub valid-last : (p : List Change) (c : Change) → Valid (p ++ c ∷ []) → Fits (totals p) c
valid-last p c v = record {
  follows = subst (λ n. Follows n (c ∷ [])) (omega arith) (follows-back p (c ∷ []) 0 v.follows);
  new_fits = omega (arith, v.new_fits, new-append p (c ∷ []));
  old_fits = omega (arith, v.old_fits, old-append p (c ∷ []));
}

totals-push : (p : List Change) (c : Change) → totals (p ++ c ∷ []) ≡ grown (totals p) c
totals-push p c = same (rw (new-append p (c ∷ [])) (omega arith)) (rw (old-append p (c ∷ [])) (omega arith))
  where
    same : {a b x y : ℕ} → a ≡ x → b ≡ y → ◌≡◌ {A = Totals} (record { new = a; old = b }) (record { new = x; old = y })
    same e f = cc

judge : (p cs : List Change) → Valid p → Judged (p ++ cs) (check_from (length p) (totals p) cs)
judge p [] v = rw append-nil (v, refl, refl)
judge p (c ∷ cs) v =
    elim (cases_Bool (stands (totals p) c)) [
      | inl h ↦
          let f = stands-true (totals p) c v.new_fits h in
          let r = judge (p ++ c ∷ []) cs (valid-push p c v f) in
          rw h (rw (append_assoc p (c ∷ []) cs, length_push p c, totals-push p c) at r)
      | inr h ↦
          let more : take (length p + 1) (p ++ c ∷ cs) ≡ p ++ c ∷ [] = rw (← append_assoc p (c ∷ []) cs) (take_at (p ++ c ∷ []) cs (length p + 1) (length_push p c)) in
          rw h (
            simp length-append (omega arith),
            rw (take_at p (c ∷ cs) (length p) refl) v,
            λ w. let f = valid-last p c (rw more at w) in both_ways (stands (totals p) c) h (stands-fits (totals p) c f),
          )
    ]

pub judged : (cs : List Change) → Judged cs (checked cs)
judged cs = judge [] cs (record { follows = tt; new_fits = omega arith; old_fits = omega arith })

pub valid-of : (cs : List Change) (t : Totals) → checked cs ≡ Ok t → Valid cs
valid-of cs t e = (subst (Judged cs) e (judged cs)).0

-- the check at a change that may not stand, and at one that may
pub check-stops : (i : ℕ) (at : Totals) (c : Change) (cs : List Change) → step_of at c ≡ None → check_from i at (c ∷ cs) ≡ Err (record { position = i })
check-stops i at c cs h =
    elim (cases_Bool (stands at c)) [
      | inl e ↦ let z : Some (grown at c) ≡ None = rw e at h in let n : ◌≡◌ {A = ℕ} 0 1 = cc in absurd (omega arith)
      | inr e ↦ rw e
    ]
