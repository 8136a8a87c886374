-- The walk along a valid list finds the place of each line that is kept; places rise with the lines, below the old total.
use Rattle.std.proofs.Common.{◌≡◌, ℕ, ◌+◌, ◌-◌, ◌<◌, ◌≤◌, Bool, true, false, cond, ltb, leb, List, [], ◌∷◌, length, get_or, drop, Some, None, Option, sym, refl, ap, ◌∙◌, subst, inl, inr, arith}
use Rattle.std.proofs.lemmas.List.{drop_more}
use Rattle.std.proofs.lemmas.Bool.{cases_lt, lt-ltb, le-ltb, le-leb, lt-leb}
use Rattle.change.specs.declared.span.Span.{Span}
use Rattle.change.specs.declared.change.Change.{Change}
use Rattle.change.specs.declared.change.Change.TheVariants.{Unchanged, AddedOrReplaced, Deleted}
use Rattle.change.specs.Lists.{limit, lines, new_total, old_total, Follows, Valid}
use Rattle.change.specs.Places.{added, deleted, unchanged, kept, walk, Placed}

-- a list that goes on from past n says nothing of n
past : (cs : List Change) (at n : ℕ) → Follows at cs → n < at → (added cs n ≡ 0) × (deleted cs n ≡ 0) × (unchanged cs n ≡ false)
past [] at n f h = (refl, refl, refl)
past (Unchanged r ∷ cs) at n f h =
    let z = past cs r.end n f.2 (omega arith) in
    let e : leb r.start n ≡ false = lt-leb _ _ (omega (arith, f.0)) in
    (z.0, z.1, rw e z.2)
past (AddedOrReplaced r k ∷ cs) at n f h =
    let z = past cs r.end n f.2 (omega arith) in
    let e : leb r.end n ≡ false = lt-leb _ _ (omega arith) in
    (rw e (omega (arith, z.0)), rw e (omega (arith, z.1)), z.2)
past (Deleted l k ∷ cs) at n f h =
    let z = past cs at n f.2 h in
    let e : leb l n ≡ false = lt-leb _ _ (omega (arith, f.0)) in
    (z.0, rw e (omega (arith, z.1)), z.2)

same_place : (b : Bool) (x y : ℕ) → x ≡ y → cond b (Some x) None ≡ cond b (Some y) None
same_place b x y e = ap (λ z. cond b (Some z) None) e

-- the walk on from the line `at`, a lines having been added and d deleted before it
walk_is : (cs : List Change) (at a d n : ℕ) → Follows at cs → at ≤ n
    → walk a d cs n ≡ cond (unchanged cs n) (Some (n - (a + added cs n) + (d + deleted cs n))) None
walk_is [] at a d n f h = refl
walk_is (Unchanged r ∷ cs) at a d n f h =
    elim (cases_lt n r.end) [
      | inl l ↦
          let p = past cs r.end n f.2 l in
          let e : ltb n r.end ≡ true = lt-ltb _ _ l in
          let g : leb r.start n ≡ true = le-leb _ _ (omega (arith, f.0)) in
          rw (e, g, p.0, p.1) (ap Some (omega arith))
      | inr l ↦
          let e : ltb n r.end ≡ false = le-ltb _ _ l in
          let g : leb r.start n ≡ true = le-leb _ _ (omega (arith, f.0)) in
          rw (e, g) (walk_is cs r.end a d n f.2 l)
    ]
walk_is (AddedOrReplaced r k ∷ cs) at a d n f h =
    elim (cases_lt n r.end) [
      | inl l ↦
          let p = past cs r.end n f.2 l in
          let e : ltb n r.end ≡ true = lt-ltb _ _ l in
          rw (e, p.2)
      | inr l ↦
          let e : ltb n r.end ≡ false = le-ltb _ _ l in
          let g : leb r.end n ≡ true = le-leb _ _ l in
          rw (e, g) (walk_is cs r.end (a + lines r) (d + k) n f.2 l ∙ same_place (unchanged cs n) _ _ (omega arith))
    ]
walk_is (Deleted l k ∷ cs) at a d n f h =
    let g : leb l n ≡ true = le-leb _ _ (omega (arith, f.0)) in
    rw g (walk_is cs at a (d + k) n f.2 h ∙ same_place (unchanged cs n) _ _ (omega arith))

pub walk-finds : (cs : List Change) (n : ℕ) → Follows 0 cs → walk 0 0 cs n ≡ kept cs n
walk-finds cs n f = walk_is cs 0 0 0 n f (omega arith) ∙ same_place (unchanged cs n) _ _ (omega arith)

-- a line that the walk finds, its place between the totals so far and the totals in all
pub record Found (cs : List Change) (at a d n m : ℕ) : Type 0 where
  pub inside : n < at + new_total cs
  pub low : at - a + d ≤ m
  pub high : m < at - a + d + old_total cs

none-some : {m : ℕ} → None ≡ Some m → ⊥
none-some e = let z : ◌≡◌ {A = ℕ} 0 1 = cc in omega arith

walk-found : (cs : List Change) (at a d n m : ℕ) → Follows at cs → at ≤ n → a ≤ at → walk a d cs n ≡ Some m → Found cs at a d n m
walk-found [] at a d n m f h k w = absurd (none-some w)
walk-found (Unchanged r ∷ cs) at a d n m f h k w =
    elim (cases_lt n r.end) [
      | inl l ↦
          let e : ltb n r.end ≡ true = lt-ltb _ _ l in
          let s : Some (n - a + d) ≡ Some m = rw e at w in
          let p : n - a + d ≡ m = cc in
          record { inside = omega (arith, f.0); low = omega arith; high = omega (arith, f.0) }
      | inr l ↦
          let e : ltb n r.end ≡ false = le-ltb _ _ l in
          let z = walk-found cs r.end a d n m f.2 l (omega (arith, f.1)) (rw e at w) in
          record { inside = omega (arith, f.0, f.1, z.inside); low = omega (arith, f.1, z.low); high = omega (arith, f.0, f.1, z.high) }
    ]
walk-found (AddedOrReplaced r c ∷ cs) at a d n m f h k w =
    elim (cases_lt n r.end) [
      | inl l ↦
          let e : ltb n r.end ≡ true = lt-ltb _ _ l in
          absurd (none-some (rw e at w))
      | inr l ↦
          let e : ltb n r.end ≡ false = le-ltb _ _ l in
          let z = walk-found cs r.end (a + lines r) (d + c) n m f.2 l (omega (arith, f.0, f.1)) (rw e at w) in
          record { inside = omega (arith, f.0, f.1, z.inside); low = omega (arith, f.0, f.1, z.low); high = omega (arith, f.0, f.1, z.high) }
    ]
walk-found (Deleted l c ∷ cs) at a d n m f h k w =
    let z = walk-found cs at a (d + c) n m f.2 h k w in
    record { inside = omega (arith, z.inside); low = omega (arith, z.low); high = omega (arith, z.high) }

walk-rises : (cs : List Change) (at a d n n' m m' : ℕ) → Follows at cs → at ≤ n → a ≤ at → n < n'
    → walk a d cs n ≡ Some m → walk a d cs n' ≡ Some m' → m < m'
walk-rises [] at a d n n' m m' f h k l w w' = absurd (none-some w)
walk-rises (Unchanged r ∷ cs) at a d n n' m m' f h k l w w' =
    elim (cases_lt n r.end) [
      | inl s ↦
          let e : ltb n r.end ≡ true = lt-ltb _ _ s in
          let p : n - a + d ≡ m = let q : Some (n - a + d) ≡ Some m = rw e at w in cc in
          elim (cases_lt n' r.end) [
            | inl s' ↦
                let e' : ltb n' r.end ≡ true = lt-ltb _ _ s' in
                let p' : n' - a + d ≡ m' = let q : Some (n' - a + d) ≡ Some m' = rw e' at w' in cc in
                omega arith
            | inr s' ↦
                let e' : ltb n' r.end ≡ false = le-ltb _ _ s' in
                let z = walk-found cs r.end a d n' m' f.2 s' (omega (arith, f.1)) (rw e' at w') in
                omega (arith, z.low)
          ]
      | inr s ↦
          let e : ltb n r.end ≡ false = le-ltb _ _ s in
          let e' : ltb n' r.end ≡ false = le-ltb _ _ (omega arith) in
          walk-rises cs r.end a d n n' m m' f.2 s (omega (arith, f.1)) l (rw e at w) (rw e' at w')
    ]
walk-rises (AddedOrReplaced r c ∷ cs) at a d n n' m m' f h k l w w' =
    elim (cases_lt n r.end) [
      | inl s ↦
          let e : ltb n r.end ≡ true = lt-ltb _ _ s in
          absurd (none-some (rw e at w))
      | inr s ↦
          let e : ltb n r.end ≡ false = le-ltb _ _ s in
          let e' : ltb n' r.end ≡ false = le-ltb _ _ (omega arith) in
          walk-rises cs r.end (a + lines r) (d + c) n n' m m' f.2 s (omega (arith, f.0, f.1)) l (rw e at w) (rw e' at w')
    ]
walk-rises (Deleted x c ∷ cs) at a d n n' m m' f h k l w w' = walk-rises cs at a (d + c) n n' m m' f.2 h k l w w'

pub placed : (cs : List Change) (n : ℕ) → Follows 0 cs → Placed cs n (kept cs n)
placed cs n f =
    let e = walk-finds cs n f in
    record {
      walked = sym e;
      inside = λ m h. let z = walk-found cs 0 0 0 n m f (omega arith) (omega arith) (e ∙ h) in omega (arith, z.inside);
      below = λ m h. let z = walk-found cs 0 0 0 n m f (omega arith) (omega arith) (e ∙ h) in omega (arith, z.high);
      rises = λ m n' m' h l h'. walk-rises cs 0 0 0 n n' m m' f (omega arith) (omega arith) l (e ∙ h) (walk-finds cs n' f ∙ h');
    }

-- what holds on the way along a valid list, where the line n is not passed: the end reached so far, and what fits
pub record Going (cs : List Change) (n a d : ℕ) : Type 0 where
  pub at : ℕ
  pub follows : Follows at cs
  pub reached : at ≤ n
  pub fewer : a ≤ at
  pub new_fits : at + new_total cs ≤ limit
  pub old_fits : d + old_total cs ≤ limit

pub going : (cs : List Change) (n : ℕ) → Valid cs → Going cs n 0 0
going cs n v = record { at = 0; follows = v.follows; reached = omega arith; fewer = omega arith; new_fits = omega (arith, v.new_fits); old_fits = omega (arith, v.old_fits) }

pub go-unchanged : (r : Span) (cs : List Change) (n a d : ℕ) → r.end ≤ n → Going (Unchanged r ∷ cs) n a d → Going cs n a d
go-unchanged r cs n a d h g = record {
  at = r.end;
  follows = g.follows.2;
  reached = h;
  fewer = omega (arith, g.fewer, g.follows.1);
  new_fits = omega (arith, g.new_fits, g.follows.0, g.follows.1);
  old_fits = omega (arith, g.old_fits);
}

pub go-added : (r : Span) (k : ℕ) (cs : List Change) (n a d : ℕ) → r.end ≤ n → Going (AddedOrReplaced r k ∷ cs) n a d → Going cs n (a + lines r) (d + k)
go-added r k cs n a d h g = record {
  at = r.end;
  follows = g.follows.2;
  reached = h;
  fewer = omega (arith, g.fewer, g.follows.0, g.follows.1);
  new_fits = omega (arith, g.new_fits, g.follows.0, g.follows.1);
  old_fits = omega (arith, g.old_fits);
}

pub go-deleted : (l k : ℕ) (cs : List Change) (n a d : ℕ) → Going (Deleted l k ∷ cs) n a d → Going cs n a (d + k)
go-deleted l k cs n a d g = record {
  at = g.at;
  follows = g.follows.2;
  reached = g.reached;
  fewer = g.fewer;
  new_fits = omega (arith, g.new_fits);
  old_fits = omega (arith, g.old_fits);
}

-- the change at hand, in front of those behind it
abbrev pub blank : Change
blank = Unchanged (record { start = 0; end = 0 })

pub here : (cs : List Change) (i : ℕ) (x : Change) → i < length cs → get_or cs i blank ≡ x → drop i cs ≡ x ∷ drop (i + 1) cs
here cs i x h e = drop_more cs i blank h ∙ ap (λ y. y ∷ drop (i + 1) cs) e

pub going-here : (cs : List Change) (i : ℕ) (x : Change) (n a d : ℕ) → i < length cs → get_or cs i blank ≡ x → Going (drop i cs) n a d → Going (x ∷ drop (i + 1) cs) n a d
going-here cs i x n a d h e g = subst (λ l. Going l n a d) (here cs i x h e) g

pub walk_here : (cs : List Change) (i : ℕ) (x : Change) (n a d : ℕ) (p : Option ℕ) → i < length cs → get_or cs i blank ≡ x
    → walk a d (drop i cs) n ≡ p → walk a d (x ∷ drop (i + 1) cs) n ≡ p
walk_here cs i x n a d p h e w = subst (λ l. walk a d l n ≡ p) (here cs i x h e) w
