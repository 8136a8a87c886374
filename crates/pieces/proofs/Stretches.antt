-- Lines with no cut between them are kept side by side, or none of them is kept.
use Rattle.std.proofs.Common.{◌≡◌, ℕ, zero, suc, ◌+◌, ◌-◌, ◌<◌, ◌≤◌, true, false, ltb, List, [], ◌∷◌, Some, None, Option, sym, refl, ap, ◌∙◌, subst, inl, inr, arith}
use Rattle.std.specs.List.{AllByRecursion}
use Rattle.std.proofs.lemmas.Bool.{cases_lt, lt-ltb, le-ltb}
use Rattle.change.specs.declared.change.Change.{Change}
use Rattle.change.specs.declared.change.Change.TheVariants.{Unchanged, AddedOrReplaced, Deleted}
use Rattle.change.specs.Lists.{lines, new_total, Follows}
use Rattle.change.specs.Places.{kept, walk}
use Rattle.change.proofs.Walks.{walk-finds}
use Rattle.pieces.specs.Pieces.{cuts}
use Rattle.pieces.proofs.Splits.{ahead}

-- none of the cuts is at n
abbrev pub Not-at : ℕ → List ℕ → Type 0
Not-at n ks = AllByRecursion (λ k. k ≡ n → ⊥) ks

-- a list that begins with no cut keeps its first line
begins : (cs : List Change) (at a d : ℕ) → Follows at cs → 0 < new_total cs → Not-at at (cuts cs) → walk a d cs at ≡ Some (at - a + d)
begins [] at a d f l u = absurd (omega arith)
begins (Unchanged r ∷ cs) at a d f l u = let e : ltb at r.end ≡ true = lt-ltb _ _ f.1 in rw e
begins (AddedOrReplaced r k ∷ cs) at a d f l u = absurd (u.0 f.0)
begins (Deleted m k ∷ cs) at a d f l u = absurd (u.0 f.0)

-- from a line to the next
walk-next : (cs : List Change) (at a d n : ℕ) → Follows at cs → at ≤ n → a ≤ at → n + 1 < at + new_total cs → Not-at (n + 1) (cuts cs)
    → walk a d cs (n + 1) ≡ ahead 1 (walk a d cs n)
walk-next [] at a d n f h k l u = refl
walk-next (Unchanged r ∷ cs) at a d n f h k l u =
    elim (cases_lt (n + 1) r.end) [
      | inl m ↦
          let e : ltb (n + 1) r.end ≡ true = lt-ltb _ _ m in
          let g : ltb n r.end ≡ true = lt-ltb _ _ (omega arith) in
          rw (e, g) (ap Some (omega arith))
      | inr m ↦
          let e : ltb (n + 1) r.end ≡ false = le-ltb _ _ m in
          elim (cases_lt n r.end) [
            | inl i ↦
                let g : ltb n r.end ≡ true = lt-ltb _ _ i in
                let x : r.end ≡ n + 1 = omega arith in
                let b = begins cs r.end a d f.2 (omega (arith, f.0)) (subst (λ j. Not-at j (cuts cs)) (sym x) u) in
                rw (e, g) (ap (walk a d cs) (sym x) ∙ b ∙ ap Some (omega arith))
            | inr i ↦
                let g : ltb n r.end ≡ false = le-ltb _ _ i in
                rw (e, g) (walk-next cs r.end a d n f.2 i (omega (arith, f.1)) (omega (arith, f.0)) u)
          ]
    ]
walk-next (AddedOrReplaced r c ∷ cs) at a d n f h k l u =
    elim (cases_lt n r.end) [
      | inl i ↦
          let o = u.1.0 in
          let e : ltb (n + 1) r.end ≡ true = lt-ltb _ _ (omega arith) in
          let g : ltb n r.end ≡ true = lt-ltb _ _ i in
          rw (e, g)
      | inr i ↦
          let e : ltb (n + 1) r.end ≡ false = le-ltb _ _ (omega arith) in
          let g : ltb n r.end ≡ false = le-ltb _ _ i in
          rw (e, g) (walk-next cs r.end (a + lines r) (d + c) n f.2 i (omega (arith, f.0, f.1)) (omega (arith, f.0)) u.1.1)
    ]
walk-next (Deleted m c ∷ cs) at a d n f h k l u = walk-next cs at a (d + c) n f.2 h k (omega arith) u.1

pub kept_next : (cs : List Change) (n : ℕ) → Follows 0 cs → n + 1 < new_total cs → Not-at (n + 1) (cuts cs) → kept cs (n + 1) ≡ ahead 1 (kept cs n)
kept_next cs n f l u =
    sym (walk-finds cs (n + 1) f) ∙ walk-next cs 0 0 0 n f (omega arith) (omega arith) (omega arith) u ∙ ap (ahead 1) (walk-finds cs n f)

-- steps side by side are one step
ahead_none : (o : Option ℕ) → ahead 0 o ≡ o
ahead_none None = refl
ahead_none (Some x) = ap Some (omega arith)

pub ahead-ahead : (i j k : ℕ) (o : Option ℕ) → i + j ≡ k → ahead j (ahead i o) ≡ ahead k o
ahead-ahead i j k None e = refl
ahead-ahead i j k (Some x) e = ap Some (omega arith)

-- the line i of a stretch that begins at x, is inside the file and has no cut behind its first line
pub kept-along : (cs : List Change) (x size : ℕ) → Follows 0 cs → x + size ≤ new_total cs → ((n : ℕ) → x < n → n < x + size → Not-at n (cuts cs))
    → (i : ℕ) → i < size → kept cs (x + i) ≡ ahead i (kept cs x)
kept-along cs x size f l u zero h = let e : x + 0 ≡ x = omega arith in ap (kept cs) e ∙ sym (ahead_none (kept cs x))
kept-along cs x size f l u (suc i) h =
    let e : x + suc i ≡ x + i + 1 = omega arith in
    ap (kept cs) e ∙ kept_next cs (x + i) f (omega arith) (u (x + i + 1) (omega arith) (omega arith))
    ∙ ap (ahead 1) (kept-along cs x size f l u i (omega arith)) ∙ ahead-ahead i 1 (suc i) (kept cs x) (omega arith)
