-- The lines counted change by change are those counted line by line.
use Rattle.std.proofs.Common.{◌≡◌, ℕ, zero, suc, ◌+◌, ◌-◌, ◌<◌, ◌≤◌, true, false, ltb, List, [], ◌∷◌, length, get_or, drop, is_some, Option, sym, refl, ap, ◌∙◌, subst, inl, inr, arith}
use Rattle.std.proofs.lemmas.Bool.{cases_lt, lt-ltb, le-ltb}
use Rattle.change.specs.declared.span.Span.{Span}
use Rattle.change.specs.declared.change.Change.{Change}
use Rattle.change.specs.declared.change.Change.TheVariants.{Unchanged, AddedOrReplaced, Deleted}
use Rattle.change.specs.Lists.{limit, lines, new_total, Follows}
use Rattle.change.specs.Places.{kept, walk}
use Rattle.change.proofs.Walks.{walk-finds, blank, here}
use Rattle.runs.specs.declared.count.LineCount.{LineCount}
use Rattle.runs.specs.Counts.{kept_to, set_to, count_of}

-- the lines of unchanged ranges, and of the others
abbrev pub kept_lines : List Change → ℕ
kept_lines [] = 0
kept_lines (Unchanged r ∷ cs) = lines r + kept_lines cs
kept_lines (AddedOrReplaced r k ∷ cs) = kept_lines cs
kept_lines (Deleted l k ∷ cs) = kept_lines cs

abbrev pub set_lines : List Change → ℕ
set_lines [] = 0
set_lines (Unchanged r ∷ cs) = set_lines cs
set_lines (AddedOrReplaced r k ∷ cs) = lines r + set_lines cs
set_lines (Deleted l k ∷ cs) = set_lines cs

pub all_lines : (cs : List Change) → kept_lines cs + set_lines cs ≡ new_total cs
all_lines [] = refl
all_lines (Unchanged r ∷ cs) = omega (arith, all_lines cs)
all_lines (AddedOrReplaced r k ∷ cs) = omega (arith, all_lines cs)
all_lines (Deleted l k ∷ cs) = omega (arith, all_lines cs)

-- lines of one origin from n up to m
kept-range : (f : ℕ → Option ℕ) (n m : ℕ) → n ≤ m → ((i : ℕ) → n ≤ i → i < m → is_some (f i) ≡ true)
    → (kept_to f m ≡ m - n + kept_to f n) × (set_to f m ≡ set_to f n)
kept-range f n zero h s = let e : n ≡ 0 = omega arith in rw e (omega arith, refl)
kept-range f n (suc m) h s =
    elim (cases_lt m n) [
      | inl l ↦ let e : n ≡ suc m = omega arith in rw e (omega arith, refl)
      | inr l ↦
          let r = kept-range f n m l (λ i a b. s i a (omega arith)) in
          let t = s m l (omega arith) in
          rw t (omega (arith, r.0), omega (arith, r.1))
    ]

set-range : (f : ℕ → Option ℕ) (n m : ℕ) → n ≤ m → ((i : ℕ) → n ≤ i → i < m → is_some (f i) ≡ false)
    → (kept_to f m ≡ kept_to f n) × (set_to f m ≡ m - n + set_to f n)
set-range f n zero h s = let e : n ≡ 0 = omega arith in rw e (refl, omega arith)
set-range f n (suc m) h s =
    elim (cases_lt m n) [
      | inl l ↦ let e : n ≡ suc m = omega arith in rw e (refl, omega arith)
      | inr l ↦
          let r = set-range f n m l (λ i a b. s i a (omega arith)) in
          let t = s m l (omega arith) in
          rw t (omega (arith, r.0), omega (arith, r.1))
    ]

along : (f : ℕ → Option ℕ) (cs : List Change) (at a d : ℕ) → Follows at cs → ((n : ℕ) → at ≤ n → f n ≡ walk a d cs n)
    → (kept_to f (at + new_total cs) ≡ kept_to f at + kept_lines cs) × (set_to f (at + new_total cs) ≡ set_to f at + set_lines cs)
along f [] at a d w s = let e : at + 0 ≡ at = omega arith in rw e (omega arith, omega arith)
along f (Unchanged r ∷ cs) at a d w s =
    let inside : (i : ℕ) → at ≤ i → i < r.end → is_some (f i) ≡ true =
    λ i l u. let t : ltb i r.end ≡ true = lt-ltb _ _ u in ap is_some (s i l) ∙ (rw t) in
    let behind : (n : ℕ) → r.end ≤ n → f n ≡ walk a d cs n =
    λ n l. let t : ltb n r.end ≡ false = le-ltb _ _ l in s n (omega (arith, w.1)) ∙ (rw t) in
    let z = along f cs r.end a d w.2 behind in
    let k = kept-range f at r.end (omega (arith, w.1)) inside in
    let e : at + new_total (Unchanged r ∷ cs) ≡ r.end + new_total cs = omega (arith, w.0, w.1) in
    rw e (omega (arith, z.0, k.0, w.0, w.1), omega (arith, z.1, k.1))
along f (AddedOrReplaced r c ∷ cs) at a d w s =
    let inside : (i : ℕ) → at ≤ i → i < r.end → is_some (f i) ≡ false =
    λ i l u. let t : ltb i r.end ≡ true = lt-ltb _ _ u in ap is_some (s i l) ∙ (rw t) in
    let behind : (n : ℕ) → r.end ≤ n → f n ≡ walk (a + lines r) (d + c) cs n =
    λ n l. let t : ltb n r.end ≡ false = le-ltb _ _ l in s n (omega (arith, w.1)) ∙ (rw t) in
    let z = along f cs r.end (a + lines r) (d + c) w.2 behind in
    let k = set-range f at r.end (omega (arith, w.1)) inside in
    let e : at + new_total (AddedOrReplaced r c ∷ cs) ≡ r.end + new_total cs = omega (arith, w.0, w.1) in
    rw e (omega (arith, z.0, k.0), omega (arith, z.1, k.1, w.0, w.1))
along f (Deleted l k ∷ cs) at a d w s =
    let z = along f cs at a (d + k) w.2 s in
    let e : at + new_total (Deleted l k ∷ cs) ≡ at + new_total cs = omega arith in
    rw e (z.0, z.1)

pub counts : (cs : List Change) → Follows 0 cs → (kept_lines cs ≡ kept_to (kept cs) (new_total cs)) × (set_lines cs ≡ set_to (kept cs) (new_total cs))
counts cs w =
    let z = along (kept cs) cs 0 0 0 w (λ n _. sym (walk-finds cs n w)) in
    let e : 0 + new_total cs ≡ new_total cs = omega arith in
    (omega (arith, rw e at z.0), omega (arith, rw e at z.1))

-- on the way along a list: what is counted, with what is left, is the whole
pub record Counted (whole cs : List Change) (n : LineCount) : Type 0 where
  pub keeps : n.kept + kept_lines cs ≡ kept_lines whole
  pub sets : n.set + set_lines cs ≡ set_lines whole
  pub fits : new_total whole ≤ limit

pub counted-here : (whole : List Change) (i : ℕ) (x : Change) (n : LineCount) → i < length whole → get_or whole i blank ≡ x
    → Counted whole (drop i whole) n → Counted whole (x ∷ drop (i + 1) whole) n
counted-here whole i x n h e w = subst (λ l. Counted whole l n) (here whole i x h e) w

pub count_fits : (whole cs : List Change) (n : LineCount) → Counted whole cs n → n.kept + kept_lines cs + (n.set + set_lines cs) ≤ limit
count_fits whole cs n w = omega (arith, all_lines whole, w.keeps, w.sets, w.fits)

-- one change on: these are the counts behind it
pub counted-unchanged : (whole : List Change) (r : Span) (cs : List Change) (n : LineCount) → Counted whole (Unchanged r ∷ cs) n
    → Counted whole cs (record { set = n.set; kept = n.kept + lines r })
counted-unchanged whole r cs n w = record { keeps = omega (arith, w.keeps); sets = w.sets; fits = w.fits }

pub counted-added : (whole : List Change) (r : Span) (k : ℕ) (cs : List Change) (n : LineCount) → Counted whole (AddedOrReplaced r k ∷ cs) n
    → Counted whole cs (record { set = n.set + lines r; kept = n.kept })
counted-added whole r k cs n w = record { keeps = w.keeps; sets = omega (arith, w.sets); fits = w.fits }

pub counted-deleted : (whole : List Change) (l k : ℕ) (cs : List Change) (n : LineCount) → Counted whole (Deleted l k ∷ cs) n → Counted whole cs n
counted-deleted whole l k cs n w = record { keeps = w.keeps; sets = w.sets; fits = w.fits }

pub counted-all : (whole : List Change) (n : LineCount) → Follows 0 whole → Counted whole [] n → n ≡ count_of whole
counted-all whole n f w =
    let z = counts whole f in
    let a : n.kept ≡ kept_to (kept whole) (new_total whole) = omega (arith, w.keeps, z.0) in
    let b : n.set ≡ set_to (kept whole) (new_total whole) = omega (arith, w.sets, z.1) in
    same b a
  where
    same : {x y u v : ℕ} → x ≡ u → y ≡ v → ◌≡◌ {A = LineCount} (record { set = x; kept = y }) (record { set = u; kept = v })
    same e g = cc
