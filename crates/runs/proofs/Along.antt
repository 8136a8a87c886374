-- The runs along a valid list, change by change, are those of its lines.
use Rattle.std.proofs.Common.{◌≡◌, ℕ, zero, suc, ◌+◌, ◌-◌, ◌<◌, ◌≤◌, true, false, ltb, List, [], ◌∷◌, length, get_or, drop, Some, None, Option, sym, refl, ap, ◌∙◌, subst, inl, inr, arith}
use Rattle.std.proofs.lemmas.Bool.{cases_Bool, cases_lt, lt-ltb, le-ltb, eq-eqb, eqb-true, both_ways}
use Rattle.std.specs.Option.{option_map}
use Rattle.change.specs.declared.span.Span.{Span}
use Rattle.change.specs.declared.change.Change.{Change}
use Rattle.change.specs.declared.change.Change.TheVariants.{Unchanged, AddedOrReplaced, Deleted}
use Rattle.change.specs.Lists.{limit, lines, old_lines, new_total, old_total, Follows, Valid}
use Rattle.change.specs.Places.{kept, walk}
use Rattle.change.proofs.Walks.{walk-finds, blank, here}
use Rattle.runs.specs.Rows.{Run, follows, goes_on, grow, runs_to}
use Rattle.runs.specs.Steps.{put, Meets, range_of, stretch_of}
use Rattle.runs.proofs.Puts.{put_any, put_meets, no-some}

-- the place k lines on
abbrev pub step : ℕ → Option ℕ → Option ℕ
step k p = option_map (λ q. q + k) p

pub step-none : (k : ℕ) (p : Option ℕ) → k ≡ 0 → step k p ≡ p
step-none k None e = refl
step-none k (Some q) e = ap Some (omega arith)

-- a run from n on, of a line or more up to m
abbrev run : ℕ → ℕ → Option ℕ → Run
run n m p = record { start = n; end = m; place = p }

follows-step : (k : ℕ) (p : Option ℕ) → follows p k (step k p) ≡ true
follows-step k None = refl
follows-step k (Some q) = eq-eqb _ _ refl

-- what follows k lines at p follows the lines before them too, if p does
follows-more : (q p : Option ℕ) (j k : ℕ) → follows q j p ≡ true → follows q (j + k) (step k p) ≡ true
follows-more None None j k h = refl
follows-more None (Some p) j k h = absurd (both_ways false refl h)
follows-more (Some q) None j k h = absurd (both_ways false refl h)
follows-more (Some q) (Some p) j k h = eq-eqb _ _ (omega (arith, eqb-true _ _ h))

-- the last run, if there is one, ends at n and has a line or more
abbrev Ends : ℕ → List Run → Type 0
Ends n [] = Unit {0}
Ends n (r ∷ rs) = (r.end ≡ n) × (r.start < n)

runs-end : (f : ℕ → Option ℕ) (n : ℕ) → Ends n (runs_to f n)
runs-end f zero = tt
runs-end f (suc n) = grow-ends (f n) (runs_to f n) (runs-end f n)
  where
    grow-ends : (p : Option ℕ) (rs : List Run) → Ends n rs → Ends (suc n) (grow n p rs)
    grow-ends p [] e = (refl, omega arith)
    grow-ends p (r ∷ rs) e =
        elim (cases_Bool (goes_on r p)) [
          | inl g ↦ rw g (refl, omega (arith, e.1))
          | inr g ↦ rw g (refl, omega arith)
        ]

-- one line more behind the run from n up to m
grow-put : (n m : ℕ) (p : Option ℕ) (rs : List Run) → n < m → Ends n rs → grow m (step (m - n) p) (put (run n m p) rs) ≡ put (run n (suc m) p) rs
grow-put n m p [] h e = rw (follows-step (m - n) p)
grow-put n m p (l ∷ ls) h e =
    elim (cases_Bool (goes_on l p)) [
      | inl g ↦
          let k : l.end - l.start + (m - n) ≡ m - l.start = omega (arith, e.0, e.1) in
          let s : follows l.place (m - l.start) (step (m - n) p) ≡ true =
          subst (λ x. follows l.place x (step (m - n) p) ≡ true) k (follows-more l.place p _ _ g) in
          rw (g, s)
      | inr g ↦ rw (g, follows-step (m - n) p)
    ]

grow-one : (n : ℕ) (p : Option ℕ) (rs : List Run) → grow n p rs ≡ put (run n (suc n) p) rs
grow-one n p [] = refl
grow-one n p (l ∷ ls) = refl

-- lines of one origin from n up to m are one run behind those of the lines before n
pub more : (f : ℕ → Option ℕ) (n m : ℕ) (p : Option ℕ) → n < m → ((i : ℕ) → n ≤ i → i < m → f i ≡ step (i - n) p)
    → runs_to f m ≡ put (run n m p) (runs_to f n)
more f n zero p h s = absurd (omega arith)
more f n (suc m) p h s =
    elim (cases_lt n m) [
      | inl l ↦
          ap (grow m (f m)) (more f n m p l (λ i a b. s i a (omega arith)))
          ∙ ap (λ x. grow m x (put (run n m p) (runs_to f n))) (s m (omega arith) (omega arith))
          ∙ grow-put n m p (runs_to f n) l (runs-end f n)
      | inr l ↦
          let e : n ≡ m = omega arith in
          let fm : f m ≡ p = s m (omega arith) (omega arith) ∙ step-none (m - n) p (omega arith) in
          subst (λ x. grow m (f m) (runs_to f m) ≡ put (run x (suc m) p) (runs_to f x)) (sym e)
          (ap (λ x. grow m x (runs_to f m)) fm ∙ grow-one m p (runs_to f m))
    ]

-- the runs along a list, change by change
abbrev pub along : ℕ → List Change → List Run → List Run
along old [] rs = rs
along old (c ∷ cs) rs = along (old + old_lines c) cs (put_any (stretch_of old c) rs)

range_runs : (f : ℕ → Option ℕ) (r : Span) (at : ℕ) (p : Option ℕ) → r.start ≡ at → at < r.end
    → ((i : ℕ) → at ≤ i → i < r.end → f i ≡ step (i - at) p) → put_any (range_of r p) (runs_to f at) ≡ runs_to f r.end
range_runs f r at p e h s =
    let t : ltb r.start r.end ≡ true = lt-ltb _ _ (omega arith) in
    rw t (subst (λ x. put (run x r.end p) (runs_to f at) ≡ runs_to f r.end) (sym e) (sym (more f at r.end p h s)))

along-runs : (f : ℕ → Option ℕ) (cs : List Change) (at a d : ℕ) → Follows at cs → a ≤ at → ((n : ℕ) → at ≤ n → f n ≡ walk a d cs n)
    → along (at - a + d) cs (runs_to f at) ≡ runs_to f (at + new_total cs)
along-runs f [] at a d w h s = let e : at ≡ at + 0 = omega arith in ap (runs_to f) e
along-runs f (Unchanged r ∷ cs) at a d w h s =
    let old = at - a + d in
    let inside : (i : ℕ) → at ≤ i → i < r.end → f i ≡ step (i - at) (Some old) =
    λ i l u. let t : ltb i r.end ≡ true = lt-ltb _ _ u in let q : i - a + d ≡ old + (i - at) = omega arith in s i l ∙ rw t (ap Some q) in
    let behind : (n : ℕ) → r.end ≤ n → f n ≡ walk a d cs n =
    λ n l. let t : ltb n r.end ≡ false = le-ltb _ _ l in s n (omega (arith, w.1)) ∙ rw t refl in
    let eo : old + lines r ≡ r.end - a + d = omega (arith, w.0, w.1) in
    let et : r.end + new_total cs ≡ at + (lines r + new_total cs) = omega (arith, w.0, w.1) in
    ap (along (old + lines r) cs) (range_runs f r at (Some old) w.0 w.1 inside)
    ∙ ap (λ o. along o cs (runs_to f r.end)) eo
    ∙ along-runs f cs r.end a d w.2 (omega (arith, w.1)) behind
    ∙ ap (runs_to f) et
along-runs f (AddedOrReplaced r k ∷ cs) at a d w h s =
    let old = at - a + d in
    let inside : (i : ℕ) → at ≤ i → i < r.end → f i ≡ step (i - at) None =
    λ i l u. let t : ltb i r.end ≡ true = lt-ltb _ _ u in s i l ∙ rw t refl in
    let behind : (n : ℕ) → r.end ≤ n → f n ≡ walk (a + lines r) (d + k) cs n =
    λ n l. let t : ltb n r.end ≡ false = le-ltb _ _ l in s n (omega (arith, w.1)) ∙ rw t refl in
    let eo : old + k ≡ r.end - (a + lines r) + (d + k) = omega (arith, w.0, w.1) in
    let et : r.end + new_total cs ≡ at + (lines r + new_total cs) = omega (arith, w.0, w.1) in
    ap (along (old + k) cs) (range_runs f r at None w.0 w.1 inside)
    ∙ ap (λ o. along o cs (runs_to f r.end)) eo
    ∙ along-runs f cs r.end (a + lines r) (d + k) w.2 (omega (arith, w.0, w.1)) behind
    ∙ ap (runs_to f) et
along-runs f (Deleted l k ∷ cs) at a d w h s =
    let eo : at - a + d + k ≡ at - a + (d + k) = omega arith in
    let et : at + new_total cs ≡ at + (0 + new_total cs) = omega arith in
    ap (λ o. along o cs (runs_to f at)) eo ∙ along-runs f cs at a (d + k) w.2 h s ∙ ap (runs_to f) et

pub along-is : (cs : List Change) → Follows 0 cs → along 0 cs [] ≡ runs_to (kept cs) (new_total cs)
along-is cs w =
    let e : 0 + new_total cs ≡ new_total cs = omega arith in
    along-runs (kept cs) cs 0 0 0 w (omega arith) (λ n _. sym (walk-finds cs n w)) ∙ ap (runs_to (kept cs)) e

-- what holds on the way: the line reached, where the last run ends, and what fits
pub record Going (cs : List Change) (rs : List Run) (old : ℕ) : Type 0 where
  pub at : ℕ
  pub follows : Follows at cs
  pub meets : Meets at rs
  pub fits : old + old_total cs ≤ limit

pub going : (cs : List Change) → Valid cs → Going cs [] 0
going cs v = record { at = 0; follows = v.follows; meets = tt; fits = omega (arith, v.old_fits) }

range-meets : (r : Span) (p : Option ℕ) (rs : List Run) → r.start < r.end → Meets r.end (put_any (range_of r p) rs)
range-meets r p rs h =
    let t : ltb r.start r.end ≡ true = lt-ltb _ _ h in
    rw t (put_meets (run r.start r.end p) rs)

pub go_on : (c : Change) (cs : List Change) (rs : List Run) (old : ℕ) → Going (c ∷ cs) rs old → Going cs (put_any (stretch_of old c) rs) (old + old_lines c)
go_on (Unchanged r) cs rs old g = record {
  at = r.end;
  follows = g.follows.2;
  meets = range-meets r (Some old) rs (omega (arith, g.follows.0, g.follows.1));
  fits = omega (arith, g.fits);
}
go_on (AddedOrReplaced r k) cs rs old g = record {
  at = r.end;
  follows = g.follows.2;
  meets = range-meets r None rs (omega (arith, g.follows.0, g.follows.1));
  fits = omega (arith, g.fits);
}
go_on (Deleted l k) cs rs old g = record { at = g.at; follows = g.follows.2; meets = g.meets; fits = omega (arith, g.fits) }

-- the run of the change at hand begins where the last run ends
range-begins : (r : Span) (p : Option ℕ) (x : Run) → r.start < r.end → Some x ≡ range_of r p → x.start ≡ r.start
range-begins r p x h e =
    let t : ltb r.start r.end ≡ true = lt-ltb _ _ h in
    let s : Some x ≡ Some (run r.start r.end p) = rw t at e in
    let z : x ≡ run r.start r.end p = cc in
    ap (λ y. y.start) z

pub stretch-meets : (c : Change) (cs : List Change) (rs : List Run) (old : ℕ) (x : Run) → Going (c ∷ cs) rs old → Some x ≡ stretch_of old c → Meets x.start rs
stretch-meets (Unchanged r) cs rs old x g e =
    subst (λ n. Meets n rs) (sym g.follows.0 ∙ sym (range-begins r (Some old) x (omega (arith, g.follows.0, g.follows.1)) e)) g.meets
stretch-meets (AddedOrReplaced r k) cs rs old x g e =
    subst (λ n. Meets n rs) (sym g.follows.0 ∙ sym (range-begins r None x (omega (arith, g.follows.0, g.follows.1)) e)) g.meets
stretch-meets (Deleted l k) cs rs old x g e = absurd (no-some (sym e))

-- the loop: what is left of the list, put behind the runs so far, gives the runs of the whole
pub record Walked (whole cs : List Change) (rs : List Run) (old : ℕ) : Type 0 where
  pub same : along old cs rs ≡ along 0 whole []
  pub goes : Going cs rs old

pub walk_here : (whole : List Change) (i : ℕ) (x : Change) (rs : List Run) (old : ℕ) → i < length whole → get_or whole i blank ≡ x
    → Walked whole (drop i whole) rs old → Walked whole (x ∷ drop (i + 1) whole) rs old
walk_here whole i x rs old h e w = subst (λ l. Walked whole l rs old) (here whole i x h e) w

pub walk-on : (whole : List Change) (c : Change) (cs : List Change) (rs rs' : List Run) (old : ℕ) → rs' ≡ put_any (stretch_of old c) rs
    → Walked whole (c ∷ cs) rs old → Walked whole cs rs' (old + old_lines c)
walk-on whole c cs rs rs' old e w =
    subst (λ l. Walked whole cs l (old + old_lines c)) (sym e) (record { same = w.same; goes = go_on c cs rs old w.goes })
