-- A suspect renamed in its place, and a suspect dropped.
use Rattle.std.proofs.Common.{◌≡◌, ℕ, ◌+◌, ◌<◌, ◌≤◌, Bool, true, false, cond, List, [], ◌∷◌, ◌++◌, map, length, get_or, take, set, filter, sym, refl, ap, ◌∙◌, inl, inr, arith}
use Rattle.std.specs.List.{AllByRecursion}
use Rattle.std.proofs.lemmas.List.{append-nil, length-map, length-take-le, take_more_set}
use Rattle.std.proofs.lemmas.List.Elements.{filter_more}
use Rattle.std.proofs.ByRecursion.{All-map, All-weaker, all_kept_by}
use Rattle.std.proofs.lemmas.Bool.{cases_Bool, cond_both, eqb-true, eqb-false, ne_eqb, both_ways}
use Rattle.change.specs.declared.span.Span.{Span}
use Rattle.hunk.specs.declared.source.Source.{Source}
use Rattle.hunk.specs.declared.suspect.Suspect.{Suspect}
use Rattle.hunk.specs.Hunks.{Named, named, same_source, start_in, has, isnt, rename}
use Rattle.hunk.specs.Rows.{differs}
use Rattle.hunk.specs.Sound.{blank}
use Rattle.hunk.proofs.Owing.{Even, Inside, Other, Distinct, Owed}

-- a suspect that names c is n now
abbrev pub swap : Source → Suspect → Suspect → Suspect
swap c n s = cond (same_source s.source c) n s

one-other : (t u : Bool) (n s o : Suspect) → (t ≡ true → u ≡ true → ⊥) → Other n.source s → Other n.source o → Other s.source o
    → Other (cond t n s).source (cond u n o)
one-other true true n s o never a b d e = never refl refl
one-other true false n s o never a b d e = b e
one-other false true n s o never a b d e = a (sym e)
one-other false false n s o never a b d e = d e

others : (c : Source) (n s : Suspect) (ss : List Suspect) → Other n.source s → AllByRecursion (Other n.source) ss → AllByRecursion (Other s.source) ss
    → AllByRecursion (Other (swap c n s).source) (map (swap c n) ss)
others c n s [] a b d = tt
others c n s (o ∷ os) a b d = (
  one-other (same_source s.source c) (same_source o.source c) n s o
      (λ p q. d.0 (eqb-true o.source.commit c.commit q ∙ sym (eqb-true s.source.commit c.commit p))) a b.0 d.0,
  others c n s os a b.1 d.1,
)

swap-distinct : (c : Source) (n : Suspect) (ss : List Suspect) → AllByRecursion (Other n.source) ss → Distinct ss → Distinct (map (swap c n) ss)
swap-distinct c n [] a d = tt
swap-distinct c n (s ∷ ss) a d = (others c n s ss a.0 a.1 d.0, swap-distinct c n ss a.1 d.1)

swap-all : (P : Suspect → Type 0) (c : Source) (n : Suspect) (ss : List Suspect) → P n → AllByRecursion P ss → AllByRecursion P (map (swap c n) ss)
swap-all P c n ss p a =
    All-map P (swap c n) ss (All-weaker P (λ s. P (swap c n s)) (λ s h. cond_both (same_source s.source c) n s P (λ _. p) (λ _. h)) ss a)

pub swap-owed : (r : Span) (c : Source) (n : Suspect) (ss : List Suspect) → Even r n → Inside n → AllByRecursion (Other n.source) ss → Owed r ss → Owed r (map (swap c n) ss)
swap-owed r c n ss e i a o = record {
  level = swap-all (Even r) c n ss e o.level;
  within = swap-all Inside c n ss i o.within;
  apart = swap-distinct c n ss a o.apart;
}

-- a commit that the hunk does not name
pub unnamed : (c : Source) (ss : List Suspect) → has (start_in c (map named ss)) ≡ false → AllByRecursion (Other c) ss
unnamed c [] h = tt
unnamed c (s ∷ ss) h =
    elim (cases_Bool (same_source s.source c)) [
      | inl e ↦ absurd (both_ways true (rw e at h) refl)
      | inr e ↦ (eqb-false s.source.commit c.commit e, unnamed c ss (rw e at h))
    ]

named-cond : (t : Bool) (a b : Suspect) → named (cond t a b) ≡ cond t (named a) (named b)
named-cond true a b = refl
named-cond false a b = refl

pub named-swaps : (c : Source) (n : Suspect) (ss : List Suspect) → map named (map (swap c n) ss) ≡ map (rename c n.source n.range.start) (map named ss)
named-swaps c n [] = refl
named-swaps c n (s ∷ ss) =
    ap (λ l. named (swap c n s) ∷ l) (named-swaps c n ss)
    ∙ ap (λ x. x ∷ map (rename c n.source n.range.start) (map named ss)) (named-cond (same_source s.source c) n s)

-- the suspects that differ from c
kept-cond : (t : Bool) (s : Suspect) (ss : List Suspect) → map named (cond t (s ∷ ss) ss) ≡ cond t (named s ∷ map named ss) (map named ss)
kept-cond true s ss = refl
kept-cond false s ss = refl

pub named-kept : (c : Source) (ss : List Suspect) → map named (filter (differs c) ss) ≡ filter (isnt c) (map named ss)
named-kept c [] = refl
named-kept c (s ∷ ss) =
    kept-cond (differs c s) s (filter (differs c) ss)
    ∙ ap (λ l. cond (differs c s) (named s ∷ l) l) (named-kept c ss)

kept-distinct : (p : Suspect → Bool) (ss : List Suspect) → Distinct ss → Distinct (filter p ss)
kept-distinct p [] d = tt
kept-distinct p (s ∷ ss) d =
    cond_both (p s) (s ∷ filter p ss) (filter p ss) Distinct
    (λ _. (all_kept_by p (Other s.source) ss d.0, kept-distinct p ss d.1))
    (λ _. kept-distinct p ss d.1)

pub kept-owed : (r : Span) (p : Suspect → Bool) (ss : List Suspect) → Owed r ss → Owed r (filter p ss)
kept-owed r p ss o = record {
  level = all_kept_by p (Even r) ss o.level;
  within = all_kept_by p Inside ss o.within;
  apart = kept-distinct p ss o.apart;
}

-- one more suspect kept, or passed over
pub kept_more : (p : Suspect → Bool) (xs ss : List Suspect) (n i : ℕ) → n < length xs → i < length ss → p (get_or ss i blank) ≡ true
    → take n xs ≡ filter p (take i ss) → take (n + 1) (set xs n (get_or ss i blank)) ≡ filter p (take (i + 1) ss)
kept_more p xs ss n i hn hi t e =
    take_more_set xs n (get_or ss i blank) hn ∙ ap (λ l. l ++ get_or ss i blank ∷ []) e
    ∙ sym (filter_more p ss i blank hi ∙ ap (λ b. filter p (take i ss) ++ cond b (get_or ss i blank ∷ []) []) t)

pub kept_same : (p : Suspect → Bool) (xs ss : List Suspect) (n i : ℕ) → i < length ss → p (get_or ss i blank) ≡ false
    → take n xs ≡ filter p (take i ss) → take n xs ≡ filter p (take (i + 1) ss)
kept_same p xs ss n i hi t e =
    e ∙ sym (filter_more p ss i blank hi ∙ ap (λ b. filter p (take i ss) ++ cond b (get_or ss i blank ∷ []) []) t ∙ append-nil (filter p (take i ss)))

-- how many are kept
pub kept-long : (c : Source) (ss xs : List Suspect) (n : ℕ) → n ≤ length xs → take n xs ≡ filter (differs c) ss
    → length (filter (isnt c) (map named ss)) ≡ n
kept-long c ss xs n h e =
    ap length (sym (named-kept c ss)) ∙ length-map (filter (differs c) ss) named ∙ ap length (sym e) ∙ length-take-le n xs h

-- where p is named, something is left without c
pub some_left : (c p : Source) (ns : List Named) → same_source c p ≡ false → has (start_in p ns) ≡ true → 0 < length (filter (isnt c) ns)
some_left c p [] d h = absurd (both_ways false refl h)
some_left c p (s ∷ ns) d h =
    elim (cases_Bool (same_source s.source c)) [
      | inl e ↦
          let q : same_source s.source p ≡ false = ne_eqb _ _ (λ z. eqb-false c.commit p.commit d (sym (eqb-true s.source.commit c.commit e) ∙ z)) in
          rw e (some_left c p ns d (rw q at h))
      | inr e ↦ rw e (omega arith)
    ]
