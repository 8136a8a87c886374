-- What a hunk's suspects owe, as facts of their list, and back.
use Rattle.std.proofs.Common.{◌≡◌, ℕ, zero, suc, ◌+◌, ◌<◌, ◌≤◌, List, [], ◌∷◌, length, get_or, take, sym, ap, ◌∙◌, subst, arith}
use Rattle.std.specs.List.{AllByRecursion}
use Rattle.std.proofs.lemmas.List.{get_or-take, length-take-le}
use Rattle.std.proofs.ByRecursion.{All-get_or, All-from_get_or}
use Rattle.change.specs.declared.span.Span.{Span}
use Rattle.hunk.specs.declared.source.Source.{Source}
use Rattle.hunk.specs.declared.suspect.Suspect.{Suspect}
use Rattle.hunk.specs.Sound.{blank, Level, Within, Apart}

abbrev pub Even : Span → Suspect → Type 0
Even r s = s.range.start + r.end ≡ s.range.end + r.start

abbrev pub Inside : Suspect → Type 0
Inside s = s.range.end ≤ 16777215

abbrev pub Other : Source → Suspect → Type 0
Other c s = s.source.commit ≡ c.commit → ⊥

abbrev pub Distinct : List Suspect → Type 0
Distinct [] = Unit {0}
Distinct (s ∷ ss) = AllByRecursion (Other s.source) ss × Distinct ss

pub record Owed (r : Span) (ss : List Suspect) : Type 0 where
  pub level : AllByRecursion (Even r) ss
  pub within : AllByRecursion Inside ss
  pub apart : Distinct ss

-- facts of the places below n, and of the first n
all-below : (P : Suspect → Type 0) (ss : List Suspect) (n : ℕ) → n ≤ length ss → ((i : ℕ) → i < n → P (get_or ss i blank)) → AllByRecursion P (take n ss)
all-below P ss n hn f = All-from_get_or P (take n ss) blank (λ i h.
    let l : i < n = rw (length-take-le n ss hn) at h in
    subst P (sym (get_or-take n ss i blank l)) (f i l))

below_all : (P : Suspect → Type 0) (ss : List Suspect) (n : ℕ) → n ≤ length ss → AllByRecursion P (take n ss) → (i : ℕ) → i < n → P (get_or ss i blank)
below_all P ss n hn a i h =
    let l : i < length (take n ss) = rw (length-take-le n ss hn) h in
    subst P (get_or-take n ss i blank h) (All-get_or P (take n ss) i blank l a)

distinct : (ss : List Suspect) → Apart ss (length ss) → Distinct ss
distinct [] a = tt
distinct (s ∷ ss) a = (
  All-from_get_or (Other s.source) ss blank (λ i h e. a 0 (suc i) (omega arith) (omega arith) (sym e)),
  distinct ss (λ i j h k. a (suc i) (suc j) (omega arith) (omega arith)),
)

apart : (ss : List Suspect) → Distinct ss → Apart ss (length ss)
apart [] d i j h k e = omega arith
apart (s ∷ ss) d zero zero h k e = omega arith
apart (s ∷ ss) d zero (suc j) h k e = All-get_or (Other s.source) ss j blank (omega arith) d.0 (sym e)
apart (s ∷ ss) d (suc i) zero h k e = omega arith
apart (s ∷ ss) d (suc i) (suc j) h k e = apart ss d.1 i j (omega arith) (omega arith) e

apart-take : (ss : List Suspect) (n : ℕ) → n ≤ length ss → Apart ss n → Apart (take n ss) (length (take n ss))
apart-take ss n hn a i j h k e =
    let l : j < n = rw (length-take-le n ss hn) at k in
    let m : i < n = omega arith in
    a i j h l (ap (λ (s : Suspect). s.source.commit) (sym (get_or-take n ss i blank m)) ∙ e ∙ ap (λ (s : Suspect). s.source.commit) (get_or-take n ss j blank l))

take-apart : (ss : List Suspect) (n : ℕ) → n ≤ length ss → Apart (take n ss) (length (take n ss)) → Apart ss n
take-apart ss n hn a i j h l e =
    let m : i < n = omega arith in
    let k : j < length (take n ss) = rw (length-take-le n ss hn) l in
    a i j h k (ap (λ (s : Suspect). s.source.commit) (get_or-take n ss i blank m) ∙ e ∙ ap (λ (s : Suspect). s.source.commit) (sym (get_or-take n ss j blank l)))

pub owed : (r : Span) (ss : List Suspect) (n : ℕ) → n ≤ length ss → Level r ss n → Within ss n → Apart ss n → Owed r (take n ss)
owed r ss n hn lv wi a = record {
  level = all-below (Even r) ss n hn lv;
  within = all-below Inside ss n hn wi;
  apart = distinct (take n ss) (apart-take ss n hn a);
}

pub sound-from : (r : Span) (ss xs : List Suspect) (n : ℕ) → n ≤ length ss → take n ss ≡ xs → Owed r xs → Level r ss n × Within ss n × Apart ss n
sound-from r ss xs n hn e o =
    let p : Owed r (take n ss) = subst (Owed r) (sym e) o in
    (below_all (Even r) ss n hn p.level, below_all Inside ss n hn p.within, take-apart ss n hn (apart (take n ss) p.apart))
