-- The check of a row, and the row that is written.
use Rattle.std.proofs.Common.{◌≡◌, ℕ, ◌+◌, ◌-◌, ◌<◌, ◌≤◌, min, Bool, true, false, ◌&&◌, List, [], ◌∷◌, ◌++◌, map, length, take, replicate, sym, refl, ap, ◌∙◌, arith}
use Rattle.std.specs.List.{AllByRecursion}
use Rattle.std.proofs.lemmas.List.{length-map, length-take-le}
use Rattle.std.proofs.lemmas.Bool.{and_parts, eqb-true, ltb-true, leb-true, not-true, eqb-false}
use Rattle.change.specs.declared.span.Span.{Span}
use Rattle.hunk.specs.declared.source.Source.{Source}
use Rattle.hunk.specs.declared.suspect.Suspect.{Suspect}
use Rattle.hunk.specs.declared.row.HunkRow.{HunkRow}
use Rattle.hunk.specs.Hunks.{named}
use Rattle.hunk.specs.Sound.{blank}
use Rattle.std.specs.List.{list_all}
use Rattle.hunk.specs.Rows.{fits, differs, different, is_hunk, suspect_of, row_of}
use Rattle.hunk.proofs.Owing.{Even, Inside, Other, Distinct, Owed}
use Rattle.hunk.proofs.Searches.{told-by-start}

-- a test of a list, by its first element and the others: what a loop answers
pub stops : (b x y z : Bool) → x ≡ (b && y) → x ≡ z → b ≡ false → false ≡ z
stops b x y z p q e = sym (p ∙ ap (λ c. c && y) e) ∙ q

pub goes : (b x y z : Bool) → x ≡ (b && y) → x ≡ z → b ≡ true → y ≡ z
goes b x y z p q e = sym (p ∙ ap (λ c. c && y) e) ∙ q

-- the tests, as what the suspects owe
every-all : (t : Suspect → Bool) (P : Suspect → Type 0) → ((s : Suspect) → t s ≡ true → P s) → (ss : List Suspect) → list_all t ss ≡ true → AllByRecursion P ss
every-all t P f [] h = tt
every-all t P f (s ∷ ss) h =
    let b = and_parts (t s) (list_all t ss) h in
    (f s b.0, every-all t P f ss b.1)

fits-even : (r : Span) → r.start < r.end → (s : Suspect) → fits (r.end - r.start) s ≡ true → Even r s
fits-even r l s h = let e = eqb-true s.range.end (s.range.start + (r.end - r.start)) (and_parts _ _ h).0 in omega arith

fits-inside : (n : ℕ) (s : Suspect) → fits n s ≡ true → Inside s
fits-inside n s h = leb-true s.range.end 16777215 (and_parts _ _ h).1

differs-other : (c : Source) (s : Suspect) → differs c s ≡ true → Other c s
differs-other c s h = eqb-false s.source.commit c.commit (not-true _ h)

all-distinct : (ss : List Suspect) → different ss ≡ true → Distinct ss
all-distinct [] h = tt
all-distinct (s ∷ ss) h =
    let b = and_parts (list_all (differs s.source) ss) (different ss) h in
    (every-all (differs s.source) (Other s.source) (differs-other s.source) ss b.0, all-distinct ss b.1)

pub checked-owed : (r : Span) (ss : List Suspect) → r.start < r.end → list_all (fits (r.end - r.start)) ss ≡ true → different ss ≡ true → Owed r ss
checked-owed r ss l f d = record {
  level = every-all (fits (r.end - r.start)) (Even r) (fits-even r l) ss f;
  within = every-all (fits (r.end - r.start)) Inside (fits-inside (r.end - r.start)) ss f;
  apart = all-distinct ss d;
}

-- what the test of a row says
pub record Right (r : HunkRow) : Type 0 where
  pub lines : r.range_in_blamed_file.start < r.range_in_blamed_file.end
  pub limit : r.range_in_blamed_file.end ≤ 16777215
  pub some : 0 < r.count
  pub few : r.count ≤ 8
  pub owed : Owed r.range_in_blamed_file (take r.count r.suspects)

pub right : (r : HunkRow) → is_hunk r ≡ true → Right r
right r h =
    let a = and_parts _ _ h in
    let b = and_parts _ _ a.0 in
    let c = and_parts _ _ b.0 in
    let d = and_parts _ _ c.0 in
    let e = and_parts _ _ d.0 in
    let l = ltb-true _ _ e.0 in
    record {
      lines = l;
      limit = leb-true _ _ e.1;
      some = ltb-true _ _ d.1;
      few = leb-true _ _ c.1;
      owed = checked-owed r.range_in_blamed_file (take r.count r.suspects) l b.1 a.1;
    }

-- suspects of one length are told by their starts
again : (r : Span) (ss : List Suspect) → r.start < r.end → AllByRecursion (Even r) ss → map (suspect_of (r.end - r.start)) (map named ss) ≡ ss
again r [] l a = refl
again r (s ∷ ss) l a =
    ap (λ x. record { source = s.source; range = x } ∷ map (suspect_of (r.end - r.start)) (map named ss)) (sym (told-by-start s.range r l a.0))
    ∙ ap (λ x. s ∷ x) (again r ss l a.1)

pub same_row : (r r' : Span) (l l' : List Suspect) (n n' : ℕ) → r ≡ r' → l ≡ l' → n ≡ n'
    → ◌≡◌ {A = HunkRow} (record { range_in_blamed_file = r; suspects = l; count = n }) (record { range_in_blamed_file = r'; suspects = l'; count = n' })
same_row r r' l l' n n' p q e =
    ap (λ x. record { range_in_blamed_file = x; suspects = l; count = n }) p
    ∙ ap (λ x. record { range_in_blamed_file = r'; suspects = x; count = n }) q
    ∙ ap (λ x. record { range_in_blamed_file = r'; suspects = l'; count = x }) e

pub row-of : (r : Span) (ss : List Suspect) (n : ℕ) → n ≤ length ss → r.start < r.end → Owed r (take n ss)
    → (xs : List Suspect) → n ≤ 8 → xs ≡ take (min n 8) ss ++ replicate (8 - min n 8) blank
    → ◌≡◌ {A = HunkRow} (record { range_in_blamed_file = r; suspects = xs; count = n })
    (row_of (record { asked = r.start; size = r.end - r.start; suspects = map named (take n ss) }))
row-of r ss n h l o xs f e =
    let m : min n 8 ≡ n = omega arith in
    let long : length (map named (take n ss)) ≡ n = length-map (take n ss) named ∙ length-take-le n ss h in
    same_row _ _ _ _ _ _
    (told-by-start r r l (omega arith))
    (e ∙ ap (λ x. take x ss ++ replicate (8 - x) blank) m
    ∙ ap (λ x. x ++ replicate (8 - n) blank) (sym (again r (take n ss) l o.level))
    ∙ ap (λ x. map (suspect_of (r.end - r.start)) (map named (take n ss)) ++ replicate (8 - x) blank) (sym long))
    (sym long)
