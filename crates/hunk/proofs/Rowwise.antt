-- A row that is a hunk, read and changed where it lies.
use Rattle.std.proofs.Common.{◌≡◌, ◌+◌, ◌-◌, ◌<◌, ◌≤◌, min, true, List, [], ◌∷◌, ◌++◌, map, length, take, replicate, Some, Option, IfSome, sym, refl, ap, ◌∙◌, subst, inl, inr, arith}
use Rattle.std.specs.List.{AllByRecursion}
use Rattle.std.proofs.lemmas.List.{length-map, length-take-le}
use Rattle.std.proofs.lemmas.Bool.{cases_Bool}
use Rattle.std.specs.Option.{option_map}
use Rattle.change.specs.declared.span.Span.{Span}
use Rattle.hunk.specs.declared.source.Source.{Source}
use Rattle.hunk.specs.declared.suspect.Suspect.{Suspect}
use Rattle.hunk.specs.declared.hunk.UnblamedHunk.{UnblamedHunk}
use Rattle.hunk.specs.declared.row.HunkRow.{HunkRow}
use Rattle.hunk.specs.Hunks.{same_source, start_in, range_in, span_of, named, rename, with_suspects}
use Rattle.hunk.specs.Rows.{piece_of, is_hunk, in_use, range_at, rename_at, renamed_row, row_piece, row_of, suspect_of}
use Rattle.hunk.specs.Sound.{blank}
use Rattle.hunk.proofs.Owing.{Even, Inside, Owed, owed}
use Rattle.hunk.proofs.Searches.{told-by-start}
use Rattle.hunk.proofs.Checks.{right, same_row}

abbrev pub InRange : Span → Option Span → Type 0
InRange r x = IfSome x (λ s. (s.start + (r.end - r.start) ≡ s.end) × (s.end ≤ 16777215))

module _ (r : Span) (l : r.start < r.end) where
  -- the range of a suspect is told by its start
  pub range-told : (c : Source) (ss : List Suspect) → AllByRecursion (Even r) ss → range_at c ss ≡ option_map (span_of (r.end - r.start)) (start_in c (map named ss))
  range-told c [] a = refl
  range-told c (s ∷ ss) a =
      elim (cases_Bool (same_source s.source c)) [
        | inl b ↦ rw b (ap Some (told-by-start s.range r l a.0))
        | inr b ↦ rw b (range-told c ss a.1)
      ]

  -- .. and is as long as r, within the file limit
  pub range-within : (c : Source) (ss : List Suspect) → AllByRecursion (Even r) ss → AllByRecursion Inside ss → InRange r (range_at c ss)
  range-within c [] a b = tt
  range-within c (s ∷ ss) a b =
      elim (cases_Bool (same_source s.source c)) [
        | inl e ↦ rw e (omega (arith, a.0), b.0)
        | inr e ↦ rw e (range-within c ss a.1 b.1)
      ]

  renames-told : (c p : Source) (x : Span) → x ≡ span_of (r.end - r.start) x.start → (ss : List Suspect) → AllByRecursion (Even r) ss
      → map (rename_at c p x) ss ≡ map (suspect_of (r.end - r.start)) (map (rename c p x.start) (map named ss))
  renames-told c p x e [] a = refl
  renames-told c p x e (s ∷ ss) a =
      ap (λ v. rename_at c p x s ∷ v) (renames-told c p x e ss a.1)
      ∙ ap (λ v. v ∷ map (suspect_of (r.end - r.start)) (map (rename c p x.start) (map named ss)))
      (elim (cases_Bool (same_source s.source c)) [
        | inl b ↦ rw b (ap (λ v. record { source = p; range = v }) e)
        | inr b ↦ rw b (ap (λ v. record { source = s.source; range = v }) (told-by-start s.range r l a.0))
      ])

-- .. of a hunk
module _ (h : UnblamedHunk) (c : Source) (n : h.count ≤ length h.suspects) where
  owes : Owed h.range_in_blamed_file (take h.count h.suspects)
  owes = owed h.range_in_blamed_file h.suspects h.count n h.level h.within h.apart

  pub told_range : range_at c (take h.count h.suspects) ≡ range_in c (piece_of h)
  told_range = range-told h.range_in_blamed_file h.lines c (take h.count h.suspects) owes.level

  pub told_within : (x : Option Span) → x ≡ range_in c (piece_of h) → InRange h.range_in_blamed_file x
  told_within x e =
      subst (InRange h.range_in_blamed_file) (sym (e ∙ sym told_range)) (range-within h.range_in_blamed_file h.lines c (take h.count h.suspects) owes.level owes.within)

in_use_lem : (r : HunkRow) → r.count ≤ 8 → in_use r ≡ take r.count r.suspects
in_use_lem r f = let e : min r.count 8 ≡ r.count = omega arith in ap (λ n. take n r.suspects) e

pub range-of-hunk : (r : HunkRow) (c : Source) → is_hunk r ≡ true → range_at c (in_use r) ≡ range_in c (row_piece r)
range-of-hunk r c h =
    let k = right r h in
    ap (range_at c) (in_use_lem r k.few) ∙ range-told r.range_in_blamed_file k.lines c (take r.count r.suspects) k.owed.level

-- the row has room for as many suspects as it counts
pub renamed-hunk : (r : HunkRow) (c p : Source) (x : Span) → is_hunk r ≡ true → r.count ≤ length r.suspects → x ≡ span_of (row_piece r).size x.start
    → renamed_row c p x r ≡ row_of (with_suspects (row_piece r) (map (rename c p x.start) (row_piece r).suspects))
renamed-hunk r c p x h n e =
    let k = right r h in
    let w = r.range_in_blamed_file in
    let ss = take r.count r.suspects in
    let ls = map (rename c p x.start) (map named ss) in
    let long : length ls ≡ r.count = length-map (map named ss) (rename c p x.start) ∙ length-map ss named ∙ length-take-le r.count r.suspects n in
    let m : min r.count 8 ≡ length ls = omega (arith, k.few, long) in
    same_row _ _ _ _ _ _
    (told-by-start w w k.lines (omega arith))
    (ap (λ v. map (rename_at c p x) v ++ replicate (8 - min r.count 8) blank) (in_use_lem r k.few)
    ∙ ap (λ v. v ++ replicate (8 - min r.count 8) blank) (renames-told w k.lines c p x e ss k.owed.level)
    ∙ ap (λ v. map (suspect_of (w.end - w.start)) ls ++ replicate (8 - v) blank) m)
    (sym long)
