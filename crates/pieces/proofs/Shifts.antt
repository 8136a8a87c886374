-- Offsets as lines are added and deleted, and the piece that moves by one.
use Rattle.std.proofs.Common.{◌≡◌, ℕ, ◌+◌, ◌-◌, ◌^◌, ◌<◌, ◌≤◌, true, false, not, ◌&&◌, ltb, leb, Some, None, Option, unwrap_or, sym, refl, ap, ◌∙◌, inl, inr, arith}
use Rattle.std.proofs.lemmas.Bool.{cases_Bool, ltb-true, ltb-false, lt-ltb, le-leb, and_from, not_from_false}
use Rattle.std.specs.Option.{option_map, option_and_then}
use Rattle.change.specs.declared.span.Span.{Span}
use Rattle.change.specs.Lists.{limit}
use Rattle.hunk.specs.declared.source.Source.{Source}
use Rattle.hunk.specs.Hunks.{Piece, same_source, start_in, has, names, range_in, span_of, passed, on_some}
use Rattle.hunk.specs.Rows.{passed_of}
use Rattle.pieces.specs.declared.offset.Offset.{Offset}
use Rattle.pieces.specs.declared.offset.Offset.TheVariants.{Added, Deleted}
use Rattle.pieces.specs.Offsets.{plus, minus, shifted, Stands}
use Rattle.pieces.specs.Steps.{moves}

pub stands-plus : (o : Offset) (a d n : ℕ) → Stands o a d → Stands (plus o n) (a + n) d
stands-plus (Added k) a d n s = omega (arith, s)
stands-plus (Deleted k) a d n s =
    elim (cases_Bool (ltb k n)) [ inl e ↦ rw e (omega (arith, s, ltb-true _ _ e)) | inr e ↦ rw e (omega (arith, s, ltb-false _ _ e)) ]

pub stands-minus : (o : Offset) (a d n : ℕ) → Stands o a d → Stands (minus o n) a (d + n)
stands-minus (Added k) a d n s =
    elim (cases_Bool (ltb k n)) [ inl e ↦ rw e (omega (arith, s, ltb-true _ _ e)) | inr e ↦ rw e (omega (arith, s, ltb-false _ _ e)) ]
stands-minus (Deleted k) a d n s = omega (arith, s)

pub shifts : (o : Offset) (a d x : ℕ) → Stands o a d → a ≤ x → x - a + d < 2 ^ 32 → shifted o x ≡ Some (x - a + d)
shifts (Added k) a d x s l u =
    let e : leb k x ≡ true = le-leb _ _ (omega (arith, s)) in
    rw e (ap Some (omega (arith, s)))
shifts (Deleted k) a d x s l u =
    let q : x + k ≡ x - a + d = omega (arith, s) in
    let e : ltb (x + k) (2 ^ 32) ≡ true = lt-ltb _ _ (omega arith) in
    rw e (ap Some q)

-- a piece at x goes to the parent, at its place, where that has room for it
pub moves-to : (c p : Source) (o : Offset) (h : Piece) (a d x : ℕ) → same_source c p ≡ false → Stands o a d → start_in c h.suspects ≡ Some x → a ≤ x
    → x - a + d + h.size ≤ limit → moves c p o h ≡ passed c p (x - a + d) h
unfolding moves
moves-to c p o h a d x ne s e l u =
    let n : names c h ≡ true = ap has e in
    let y : leb (x - a + d + h.size) limit ≡ true = le-leb _ _ u in
    let t : (names c h && not (same_source c p) && leb (x - a + d + h.size) limit) ≡ true =
    and_from (names c h && not (same_source c p)) (leb (x - a + d + h.size) limit) (and_from (names c h) (not (same_source c p)) n (not_from_false (same_source c p) ne)) y in
    let q : passed_of c p (x - a + d) h ≡ Some (passed c p (x - a + d) h) = rw t in
    ap (λ v. on_some v h (λ r. on_some (shifted o r.start) h (λ y. unwrap_or (passed_of c p y h) h))) (ap (option_map (span_of h.size)) e)
    ∙ ap (λ v. on_some v h (λ y. unwrap_or (passed_of c p y h) h)) (shifts o a d x s l (omega arith))
    ∙ ap (λ v. unwrap_or v h) q

-- the piece as it is moved: by its range, the place of that, and the hunk that names the parent there
pub moves-by_chain : (c p : Source) (o : Offset) (h : Piece)
    → moves c p o h ≡ unwrap_or (option_and_then (λ y. passed_of c p y h) (option_and_then (λ (r : Span). shifted o r.start) (range_in c h))) h
unfolding moves
moves-by_chain c p o h = go (range_in c h)
  where
    at : (v : Option ℕ) → on_some v h (λ y. unwrap_or (passed_of c p y h) h) ≡ unwrap_or (option_and_then (λ y. passed_of c p y h) v) h
    at None = refl
    at (Some y) = refl

    go : (v : Option Span) → on_some v h (λ r. on_some (shifted o r.start) h (λ y. unwrap_or (passed_of c p y h) h))
        ≡ unwrap_or (option_and_then (λ y. passed_of c p y h) (option_and_then (λ (r : Span). shifted o r.start) v)) h
    go None = refl
    go (Some r) = at (shifted o r.start)

-- the piece step by step: no range, no place, no room, or moved
module _ (c p : Source) (o : Offset) (h : Piece) where
  abbrev to : Option ℕ → Piece
  to v = on_some v h (λ y. unwrap_or (passed_of c p y h) h)

  pub moves-unnamed : range_in c h ≡ None → h ≡ moves c p o h
  unfolding moves
  moves-unnamed e = sym (ap (λ v. on_some v h (λ r. to (shifted o r.start))) e)

  pub moves-by : (r : Span) (v : Option ℕ) → range_in c h ≡ Some r → shifted o r.start ≡ v → to v ≡ moves c p o h
  unfolding moves
  moves-by r v e f = sym (ap (λ v. on_some v h (λ r. to (shifted o r.start))) e ∙ ap to f)
