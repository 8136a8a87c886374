-- The walk of one hunk, with its pieces written to a table as it goes.
use Rattle.std.proofs.Common.{◌≡◌, ℕ, ◌+◌, ◌*◌, ◌<◌, ◌≤◌, false, List, [], ◌∷◌, ◌++◌, length, slice_get, Some, None, Option, sym, refl, ap, ◌∙◌, subst, arith}
use Rattle.std.proofs.lemmas.List.{append_assoc, append-nil, length-append}
use Rattle.std.specs.Option.{option_map}
use Rattle.change.specs.declared.change.Change.{Change}
use Rattle.change.specs.declared.change.Change.TheVariants.{Unchanged, AddedOrReplaced, Deleted}
use Rattle.change.specs.Lists.{limit, new_total, old_total, Valid}
use Rattle.hunk.specs.declared.source.Source.{Source}
use Rattle.hunk.specs.Hunks.{Piece, same_source, start_in, range_in, span_of}
use Rattle.pieces.specs.declared.offset.Offset.{Offset}
use Rattle.pieces.specs.declared.offset.Offset.TheVariants.{Added}
use Rattle.pieces.specs.Offsets.{size_of}
use Rattle.pieces.specs.Pieces.{pieces}
use Rattle.pieces.specs.Process.{Inside}
use Rattle.pieces.specs.Steps.{Told, step_of, at_unchanged, at_added, at_deleted, go_on, walk_of}
use Rattle.pieces.specs.Skips.{GoesOn, Caught}
use Rattle.pieces.specs.Tables.{Filled}
use Rattle.pieces.specs.Walkers.{weight, weights, head_of, tail_of}
use Rattle.pieces.proofs.Filling.{fill_none}
use Rattle.pieces.proofs.Shifts.{moves-unnamed}
use Rattle.pieces.proofs.Skipping.{goes-on}
use Rattle.pieces.proofs.Splits.{pieces-unnamed}
use Rattle.pieces.proofs.Walking.{walk-pieces}

pub weights-fit : (cs : List Change) → weights cs ≤ new_total cs + old_total cs
weights-fit [] = omega arith
weights-fit (Unchanged r ∷ cs) = omega (arith, weights-fit cs)
weights-fit (AddedOrReplaced r k ∷ cs) = omega (arith, weights-fit cs)
weights-fit (Deleted l k ∷ cs) = omega (arith, weights-fit cs)

-- a hunk that does not name c is requeued as it came
walk-unnamed : (c p : Source) (o : Offset) (h : Piece) (cs : List Change) → range_in c h ≡ None → walk_of c p o h cs ≡ h ∷ []
walk-unnamed c p o h [] e = ap (λ g. g ∷ []) (sym (moves-unnamed c p o h e))
walk-unnamed c p o h (Unchanged u ∷ cs) e =
    ap (λ r. (at_unchanged c p o u r h).out ++ go_on c p (at_unchanged c p o u r h).piece (λ g. walk_of c p (at_unchanged c p o u r h).offset g cs)) e
walk-unnamed c p o h (AddedOrReplaced a k ∷ cs) e =
    ap (λ r. (at_added c p o a k r h).out ++ go_on c p (at_added c p o a k r h).piece (λ g. walk_of c p (at_added c p o a k r h).offset g cs)) e
walk-unnamed c p o h (Deleted l k ∷ cs) e =
    ap (λ r. (at_deleted c p o l k r h).out ++ go_on c p (at_deleted c p o l k r h).piece (λ g. walk_of c p (at_deleted c p o l k r h).offset g cs)) e

pub walk-all : (c p : Source) (cs : List Change) (h : Piece) → same_source c p ≡ false → Valid cs → 0 < h.size → Inside c (new_total cs) h
    → walk_of c p (Added 0) h cs ≡ pieces c p cs (h ∷ [])
walk-all c p cs h ne v z i = go (start_in c h.suspects) refl
  where
    go : (s : Option ℕ) → start_in c h.suspects ≡ s → walk_of c p (Added 0) h cs ≡ pieces c p cs (h ∷ [])
    go None e = walk-unnamed c p (Added 0) h cs (ap (option_map (span_of h.size)) e) ∙ sym (pieces-unnamed c p cs h e)
    go (Some x) e = walk-pieces c p cs h x ne v e z (i x e)

module _ {R : Type 0} (means : R → Piece) (exact : R → Type 0) (entry : List R) (c p : Source) (cs : List Change) (h : Piece) where
  -- on the way: these pieces are written, and what is left of the hunk makes the others from the changes that are left
  pub record Going (out : List R) (used : ℕ) (o : Offset) (left : Option Piece) (rest : List Change) : Type 0 where
    pub ready : List Piece
    pub used-is : used ≡ length ready
    pub filled : Filled means exact entry ready out
    pub whole : ready ++ go_on c p left (λ g. walk_of c p o g rest) ≡ walk_of c p (Added 0) h cs
    pub fits : size_of o + weights rest ≤ 2 * limit
    pub follows : GoesOn rest

pub first-is : (cs : List Change) (x : Change) → Some x ≡ slice_get cs 0 → cs ≡ x ∷ tail_of cs
first-is [] x e = cc
first-is (y ∷ ys) x e = cc

goes-tail : (cs : List Change) → GoesOn cs → GoesOn (tail_of cs)
goes-tail [] f = f
goes-tail (x ∷ xs) f = goes-on x xs f

weights-next : (rest : List Change) → weight (head_of rest) + weights (tail_of rest) ≡ weights rest
weights-next [] = refl
weights-next (x ∷ xs) = refl

-- a walk is one step, and the walk from there on
walk-next : (c p : Source) (o : Offset) (h : Piece) (rest : List Change)
    → walk_of c p o h rest ≡ (step_of c p o (Some h) (head_of rest)).out ++ go_on c p (step_of c p o (Some h) (head_of rest)).piece (λ g. walk_of c p (step_of c p o (Some h) (head_of rest)).offset g (tail_of rest))
walk-next c p o h [] = refl
walk-next c p o h (x ∷ xs) = refl

pub going-starts : {R : Type 0} (means : R → Piece) (exact : R → Type 0) (entry : List R) (c p : Source) (cs : List Change) (h : Piece) → Valid cs
    → Going means exact entry c p cs h entry 0 (Added 0) (Some h) cs
going-starts means exact entry c p cs h v = record {
  ready = [];
  used-is = refl;
  filled = fill_none means exact entry;
  whole = refl;
  fits = omega (arith, weights-fit cs, v.new_fits, v.old_fits);
  follows = (0, v.follows);
}

module _ {R : Type 0} (means : R → Piece) (exact : R → Type 0) (entry : List R) (c p : Source) (cs : List Change) (h : Piece)
    (out : List R) (used : ℕ) (o : Offset) (g : Piece) (rest : List Change) (on : Going means exact entry c p cs h out used o (Some g) rest) where
  abbrev pub next : Told
  next = step_of c p o (Some g) (head_of rest)

  whole-next : (on.ready ++ next.out) ++ go_on c p next.piece (λ b. walk_of c p next.offset b (tail_of rest)) ≡ walk_of c p (Added 0) h cs
  whole-next = append_assoc on.ready next.out _ ∙ sym (ap (λ l. on.ready ++ l) (walk-next c p o g rest)) ∙ on.whole

  pub going-room : used + length next.out ≤ length (walk_of c p (Added 0) h cs)
  going-room =
      omega (
        arith,
        on.used-is,
        ap length whole-next,
        length-append (on.ready ++ next.out) (go_on c p next.piece (λ b. walk_of c p next.offset b (tail_of rest))),
        length-append on.ready next.out,
      )

  pub going_on : (out' : List R) (used' : ℕ) (ps : List Piece) (left : Option Piece) (o' : Offset) → used' ≡ used + length ps → ps ≡ next.out → left ≡ next.piece → o' ≡ next.offset
      → size_of o' ≤ size_of o + weight (head_of rest) → ((qs : List Piece) → used ≡ length qs → Filled means exact entry qs out → Filled means exact entry (qs ++ ps) out')
      → Going means exact entry c p cs h out' used' o' left (tail_of rest)
  going_on out' used' ps left o' u e l w s f = record {
    ready = on.ready ++ ps;
    used-is = omega (arith, u, on.used-is, length-append on.ready ps);
    filled = f on.ready on.used-is on.filled;
    whole = rw (e, l, w) whole-next;
    fits = omega (arith, s, on.fits, weights-next rest);
    follows = goes-tail rest on.follows;
  }

-- .. once the changes are passed that leave the hunk as it is
pub going-caught : {R : Type 0} (means : R → Piece) (exact : R → Type 0) (entry : List R) (c p : Source) (cs : List Change) (h : Piece)
    (out : List R) (used : ℕ) (o o' : Offset) (g : Piece) (left rest : List Change) → Going means exact entry c p cs h out used o (Some g) left → Caught c g left rest o o'
    → Going means exact entry c p cs h out used o' (Some g) rest
going-caught means exact entry c p cs h out used o o' g left rest on k = record {
  ready = on.ready;
  used-is = on.used-is;
  filled = on.filled;
  whole = sym (ap (λ l. on.ready ++ l) (k.same p)) ∙ on.whole;
  fits = omega (arith, on.fits, k.lighter);
  follows = k.follows;
}

-- at the end all pieces are written
pub going-ends : {R : Type 0} (means : R → Piece) (exact : R → Type 0) (entry : List R) (c p : Source) (cs : List Change) (h : Piece)
    (out : List R) (used : ℕ) (o : Offset) (rest : List Change) (ps : List Piece) → Going means exact entry c p cs h out used o None rest
    → walk_of c p (Added 0) h cs ≡ ps → (used ≡ length ps) × Filled means exact entry ps out
going-ends means exact entry c p cs h out used o rest ps on e =
    let q : on.ready ≡ ps = sym (append-nil on.ready) ∙ on.whole ∙ e in
    (on.used-is ∙ ap length q, subst (λ l. Filled means exact entry l out) q on.filled)
