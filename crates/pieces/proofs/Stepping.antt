-- One step of the walk, case by case: what it leaves of the hunk and the change at hand.
use Rattle.std.proofs.Common.{◌≡◌, ℕ, ◌+◌, ◌-◌, ◌<◌, ◌≤◌, true, false, ◌&&◌, ltb, leb, ◌⊎◌, List, [], ◌∷◌, ◌++◌, Some, None, ap, ◌∙◌, inl, inr, arith}
use Rattle.std.proofs.lemmas.Bool.{cases_Bool, lt-ltb, le-ltb, le-leb, lt-leb, and_from, and_left, and_right}
use Rattle.change.specs.declared.span.Span.{Span}
use Rattle.change.specs.declared.change.Change.{Change}
use Rattle.change.specs.declared.change.Change.TheVariants.{Unchanged, AddedOrReplaced, Deleted}
use Rattle.hunk.specs.declared.source.Source.{Source}
use Rattle.hunk.specs.Hunks.{Piece, start_in, front, back, cut, cut_at, on_some}
use Rattle.pieces.specs.declared.offset.Offset.{Offset}
use Rattle.pieces.specs.Offsets.{minus}
use Rattle.pieces.specs.Splits.{split, split_at}
use Rattle.pieces.specs.Steps.{Told, told, moves, at_unchanged, at_added, at_deleted, starting, ending, go_on, walk_of, passing, holds, ends_in}
use Rattle.pieces.proofs.Splits.{not-inside}

module _ (c p : Source) where
  -- what a step leaves, and the walk from there on
  abbrev pub after : Told → List Change → List Piece
  after t cs = t.out ++ go_on c p t.piece (λ g. walk_of c p t.offset g cs)

  module _ (o : Offset) (h : Piece) (x : ℕ) where
    abbrev pub range : Span
    range = record { start = x; end = x + h.size }

    pub u-done : (u : Span) → x + h.size < u.end → at_unchanged c p o u (Some range) h ≡ told None (Some (Unchanged u)) (moves c p o h ∷ []) o
    u-done u l =
        let e : leb u.end (x + h.size) ≡ false = lt-leb _ _ l in
        let f : leb u.end x ≡ false = lt-leb _ _ (omega arith) in
        let g : ends_in u range ≡ false = and_right (ltb x u.end) _ e in
        elim (cases_Bool (holds range u.start)) [ inl b ↦ rw (g, b) | inr b ↦ rw (g, b, f) ]

    pub u-in : (u : Span) → x < u.end → u.end ≤ x + h.size → at_unchanged c p o u (Some range) h ≡ told (Some h) None [] o
    u-in u l m =
        let g : ends_in u range ≡ true = and_from (ltb x u.end) _ (lt-ltb _ _ l) (le-leb _ _ m) in
        rw g

    pub u-before : (u : Span) → u.start < u.end → u.end ≤ x → at_unchanged c p o u (Some range) h ≡ told (Some h) None [] o
    u-before u s l =
        let g : ends_in u range ≡ false = and_left (ltb x u.end) (leb u.end (x + h.size)) (le-ltb _ _ l) in
        let b : holds range u.start ≡ false = and_left (leb x u.start) (ltb u.start (x + h.size)) (lt-leb _ _ (omega arith)) in
        let f : leb u.end x ≡ true = le-leb _ _ l in
        rw (g, b, f)

    pub d-before : (l k : ℕ) → l < x → at_deleted c p o l k (Some range) h ≡ told (Some h) None [] (minus o k)
    d-before l k m = let g : ltb l x ≡ true = lt-ltb _ _ m in rw g

    pub d-past : (l k : ℕ) → 0 < h.size → x + h.size ≤ l → at_deleted c p o l k (Some range) h ≡ told None (Some (Deleted l k)) (moves c p o h ∷ []) o
    d-past l k z m =
        let g : ltb l x ≡ false = le-ltb _ _ (omega arith) in
        let f : ltb l (x + h.size) ≡ false = le-ltb _ _ m in
        rw (g, f)

    pub a-before : (r : Span) (k : ℕ) → r.start < r.end → r.end ≤ x → at_added c p o r k (Some range) h ≡ told (Some h) None [] (passing o r k)
    a-before r k s l =
        let b : holds range r.start ≡ false = and_left (leb x r.start) (ltb r.start (x + h.size)) (lt-leb _ _ (omega arith)) in
        let g : ends_in r range ≡ false = and_left (ltb x r.end) (leb r.end (x + h.size)) (le-ltb _ _ l) in
        let f : leb r.end x ≡ true = le-leb _ _ l in
        rw (b, g, f)

    pub a-past : (r : Span) (k : ℕ) → 0 < h.size → r.start < r.end → x + h.size ≤ r.start
        → at_added c p o r k (Some range) h ≡ told None (Some (AddedOrReplaced r k)) (moves c p o h ∷ []) o
    a-past r k z s l =
        let b : holds range r.start ≡ false = and_right (leb x r.start) (ltb r.start (x + h.size)) (le-ltb _ _ l) in
        let g : ends_in r range ≡ false = and_right (ltb x r.end) (leb r.end (x + h.size)) (lt-leb _ _ (omega arith)) in
        let f : leb r.end x ≡ false = lt-leb _ _ (omega arith) in
        let q : leb (x + h.size) r.start ≡ true = le-leb _ _ l in
        rw (b, g, f, q)

    -- the hunk begins inside the added range
    pub a-inside : (r : Span) (k : ℕ) → r.start < x → x < r.end → r.end ≤ x + h.size
        → at_added c p o r k (Some range) h ≡ ending c p (passing o r k) [] (cut c r.end h)
    a-inside r k s l m =
        let b : holds range r.start ≡ false = and_left (leb x r.start) (ltb r.start (x + h.size)) (lt-leb _ _ s) in
        let g : ends_in r range ≡ true = and_from (ltb x r.end) (leb r.end (x + h.size)) (lt-ltb _ _ l) (le-leb _ _ m) in
        rw (b, g)

    pub a-within : (r : Span) (k : ℕ) → r.start < x → x + h.size < r.end → 0 < h.size
        → at_added c p o r k (Some range) h ≡ told None (Some (AddedOrReplaced r k)) (h ∷ []) o
    a-within r k s l z =
        let b : holds range r.start ≡ false = and_left (leb x r.start) (ltb r.start (x + h.size)) (lt-leb _ _ s) in
        let g : ends_in r range ≡ false = and_right (ltb x r.end) (leb r.end (x + h.size)) (lt-leb _ _ l) in
        let f : leb r.end x ≡ false = lt-leb _ _ (omega arith) in
        let q : leb (x + h.size) r.start ≡ false = lt-leb _ _ (omega arith) in
        rw (b, g, f, q)

    -- the added range begins inside the hunk, and ends there or past it
    pub a-ends : (r : Span) (k : ℕ) → x ≤ r.start → r.start < x + h.size → x < r.end → r.end ≤ x + h.size
        → at_added c p o r k (Some range) h ≡ starting c p o h (cut c r.start h) (λ ps g. ending c p (passing o r k) ps (cut c r.end g))
    a-ends r k s t l m =
        let b : holds range r.start ≡ true = and_from (leb x r.start) (ltb r.start (x + h.size)) (le-leb _ _ s) (lt-ltb _ _ t) in
        let g : ends_in r range ≡ true = and_from (ltb x r.end) (leb r.end (x + h.size)) (lt-ltb _ _ l) (le-leb _ _ m) in
        rw (b, g)

    pub a-runs : (r : Span) (k : ℕ) → x ≤ r.start → r.start < x + h.size → x + h.size < r.end
        → at_added c p o r k (Some range) h ≡ starting c p o h (cut c r.start h) (λ ps g. told None (Some (AddedOrReplaced r k)) (ps ++ g ∷ []) o)
    a-runs r k s t l =
        let b : holds range r.start ≡ true = and_from (leb x r.start) (ltb r.start (x + h.size)) (le-leb _ _ s) (lt-ltb _ _ t) in
        let g : ends_in r range ≡ false = and_right (ltb x r.end) (leb r.end (x + h.size)) (lt-leb _ _ l) in
        rw (b, g)

    pub d-in : (l k : ℕ) → x ≤ l → l < x + h.size → at_deleted c p o l k (Some range) h ≡ starting c p o h (cut c l h) (λ ps g. told (Some g) None ps (minus o k))
    d-in l k s t =
        let g : ltb l x ≡ false = le-ltb _ _ s in
        let f : ltb l (x + h.size) ≡ true = lt-ltb _ _ t in
        rw (g, f)

  -- a cut of a hunk that begins at x: strictly inside, or not
  module _ (h : Piece) (x : ℕ) (e : start_in c h.suspects ≡ Some x) (k : ℕ) where
    pub cut_in : x < k → k < x + h.size → cut c k h ≡ front (k - x) h ∷ back (k - x) h ∷ []
    cut_in l m =
        let t : (ltb x k && ltb k (x + h.size)) ≡ true = and_from (ltb x k) (ltb k (x + h.size)) (lt-ltb _ _ l) (lt-ltb _ _ m) in
        ap (λ v. on_some v (h ∷ []) (cut_at k h)) e ∙ (rw t)

    pub cut_out : (k ≤ x) ⊎ (x + h.size ≤ k) → cut c k h ≡ h ∷ []
    cut_out o = let t = not-inside x h.size k o in ap (λ v. on_some v (h ∷ []) (cut_at k h)) e ∙ (rw t)

    pub split-in : (ks : List ℕ) → x < k → k < x + h.size → split c (k ∷ ks) h ≡ front (k - x) h ∷ split c ks (back (k - x) h)
    split-in ks l m =
        let t : (ltb x k && ltb k (x + h.size)) ≡ true = and_from (ltb x k) (ltb k (x + h.size)) (lt-ltb _ _ l) (lt-ltb _ _ m) in
        ap (λ v. on_some v (h ∷ []) (split_at c k h (split c ks))) e ∙ (rw t)

    pub split-out : (ks : List ℕ) → (k ≤ x) ⊎ (x + h.size ≤ k) → split c (k ∷ ks) h ≡ split c ks h
    split-out ks o = let t = not-inside x h.size k o in ap (λ v. on_some v (h ∷ []) (split_at c k h (split c ks))) e ∙ (rw t)
