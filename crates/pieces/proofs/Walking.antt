-- The walk of a hunk along a valid list gives the pieces of the hunk split along the cuts, each moved where its lines are kept.
use Rattle.std.proofs.Common.{◌≡◌, ℕ, ◌+◌, ◌-◌, ◌<◌, ◌≤◌, true, false, ltb, ◌⊎◌, List, [], ◌∷◌, ◌++◌, map, Some, None, sym, ap, ◌∙◌, inl, inr, arith}
use Rattle.std.proofs.lemmas.List.{append_assoc, append-nil}
use Rattle.std.proofs.ByRecursion.{All-weaker}
use Rattle.std.proofs.lemmas.Bool.{cases_lt, lt-ltb, le-ltb}
use Rattle.change.specs.declared.span.Span.{Span}
use Rattle.change.specs.declared.change.Change.{Change}
use Rattle.change.specs.declared.change.Change.TheVariants.{Unchanged, AddedOrReplaced, Deleted}
use Rattle.change.specs.Lists.{limit, lines, new_total, old_total, Follows, Valid}
use Rattle.change.specs.Places.{kept, walk}
use Rattle.change.proofs.Walks.{walk-finds}
use Rattle.hunk.specs.declared.source.Source.{Source}
use Rattle.hunk.specs.Hunks.{Piece, same_source, start_in, range_in, span_of, front, back, cut}
use Rattle.std.specs.Option.{option_map}
use Rattle.pieces.specs.declared.offset.Offset.{Offset}
use Rattle.pieces.specs.declared.offset.Offset.TheVariants.{Added}
use Rattle.pieces.specs.Offsets.{plus, minus, Stands}
use Rattle.pieces.specs.Pieces.{cuts, moved, pieces}
use Rattle.pieces.specs.Splits.{split}
use Rattle.pieces.specs.Steps.{Told, told, moves, at_unchanged, at_added, at_deleted, starting, ending, walk_of, passing}
use Rattle.pieces.proofs.Shifts.{stands-plus, stands-minus, moves-to}
use Rattle.pieces.proofs.Splits.{pieces-split, split-whole, cuts-rise, rises-all, back_start}
use Rattle.pieces.proofs.Stepping.{after, range, u-done, u-in, u-before, d-before, d-past, a-before, a-past, a-inside, a-within, a-ends, a-runs, d-in, cut_in, cut_out, split-in, split-out}

-- on the way along the list `whole`, whose changes cs are left: the end `at` is reached with a lines added and d deleted,
-- the hunk at hand begins at x, and of its lines those before `at` are kept, at that offset
pub record On (whole cs : List Change) (at a d x : ℕ) (o : Offset) : Type 0 where
  pub follows : Follows at cs
  pub finds : (n : ℕ) → at ≤ n → kept whole n ≡ walk a d cs n
  pub early : a ≤ at
  pub low : a ≤ x
  pub held : (n : ℕ) → x ≤ n → n < at → kept whole n ≡ Some (n - a + d)
  pub stands : Stands o a d
  pub fits : at - a + d + old_total cs ≤ limit

module _ (c p : Source) (ne : same_source c p ≡ false) (whole : List Change) where
  -- a piece that is kept moves, and one that is not stays
  moved-goes : (o : Offset) (h : Piece) (a d x : ℕ) → Stands o a d → start_in c h.suspects ≡ Some x → a ≤ x → x - a + d + h.size ≤ limit
      → kept whole x ≡ Some (x - a + d) → moves c p o h ≡ moved c p whole h
  moved-goes o h a d x s e l u k = moves-to c p o h a d x ne s e l u ∙ sym (rw (e, k))

  moved-stays : (h : Piece) (x : ℕ) → start_in c h.suspects ≡ Some x → kept whole x ≡ None → moved c p whole h ≡ h
  moved-stays h x e k = rw (e, k)

  -- no cut is left before the end of the hunk
  uncut : (cs : List Change) (at x : ℕ) (h : Piece) → Follows at cs → start_in c h.suspects ≡ Some x → x + h.size ≤ at → split c (cuts cs) h ≡ h ∷ []
  uncut cs at x h f e l =
      split-whole c (cuts cs) h (λ y s.
      let u : x ≡ y = cc in
      All-weaker (λ k. at ≤ k) (λ k. (k ≤ y) ⊎ (y + h.size ≤ k)) (λ k m. inr (omega arith)) (cuts cs) (rises-all at (cuts cs) (cuts-rise cs at f)))

  -- the first line of a hunk whose lines are all before the end reached, or in an unchanged range behind it
  held-goes : (cs : List Change) (at a d x : ℕ) (o : Offset) (h : Piece) → On whole cs at a d x o → start_in c h.suspects ≡ Some x → 0 < h.size
      → x + h.size ≤ at → moves c p o h ≡ moved c p whole h
  held-goes cs at a d x o h on e z l =
      moved-goes o h a d x on.stands e on.low (omega (arith, on.fits, on.low)) (on.held x (omega arith) (omega arith))

  -- a hunk that is done with at an unchanged range that reaches past it
  past-unchanged : (u : Span) (cs : List Change) (at a d x : ℕ) (o : Offset) (h : Piece) → On whole (Unchanged u ∷ cs) at a d x o
      → start_in c h.suspects ≡ Some x → 0 < h.size → x + h.size ≤ u.end → moves c p o h ∷ [] ≡ map (moved c p whole) (split c (cuts cs) h)
  past-unchanged u cs at a d x o h on e z l =
      let k : kept whole x ≡ Some (x - a + d) =
      elim (cases_lt x at) [
        | inl b ↦ on.held x (omega arith) b
        | inr b ↦ let t : ltb x u.end ≡ true = lt-ltb _ _ (omega arith) in on.finds x b ∙ (rw t)
      ] in
      ap (λ g. g ∷ []) (moved-goes o h a d x on.stands e on.low (omega (arith, on.fits, on.low, on.follows.0)) k)
      ∙ sym (ap (map (moved c p whole)) (uncut cs u.end x h on.follows.2 e l))

  -- one change on, with the hunk as it is
  on-unchanged : (u : Span) (cs : List Change) (at a d x : ℕ) (o : Offset) → On whole (Unchanged u ∷ cs) at a d x o → On whole cs u.end a d x o
  on-unchanged u cs at a d x o on = record {
    follows = on.follows.2;
    finds = λ n l. let t : ltb n u.end ≡ false = le-ltb _ _ l in on.finds n (omega (arith, on.follows.1)) ∙ (rw t);
    early = omega (arith, on.early, on.follows.1);
    low = on.low;
    held = λ n l m.
        elim (cases_lt n at) [
          | inl b ↦ on.held n l b
          | inr b ↦ let t : ltb n u.end ≡ true = lt-ltb _ _ m in on.finds n b ∙ (rw t)
        ];
    stands = on.stands;
    fits = omega (arith, on.fits, on.early, on.follows.0, on.follows.1);
  }

  -- .. and with a hunk that begins at or past the end of an added range
  on-added : (r : Span) (k : ℕ) (cs : List Change) (at a d x y : ℕ) (o : Offset) → On whole (AddedOrReplaced r k ∷ cs) at a d x o → r.end ≤ y
      → On whole cs r.end (a + lines r) (d + k) y (passing o r k)
  on-added r k cs at a d x y o on l = record {
    follows = on.follows.2;
    finds = λ n m. let t : ltb n r.end ≡ false = le-ltb _ _ m in on.finds n (omega (arith, on.follows.1)) ∙ (rw t);
    early = omega (arith, on.early, on.follows.0, on.follows.1);
    low = omega (arith, on.early, on.follows.0, on.follows.1);
    held = λ n m q. absurd (omega arith);
    stands = stands-minus (plus o (lines r)) (a + lines r) d k (stands-plus o a d (lines r) on.stands);
    fits = omega (arith, on.fits, on.early, on.follows.0, on.follows.1);
  }

  -- .. or at or past a deletion
  on-deleted : (l k : ℕ) (cs : List Change) (at a d x y : ℕ) (o : Offset) → On whole (Deleted l k ∷ cs) at a d x o → at ≤ y
      → On whole cs at a (d + k) y (minus o k)
  on-deleted l k cs at a d x y o on m = record {
    follows = on.follows.2;
    finds = on.finds;
    early = on.early;
    low = omega (arith, on.early);
    held = λ n q b. absurd (omega arith);
    stands = stands-minus o a d k on.stands;
    fits = omega (arith, on.fits);
  }

  -- behind the start of an added range: the lines of the range stay, and the walk goes on behind its end
  module _ (r : Span) (k : ℕ) (cs : List Change) (at a d x : ℕ) (o : Offset) (on : On whole (AddedOrReplaced r k ∷ cs) at a d x o)
      (g : Piece) (y : ℕ) (e : start_in c g.suspects ≡ Some y) (z : 0 < g.size) (s : r.start ≤ y) (t : y < r.end) where
    stays : kept whole y ≡ None
    stays = let q : ltb y r.end ≡ true = lt-ltb _ _ t in on.finds y (omega (arith, on.follows.0)) ∙ (rw q)

    rest-stays : y + g.size ≤ r.end → map (moved c p whole) (split c (r.end ∷ cuts cs) g) ≡ g ∷ []
    rest-stays l =
        ap (map (moved c p whole)) (split-out c p g y e r.end (cuts cs) (inr l) ∙ uncut cs r.end y g on.follows.2 e l)
        ∙ ap (λ v. v ∷ []) (moved-stays g y e stays)

    rest-ends : ((b : Piece) (w : ℕ) → start_in c b.suspects ≡ Some w → r.end ≤ w → 0 < b.size → w + b.size ≤ y + g.size
        → walk_of c p (passing o r k) b cs ≡ map (moved c p whole) (split c (cuts cs) b))
        → r.end ≤ y + g.size → (ps : List Piece)
        → after c p (ending c p (passing o r k) ps (cut c r.end g)) cs ≡ ps ++ map (moved c p whole) (split c (r.end ∷ cuts cs) g)
    rest-ends rec m ps =
        elim (cases_lt r.end (y + g.size)) [
          | inl q ↦
              let f = front (r.end - y) g in
              let b = back (r.end - y) g in
              let w : y + (r.end - y) ≡ r.end = omega arith in
              let eb : start_in c b.suspects ≡ Some r.end = back_start c (r.end - y) y g e ∙ ap Some w in
              ap (λ v. after c p (ending c p (passing o r k) ps v) cs) (cut_in c p g y e r.end t q)
              ∙ append_assoc ps (f ∷ []) (walk_of c p (passing o r k) b cs)
              ∙ ap (λ v. ps ++ f ∷ v) (rec b r.end eb (omega arith) (omega arith) (omega arith))
              ∙ ap (λ v. ps ++ v ∷ map (moved c p whole) (split c (cuts cs) b)) (sym (moved-stays f y e stays))
              ∙ sym (ap (λ v. ps ++ map (moved c p whole) v) (split-in c p g y e r.end (cuts cs) t q))
          | inr q ↦
              ap (λ v. after c p (ending c p (passing o r k) ps v) cs) (cut_out c p g y e r.end (inr q))
              ∙ append-nil (ps ++ g ∷ [])
              ∙ sym (ap (λ v. ps ++ v) (rest-stays q))
        ]

  walked : (cs : List Change) (at a d : ℕ) (o : Offset) (h : Piece) (x : ℕ) → On whole cs at a d x o → start_in c h.suspects ≡ Some x → 0 < h.size
      → x + h.size ≤ at + new_total cs → walk_of c p o h cs ≡ map (moved c p whole) (split c (cuts cs) h)
  walked [] at a d o h x on e z i = ap (λ g. g ∷ []) (held-goes [] at a d x o h on e z (omega arith))
  walked (Unchanged u ∷ cs) at a d o h x on e z i =
      let s = on.follows.0 in
      let m : x + h.size ≤ u.end + new_total cs = omega (arith, i, on.follows.0, on.follows.1) in
      let on-it = walked cs u.end a d o h x (on-unchanged u cs at a d x o on) e z m in
      let rg : range_in c h ≡ Some (range c p o h x) = ap (option_map (span_of h.size)) e in
      let step : (t : Told) → at_unchanged c p o u (Some (range c p o h x)) h ≡ t → walk_of c p o h (Unchanged u ∷ cs) ≡ after c p t cs =
      λ t q. ap (λ r. after c p (at_unchanged c p o u r h) cs) rg ∙ ap (λ v. after c p v cs) q in
      elim (cases_lt x u.end) [
        | inl b ↦
            elim (cases_lt (x + h.size) u.end) [
              | inl q ↦ step _ (u-done c p o h x u q) ∙ past-unchanged u cs at a d x o h on e z (omega arith)
              | inr q ↦ step _ (u-in c p o h x u b q) ∙ on-it
            ]
        | inr b ↦ step _ (u-before c p o h x u (omega (arith, on.follows.0, on.follows.1)) b) ∙ on-it
      ]
  walked (AddedOrReplaced r k ∷ cs) at a d o h x on e z i =
      let s = on.follows.0 in
      let v = on.follows.1 in
      let rg : range_in c h ≡ Some (range c p o h x) = ap (option_map (span_of h.size)) e in
      let M = map (moved c p whole) in
      let ks = cuts cs in
      let total : x + h.size ≤ r.end + new_total cs = omega (arith, i) in
      let rec : (b : Piece) (w : ℕ) → start_in c b.suspects ≡ Some w → r.end ≤ w → 0 < b.size → w + b.size ≤ r.end + new_total cs
      → walk_of c p (passing o r k) b cs ≡ M (split c ks b) =
      λ b w eb l zb m. walked cs r.end (a + lines r) (d + k) (passing o r k) b w (on-added r k cs at a d x w o on l) eb zb m in
      let step : (t : Told) → at_added c p o r k (Some (range c p o h x)) h ≡ t → walk_of c p o h (AddedOrReplaced r k ∷ cs) ≡ after c p t cs =
      λ t q. ap (λ w. after c p (at_added c p o r k w h) cs) rg ∙ ap (λ w. after c p w cs) q in
      elim (cases_lt x r.end) [
        | inl b ↦
            elim (cases_lt r.start x) [
              | inl f ↦
                  let first : split c (r.start ∷ r.end ∷ ks) h ≡ split c (r.end ∷ ks) h = split-out c p h x e r.start (r.end ∷ ks) (inl (omega arith)) in
                  elim (cases_lt (x + h.size) r.end) [
                    | inl q ↦
                        step _ (a-within c p o h x r k f q z)
                        ∙ sym (rest-stays r k cs at a d x o on h x e z (omega arith) b (omega arith)) ∙ sym (ap M first)
                    | inr q ↦
                        step _ (a-inside c p o h x r k f b q)
                        ∙ rest-ends r k cs at a d x o on h x e z (omega arith) b (λ b w eb l zb m. rec b w eb l zb (omega arith)) q [] ∙ sym (ap M first)
                  ]
              | inr f ↦
                  elim (cases_lt r.start (x + h.size)) [
                    | inl t ↦
                        elim (cases_lt x r.start) [
                          | inl m ↦
                              let g = back (r.start - x) h in
                              let y : x + (r.start - x) ≡ r.start = omega arith in
                              let eg : start_in c g.suspects ≡ Some r.start = back_start c (r.start - x) x h e ∙ ap Some y in
                              let fm = held-goes (AddedOrReplaced r k ∷ cs) at a d x o (front (r.start - x) h) on e (omega arith) (omega (arith, s)) in
                              let whole_split : M (split c (r.start ∷ r.end ∷ ks) h) ≡ moves c p o (front (r.start - x) h) ∷ M (split c (r.end ∷ ks) g) =
                              ap M (split-in c p h x e r.start (r.end ∷ ks) m t) ∙ ap (λ w. w ∷ M (split c (r.end ∷ ks) g)) (sym fm) in
                              elim (cases_lt (x + h.size) r.end) [
                                | inl q ↦
                                    step _ (a-runs c p o h x r k f t q)
                                    ∙ ap (λ w. after c p (starting c p o h w (λ ps g. told None (Some (AddedOrReplaced r k)) (ps ++ g ∷ []) o)) cs) (cut_in c p h x e r.start m t)
                                    ∙ ap (λ w. moves c p o (front (r.start - x) h) ∷ w)
                                    (sym (rest-stays r k cs at a d x o on g r.start eg (omega arith) (omega arith) (omega (arith, s, v)) (omega arith)))
                                    ∙ sym whole_split
                                | inr q ↦
                                    step _ (a-ends c p o h x r k f t b q)
                                    ∙ ap (λ w. after c p (starting c p o h w (λ ps g. ending c p (passing o r k) ps (cut c r.end g))) cs) (cut_in c p h x e r.start m t)
                                    ∙ rest-ends r k cs at a d x o on g r.start eg (omega arith) (omega arith) (omega (arith, s, v))
                                    (λ b w eb l zb n. rec b w eb l zb (omega arith)) (omega arith) (moves c p o (front (r.start - x) h) ∷ [])
                                    ∙ sym whole_split
                              ]
                          | inr m ↦
                              let n : (r.start ≤ x) ⊎ (x + h.size ≤ r.start) = inl m in
                              let first : split c (r.start ∷ r.end ∷ ks) h ≡ split c (r.end ∷ ks) h = split-out c p h x e r.start (r.end ∷ ks) n in
                              elim (cases_lt (x + h.size) r.end) [
                                | inl q ↦
                                    step _ (a-runs c p o h x r k f t q)
                                    ∙ ap (λ w. after c p (starting c p o h w (λ ps g. told None (Some (AddedOrReplaced r k)) (ps ++ g ∷ []) o)) cs) (cut_out c p h x e r.start n)
                                    ∙ sym (rest-stays r k cs at a d x o on h x e z m b (omega arith)) ∙ sym (ap M first)
                                | inr q ↦
                                    step _ (a-ends c p o h x r k f t b q)
                                    ∙ ap (λ w. after c p (starting c p o h w (λ ps g. ending c p (passing o r k) ps (cut c r.end g))) cs) (cut_out c p h x e r.start n)
                                    ∙ rest-ends r k cs at a d x o on h x e z m b (λ b w eb l zb m. rec b w eb l zb (omega arith)) q [] ∙ sym (ap M first)
                              ]
                        ]
                    | inr t ↦
                        step _ (a-past c p o h x r k z (omega (arith, s, v)) t)
                        ∙ ap (λ g. g ∷ []) (held-goes (AddedOrReplaced r k ∷ cs) at a d x o h on e z (omega (arith, s)))
                        ∙ sym (ap M (split-out c p h x e r.start (r.end ∷ ks) (inr t) ∙ split-out c p h x e r.end ks (inr (omega (arith, s, v)))
                        ∙ uncut cs r.end x h on.follows.2 e (omega (arith, s, v))))
                  ]
            ]
        | inr b ↦
            step _ (a-before c p o h x r k (omega (arith, s, v)) b)
            ∙ rec h x e b z total
            ∙ sym (ap M (split-out c p h x e r.start (r.end ∷ ks) (inl (omega (arith, s, v))) ∙ split-out c p h x e r.end ks (inl b)))
      ]
  walked (Deleted l k ∷ cs) at a d o h x on e z i =
      let s = on.follows.0 in
      let rg : range_in c h ≡ Some (range c p o h x) = ap (option_map (span_of h.size)) e in
      let M = map (moved c p whole) in
      let step : (t : Told) → at_deleted c p o l k (Some (range c p o h x)) h ≡ t → walk_of c p o h (Deleted l k ∷ cs) ≡ after c p t cs =
      λ t q. ap (λ r. after c p (at_deleted c p o l k r h) cs) rg ∙ ap (λ v. after c p v cs) q in
      elim (cases_lt l x) [
        | inl b ↦
            step _ (d-before c p o h x l k b) ∙ walked cs at a (d + k) (minus o k) h x (on-deleted l k cs at a d x x o on (omega (arith, s))) e z (omega (arith, i))
            ∙ sym (ap M (split-out c p h x e l (cuts cs) (inl (omega arith))))
        | inr b ↦
            elim (cases_lt l (x + h.size)) [
              | inl q ↦
                  elim (cases_lt x l) [
                    | inl m ↦
                        let g = back (l - x) h in
                        let y : x + (l - x) ≡ l = omega arith in
                        let eg : start_in c g.suspects ≡ Some l = back_start c (l - x) x h e ∙ ap Some y in
                        let f = held-goes (Deleted l k ∷ cs) at a d x o (front (l - x) h) on e (omega arith) (omega (arith, s)) in
                        step _ (d-in c p o h x l k b q) ∙ ap (λ v. after c p (starting c p o h v (λ ps g. told (Some g) None ps (minus o k))) cs) (cut_in c p h x e l m q)
                        ∙ ap (λ w. moves c p o (front (l - x) h) ∷ w)
                        (walked cs at a (d + k) (minus o k) g l (on-deleted l k cs at a d x l o on (omega (arith, s))) eg (omega arith) (omega (arith, i)))
                        ∙ ap (λ w. w ∷ M (split c (cuts cs) g)) f
                        ∙ sym (ap M (split-in c p h x e l (cuts cs) m q))
                    | inr m ↦
                        let n : (l ≤ x) ⊎ (x + h.size ≤ l) = inl m in
                        step _ (d-in c p o h x l k b q) ∙ ap (λ v. after c p (starting c p o h v (λ ps g. told (Some g) None ps (minus o k))) cs) (cut_out c p h x e l n)
                        ∙ walked cs at a (d + k) (minus o k) h x (on-deleted l k cs at a d x x o on (omega (arith, s))) e z (omega (arith, i))
                        ∙ sym (ap M (split-out c p h x e l (cuts cs) n))
                  ]
              | inr q ↦
                  step _ (d-past c p o h x l k z q)
                  ∙ ap (λ g. g ∷ []) (held-goes (Deleted l k ∷ cs) at a d x o h on e z (omega (arith, s)))
                  ∙ sym (ap M (split-out c p h x e l (cuts cs) (inr q) ∙ uncut cs at x h on.follows.2 e (omega (arith, s))))
            ]
      ]

-- a hunk that names c, inside the list's file: the walk from the start of a valid list gives its pieces
pub walk-pieces : (c p : Source) (cs : List Change) (h : Piece) (x : ℕ) → same_source c p ≡ false → Valid cs → start_in c h.suspects ≡ Some x → 0 < h.size
    → x + h.size ≤ new_total cs → walk_of c p (Added 0) h cs ≡ pieces c p cs (h ∷ [])
walk-pieces c p cs h x ne v e z l =
    walked c p ne cs cs 0 0 0 (Added 0) h x
    (record {
      follows = v.follows;
      finds = λ n _. sym (walk-finds cs n v.follows);
      early = omega arith;
      low = omega arith;
      held = λ n _ m. absurd (omega arith);
      stands = omega arith;
      fits = omega (arith, v.old_fits);
    })
    e z (omega arith)
    ∙ sym (pieces-split c p cs h v.follows)
