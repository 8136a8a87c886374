-- The reading of a line from left to right gives exactly the change that the line writes.
use Rattle.std.proofs.Common.{◌≡◌, ℕ, true, ◌&&◌, eqb, ltb, leb, List, [], ◌∷◌, ◌++◌, length, drop, Some, None, codes, Option, sym, refl, ap, ◌∙◌, subst, inl, inr, arith}
use Rattle.std.proofs.lemmas.List.{append-nil}
use Rattle.std.proofs.lemmas.Bool.{cases_Bool, and_parts, false≢true, eqb-true, leb-true, ltb-true, le-leb, lt-ltb}
use Rattle.change.specs.declared.span.Span.{Span}
use Rattle.change.specs.declared.change.Change.{Change}
use Rattle.change.specs.declared.change.Change.TheVariants.{Unchanged, AddedOrReplaced, Deleted}
use Rattle.text.specs.Decimal.{digit, front, back, value, number_of}
use Rattle.listing.specs.Format.{greatest, digits, Number, Writes, Reads}
use Rattle.listing.specs.Parsing.{and_then, begins, skip, whole, span_of, count_of, unchanged_of, added_of, deleted_of, change_of}

none-some : {X Y : Type 0} {x : X} → ◌≡◌ {A = Option X} None (Some x) → Y
none-some e = let z : ◌≡◌ {A = ℕ} 0 1 = cc in absurd (omega arith)

then_some : {X Y : Type 0} (o : Option X) (f : X → Option Y) (y : Y) → and_then o f ≡ Some y → (x : X) × (o ≡ Some x) × (f x ≡ Some y)
then_some None f y e = none-some e
then_some (Some x) f y e = (x, refl, e)

-- digits in front
front-back : (s : List ℕ) → s ≡ front s ++ back s
front-back [] = refl
front-back (b ∷ bs) =
    let more = front-back bs in
    elim (cases_Bool (digit b)) [ inl d ↦ rw d (ap (λ l. b ∷ l) more) | inr d ↦ rw d ]

front-digits : (s : List ℕ) → digits (front s) ≡ true
front-digits [] = refl
front-digits (b ∷ bs) =
    let more = front-digits bs in
    elim (cases_Bool (digit b)) [ inl d ↦ rw (d, d) more | inr d ↦ rw d ]

front-is : (ds rest : List ℕ) → digits ds ≡ true → front rest ≡ [] → front (ds ++ rest) ≡ ds
front-is [] rest h e = e
front-is (b ∷ ds) rest h e = let p = and_parts (digit b) (digits ds) h in let q = p.0 in rw q (ap (λ l. b ∷ l) (front-is ds rest p.1 e))

back_is : (ds rest : List ℕ) → digits ds ≡ true → back rest ≡ rest → back (ds ++ rest) ≡ rest
back_is [] rest h e = e
back_is (b ∷ ds) rest h e = let p = and_parts (digit b) (digits ds) h in let q = p.0 in rw q (back_is ds rest p.1 e)

pub number-sound : (s : List ℕ) (x : ℕ × List ℕ) → number_of greatest s ≡ Some x → (ds : List ℕ) × (s ≡ ds ++ x.1) × Number ds x.0
number-sound s x e =
    elim (cases_Bool (ltb 0 (length (front s)) && leb (value 0 (front s)) greatest)) [
      | inl t ↦
          let p = and_parts (ltb 0 (length (front s))) (leb (value 0 (front s)) greatest) t in
          let i : (value 0 (front s), back s) ≡ x = let q : Some (value 0 (front s), back s) ≡ Some x = rw t at e in cc in
          let v : value 0 (front s) ≡ x.0 = ap (λ y. y.0) i in (
            front s,
            front-back s ∙ ap (λ (y : ℕ × List ℕ). front s ++ y.1) i,
            record { some = ltb-true _ _ p.0; decimal = front-digits s; is = v; fits = omega (arith, v, leb-true _ _ p.1) },
          )
      | inr t ↦ let q : None ≡ Some x = rw t at e in none-some q
    ]

pub number-complete : (ds rest : List ℕ) (v : ℕ) → Number ds v → front rest ≡ [] → back rest ≡ rest → number_of greatest (ds ++ rest) ≡ Some (v, rest)
number-complete ds rest v n f b =
    let x : ltb 0 (length ds) ≡ true = lt-ltb _ _ n.some in
    let y : leb v greatest ≡ true = le-leb _ _ n.fits in
    let z = n.is in
    rw (front-is ds rest n.decimal f, back_is ds rest n.decimal b, x, z, y)

pub begins-sound : (ps s : List ℕ) → begins ps s ≡ true → s ≡ ps ++ drop (length ps) s
begins-sound [] s h = refl
begins-sound (p ∷ ps) [] h = absurd (false≢true h)
begins-sound (p ∷ ps) (x ∷ xs) h =
    let q = and_parts (eqb x p) (begins ps xs) h in
    ap (λ b. b ∷ xs) (eqb-true x p q.0) ∙ ap (λ l. p ∷ l) (begins-sound ps xs q.1)

skip-sound : (ps s r : List ℕ) → skip ps s ≡ Some r → s ≡ ps ++ r
skip-sound ps s r e =
    elim (cases_Bool (begins ps s)) [
      | inl t ↦ let q : Some (drop (length ps) s) ≡ Some r = rw t at e in let i : drop (length ps) s ≡ r = cc in begins-sound ps s t ∙ ap (λ l. ps ++ l) i
      | inr t ↦ let q : None ≡ Some r = rw t at e in none-some q
    ]

whole-sound : {X : Type 0} (x y : X) (s : List ℕ) → whole x s ≡ Some y → (s ≡ []) × (x ≡ y)
whole-sound x y [] e = (refl, cc)
whole-sound x y (b ∷ bs) e = none-some e

span-sound : (s : List ℕ) (x : Span × List ℕ) → span_of s ≡ Some x
    → (a : List ℕ) × (b : List ℕ) × (s ≡ a ++ (codes ".." ++ (b ++ x.1))) × Number a x.0.start × Number b x.0.end
span-sound s x e =
    let p = then_some (number_of greatest s) _ x e in
    let q = then_some (skip (codes "..") p.0.1) _ x p.2 in
    let r = then_some (number_of greatest q.0) _ x q.2 in
    let a = number-sound s p.0 p.1 in
    let b = number-sound q.0 r.0 r.1 in
    let i : (record { start = p.0.0; end = r.0.0 }, r.0.1) ≡ x = let z = r.2 in cc in
    let place : s ≡ a.0 ++ (codes ".." ++ (b.0 ++ r.0.1)) =
    a.1 ∙ ap (λ l. a.0 ++ l) (skip-sound (codes "..") p.0.1 q.0 q.1 ∙ ap (λ l. codes ".." ++ l) b.1) in
    subst (λ (y : Span × List ℕ). (a : List ℕ) × (b : List ℕ) × (s ≡ a ++ (codes ".." ++ (b ++ y.1))) × Number a y.0.start × Number b y.0.end)
    i (a.0, b.0, place, a.2, b.2)

count-sound : (s : List ℕ) (n : ℕ) → count_of s ≡ Some n → (d : List ℕ) × (s ≡ codes "/" ++ d) × Number d n
count-sound s n e =
    let p = then_some (skip (codes "/") s) _ n e in
    let q = then_some (number_of greatest p.0) _ n p.2 in
    let d = number-sound p.0 q.0 q.1 in
    let w = whole-sound q.0.0 n q.0.1 q.2 in (
      d.0,
      skip-sound (codes "/") s p.0 p.1 ∙ ap (λ l. codes "/" ++ l) (d.1 ∙ ap (λ l. d.0 ++ l) w.0 ∙ append-nil d.0),
      subst (Number d.0) w.1 d.2,
    )

-- what is read is written
unchanged-sound : (line : List ℕ) (c : Change) → line ≡ codes "U " ++ drop 2 line → unchanged_of (drop 2 line) ≡ Some c → Writes line c
unchanged-sound line c h e =
    let p = then_some (span_of (drop 2 line)) _ c e in
    let w = whole-sound (Unchanged p.0.0) c p.0.1 p.2 in
    let r = span-sound (drop 2 line) p.0 p.1 in
    subst (Writes line) w.1
    (r.0, r.1, h ∙ ap (λ l. codes "U " ++ l) (r.2 ∙ ap (λ l. r.0 ++ (codes ".." ++ l)) (ap (λ l. r.1 ++ l) w.0 ∙ append-nil r.1)), r.3, r.4)

added-sound : (line : List ℕ) (c : Change) → line ≡ codes "A " ++ drop 2 line → added_of (drop 2 line) ≡ Some c → Writes line c
added-sound line c h e =
    let p = then_some (span_of (drop 2 line)) _ c e in
    let q = then_some (count_of p.0.1) _ c p.2 in
    let i : AddedOrReplaced p.0.0 q.0 ≡ c = let z = q.2 in cc in
    let r = span-sound (drop 2 line) p.0 p.1 in
    let n = count-sound p.0.1 q.0 q.1 in
    subst (Writes line) i
    (r.0, r.1, n.0, h ∙ ap (λ l. codes "A " ++ l) (r.2 ∙ ap (λ l. r.0 ++ (codes ".." ++ (r.1 ++ l))) n.1), r.3, r.4, n.2)

deleted-sound : (line : List ℕ) (c : Change) → line ≡ codes "D " ++ drop 2 line → deleted_of (drop 2 line) ≡ Some c → Writes line c
deleted-sound line c h e =
    let p = then_some (number_of greatest (drop 2 line)) _ c e in
    let q = then_some (count_of p.0.1) _ c p.2 in
    let i : Deleted p.0.0 q.0 ≡ c = let z = q.2 in cc in
    let a = number-sound (drop 2 line) p.0 p.1 in
    let n = count-sound p.0.1 q.0 q.1 in
    subst (Writes line) i
    (a.0, n.0, h ∙ ap (λ l. codes "D " ++ l) (a.1 ∙ ap (λ l. a.0 ++ l) n.1), a.2, n.2)

reads-written : (line : List ℕ) (c : Change) → change_of line ≡ Some c → Writes line c
reads-written line c e =
    elim (cases_Bool (begins (codes "U ") line)) [
      | inl u ↦ unchanged-sound line c (begins-sound (codes "U ") line u) (rw u at e)
      | inr u ↦
          elim (cases_Bool (begins (codes "A ") line)) [
            | inl a ↦ added-sound line c (begins-sound (codes "A ") line a) (rw (u, a) at e)
            | inr a ↦
                elim (cases_Bool (begins (codes "D ") line)) [
                  | inl d ↦ deleted-sound line c (begins-sound (codes "D ") line d) (rw (u, a, d) at e)
                  | inr d ↦ let z : None ≡ Some c = rw (u, a, d) at e in none-some z
                ]
          ]
    ]

-- what is written is read
span-complete : (a b rest : List ℕ) (s e : ℕ) → Number a s → Number b e → front rest ≡ [] → back rest ≡ rest
    → span_of (a ++ (codes ".." ++ (b ++ rest))) ≡ Some (record { start = s; end = e }, rest)
span-complete a b rest s e m n f g =
    rw (number-complete a (codes ".." ++ (b ++ rest)) s m refl refl, number-complete b rest e n f g)

count-complete : (d : List ℕ) (n : ℕ) → Number d n → count_of (codes "/" ++ d) ≡ Some n
count-complete d n m =
    let z : number_of greatest d ≡ Some (n, []) = ap (number_of greatest) (sym (append-nil d)) ∙ number-complete d [] n m refl refl in rw z

written-reads : (line : List ℕ) (c : Change) → Writes line c → change_of line ≡ Some c
written-reads line (Unchanged r) w =
    let z : span_of (w.0 ++ (codes ".." ++ w.1)) ≡ Some (r, []) =
    ap (λ l. span_of (w.0 ++ (codes ".." ++ l))) (sym (append-nil w.1)) ∙ span-complete w.0 w.1 [] r.start r.end w.3 w.4 refl refl in
    ap change_of w.2 ∙ (rw z)
written-reads line (AddedOrReplaced r k) w =
    let z = span-complete w.0 w.1 (codes "/" ++ w.2) r.start r.end w.4 w.5 refl refl in
    ap change_of w.3 ∙ (rw (z, count-complete w.2 k w.6))
written-reads line (Deleted l k) w =
    let z = number-complete w.0 (codes "/" ++ w.1) l w.3 refl refl in
    ap change_of w.2 ∙ (rw (z, count-complete w.1 k w.4))

pub change-reads : (line : List ℕ) → Reads line (change_of line)
change-reads line c = (reads-written line c, written-reads line c)
