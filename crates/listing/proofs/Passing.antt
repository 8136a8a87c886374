-- One line on, in the text of recorded lists.
use Rattle.std.proofs.Common.{◌≡◌, ℕ, ◌+◌, ◌<◌, ◌≤◌, true, false, List, [], ◌∷◌, ◌++◌, map, length, sym, refl, ap, ◌∙◌, arith}
use Rattle.std.proofs.lemmas.List.{append_assoc, append-nil, nil_from_length}
use Rattle.change.specs.declared.change.Change.{Change}
use Rattle.listing.specs.Entries.{Passed, entry_at}
use Rattle.text.specs.Cuts.{line_of, rest_of}
use Rattle.text.proofs.Cutting.{lines_cut, rest-shorter}
use Rattle.listing.specs.Listings.{Kind, Entry, heading, blank, recorded, other, kind_of, kinds, changes_in, strays_in, lists_of, outside_of}

pub kinds-cut : (s : List ℕ) → 0 < length s → kinds s ≡ kind_of (line_of s) ∷ kinds (rest_of s)
kinds-cut [] h = absurd (omega arith)
kinds-cut (b ∷ bs) h = ap (map kind_of) (lines_cut b bs)

pub shorter : (s : List ℕ) → 0 < length s → length (rest_of s) < length s
shorter [] h = absurd (omega arith)
shorter (b ∷ bs) h = rest-shorter b bs

-- on the way through the lines of an open list, from line i of the text s to line j of the text t: these are its changes
-- and its strays so far
pub record Inside (xs : List Change) (ys : List ℕ) (i : ℕ) (s : List ℕ) (j : ℕ) (t : List ℕ) : Type 0 where
  pub changes : xs ++ changes_in (kinds t) ≡ changes_in (kinds s)
  pub strays : ys ++ strays_in j (kinds t) ≡ strays_in i (kinds s)
  pub lists : lists_of j (kinds t) ≡ lists_of i (kinds s)
  pub outside : outside_of j true (kinds t) ≡ outside_of i true (kinds s)
  pub counted : j + length t ≤ i + length s
  pub shorter : length t ≤ length s

pub inside : (i : ℕ) (s : List ℕ) → Inside [] [] i s i s
inside i s = record { changes = refl; strays = refl; lists = refl; outside = refl; counted = omega arith; shorter = omega arith }

-- the same lists under other names
pub inside-as : {xs xs' : List Change} {ys ys' : List ℕ} {i : ℕ} {s : List ℕ} {j : ℕ} {t t' : List ℕ} → xs' ≡ xs → ys' ≡ ys → t' ≡ t → Inside xs ys i s j t → Inside xs' ys' i s j t'
inside-as a b c on = rw (a, b, c) on

module _ (xs : List Change) (ys : List ℕ) (i : ℕ) (s : List ℕ) (j : ℕ) (t : List ℕ) (on : Inside xs ys i s j t) where
  -- a change, and a line that is none
  pub inside-change : (c : Change) → 0 < length t → kind_of (line_of t) ≡ recorded c → Inside (xs ++ c ∷ []) ys i s (j + 1) (rest_of t)
  inside-change c h e =
      let k : kinds t ≡ recorded c ∷ kinds (rest_of t) = kinds-cut t h ∙ ap (λ x. x ∷ kinds (rest_of t)) e in
      let z = shorter t h in
      record {
        changes = append_assoc xs (c ∷ []) (changes_in (kinds (rest_of t))) ∙ (rw k at on.changes);
        strays = rw k at on.strays;
        lists = rw k at on.lists;
        outside = rw k at on.outside;
        counted = omega (arith, on.counted);
        shorter = omega (arith, on.shorter);
      }

  pub inside-other : 0 < length t → kind_of (line_of t) ≡ other → Inside xs (ys ++ j ∷ []) i s (j + 1) (rest_of t)
  inside-other h e =
      let k : kinds t ≡ other ∷ kinds (rest_of t) = kinds-cut t h ∙ ap (λ x. x ∷ kinds (rest_of t)) e in
      let z = shorter t h in
      record {
        changes = rw k at on.changes;
        strays = append_assoc ys (j ∷ []) (strays_in (j + 1) (kinds (rest_of t))) ∙ (rw k at on.strays);
        lists = rw k at on.lists;
        outside = rw k at on.outside;
        counted = omega (arith, on.counted);
        shorter = omega (arith, on.shorter);
      }

  -- the end of the list: its changes and strays are all there
  pub record Ended : Type 0 where
    pub changes : xs ≡ changes_in (kinds s)
    pub strays : ys ≡ strays_in i (kinds s)
    pub passed : Passed i s j t

  pub ended_at : (ks : List Kind) → kinds t ≡ ks → changes_in ks ≡ [] → strays_in j ks ≡ [] → outside_of j false ks ≡ outside_of j true ks → Ended
  ended_at ks k a b c =
      record {
        changes = sym (append-nil xs) ∙ ap (λ l. xs ++ l) (sym a) ∙ ap (λ l. xs ++ changes_in l) (sym k) ∙ on.changes;
        strays = sym (append-nil ys) ∙ ap (λ l. ys ++ l) (sym b) ∙ ap (λ l. ys ++ strays_in j l) (sym k) ∙ on.strays;
        passed = record {
          lists = on.lists;
          outside = ap (outside_of j false) k ∙ c ∙ ap (outside_of j true) (sym k) ∙ on.outside;
          counted = on.counted;
          shorter = on.shorter;
        };
      }

  pub ended-text : length t ≡ 0 → Ended
  ended-text h = ended_at [] (ap kinds (nil_from_length t h)) refl refl refl

  pub ended-blank : 0 < length t → kind_of (line_of t) ≡ blank → Ended
  ended-blank h e = ended_at (blank ∷ kinds (rest_of t)) (kinds-cut t h ∙ ap (λ x. x ∷ kinds (rest_of t)) e) refl refl refl

  pub ended-heading : (name : List ℕ) → 0 < length t → kind_of (line_of t) ≡ heading name → Ended
  ended-heading name h e = ended_at (heading name ∷ kinds (rest_of t)) (kinds-cut t h ∙ ap (λ x. x ∷ kinds (rest_of t)) e) refl refl refl

-- an entry by its parts
pub entry-is : (line : ℕ) (name : List ℕ) (xs xs' : List Change) (ys ys' : List ℕ) → xs ≡ xs' → ys ≡ ys'
    → ◌≡◌ {A = Entry} (record { line = line; name = name; changes = xs; strays = ys }) (record { line = line; name = name; changes = xs'; strays = ys' })
entry-is line name xs xs' ys ys' a b = rw (a, b)

-- between lists, at line j of the text t, of the whole text s: the lists and the lines outside so far
pub record Between (es : List Entry) (ys s : List ℕ) (j : ℕ) (t : List ℕ) : Type 0 where
  pub lists : es ++ lists_of j (kinds t) ≡ lists_of 1 (kinds s)
  pub outside : ys ++ outside_of j false (kinds t) ≡ outside_of 1 false (kinds s)
  pub counted : j + length t ≤ 1 + length s

pub between : (s : List ℕ) → Between [] [] s 1 s
between s = record { lists = refl; outside = refl; counted = omega arith }

pub between-as : {es es' : List Entry} {ys ys' s : List ℕ} {j : ℕ} {t t' : List ℕ} → es' ≡ es → ys' ≡ ys → t' ≡ t → Between es ys s j t → Between es' ys' s j t'
between-as a b c on = rw (a, b, c) on

module _ (es : List Entry) (ys s : List ℕ) (j : ℕ) (t : List ℕ) (on : Between es ys s j t) (h : 0 < length t) where
  cut : (k : Kind) → kind_of (line_of t) ≡ k → kinds t ≡ k ∷ kinds (rest_of t)
  cut k e = kinds-cut t h ∙ ap (λ x. x ∷ kinds (rest_of t)) e

  pub between-blank : kind_of (line_of t) ≡ blank → Between es ys s (j + 1) (rest_of t)
  between-blank e =
      let k = cut blank e in
      record { lists = rw k at on.lists; outside = rw k at on.outside; counted = omega (arith, on.counted, shorter t h) }

  -- a line that belongs to no list
  pub between-stray : (x : Kind) → lists_of j (x ∷ kinds (rest_of t)) ≡ lists_of (j + 1) (kinds (rest_of t))
      → outside_of j false (x ∷ kinds (rest_of t)) ≡ j ∷ outside_of (j + 1) false (kinds (rest_of t)) → kind_of (line_of t) ≡ x
      → Between es (ys ++ j ∷ []) s (j + 1) (rest_of t)
  between-stray x a b e =
      let k = cut x e in
      record {
        lists = ap (λ l. es ++ l) (sym a) ∙ (rw k at on.lists);
        outside = append_assoc ys (j ∷ []) (outside_of (j + 1) false (kinds (rest_of t))) ∙ ap (λ l. ys ++ l) (sym b) ∙ (rw k at on.outside);
        counted = omega (arith, on.counted, shorter t h);
      }

  pub between-list : (name : List ℕ) (i : ℕ) (u : List ℕ) → kind_of (line_of t) ≡ heading name → Passed (j + 1) (rest_of t) i u
      → Between (es ++ entry_at j name (j + 1) (kinds (rest_of t)) ∷ []) ys s i u
  between-list name i u e p =
      let k = cut (heading name) e in
      record {
        lists = append_assoc es (entry_at j name (j + 1) (kinds (rest_of t)) ∷ []) (lists_of i (kinds u))
            ∙ ap (λ l. es ++ entry_at j name (j + 1) (kinds (rest_of t)) ∷ l) p.lists ∙ (rw k at on.lists);
        outside = ap (λ l. ys ++ l) p.outside ∙ (rw k at on.outside);
        counted = omega (arith, on.counted, p.counted, shorter t h);
      }
