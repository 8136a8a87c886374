-- A hunk cut in two: its suspects, and the pieces that they are.
use Rattle.std.proofs.Common.{◌≡◌, ℕ, ◌+◌, ◌<◌, ◌≤◌, List, [], ◌∷◌, map, length, get_or, take, sym, refl, ap, ◌∙◌, arith}
use Rattle.std.proofs.lemmas.List.{get_or-take, get_or-map, length-take-le}
use Rattle.change.specs.declared.span.Span.{Span}
use Rattle.hunk.specs.declared.suspect.Suspect.{Suspect}
use Rattle.hunk.specs.Hunks.{Named, Piece, named, later, span_of}
use Rattle.hunk.specs.Sound.{blank, Level, Within, Apart}

-- the first k lines of a suspect's range, and the lines behind them
abbrev pub fronts : ℕ → Suspect → Suspect
fronts k s = record { source = s.source; range = record { start = s.range.start; end = s.range.start + k } }

abbrev pub backs : ℕ → Suspect → Suspect
backs k s = record { source = s.source; range = record { start = s.range.start + k; end = s.range.end } }

-- a suspect of what was mapped
pub mapped_at : (f : Suspect → Suspect) (xs ys : List Suspect) (n : ℕ) → n ≤ length ys
    → take n xs ≡ map f (take n ys) → (i : ℕ) → i < n → get_or xs i blank ≡ f (get_or ys i blank)
mapped_at f xs ys n hn e i h =
    let l : i < length (take n ys) = rw (length-take-le n ys hn) h in
    sym (get_or-take n xs i blank h) ∙ ap (λ l. get_or l i blank) e ∙ get_or-map f (take n ys) i blank blank l ∙ ap f (get_or-take n ys i blank h)

-- what the halves owe: xs are the first n of ss, each cut
pub front-level : (r : Span) (xs ss : List Suspect) (n k : ℕ) → ((i : ℕ) → i < n → get_or xs i blank ≡ fronts k (get_or ss i blank))
    → Level (span_of k r.start) xs n
front-level r xs ss n k at i h = rw (at i h) (omega arith)

pub front-within : (r : Span) (xs ss : List Suspect) (n k : ℕ) → ((i : ℕ) → i < n → get_or xs i blank ≡ fronts k (get_or ss i blank))
    → r.start + k < r.end → Level r ss n → Within ss n → Within xs n
front-within r xs ss n k at hk lv wi i h = rw (at i h) (omega (arith, lv i h, wi i h))

pub back_level : (r : Span) (xs ss : List Suspect) (n k : ℕ) → ((i : ℕ) → i < n → get_or xs i blank ≡ backs k (get_or ss i blank))
    → Level r ss n → Level (record { start = r.start + k; end = r.end }) xs n
back_level r xs ss n k at lv i h = rw (at i h) (omega (arith, lv i h))

pub back-within : (xs ss : List Suspect) (n k : ℕ) → ((i : ℕ) → i < n → get_or xs i blank ≡ backs k (get_or ss i blank))
    → Within ss n → Within xs n
back-within xs ss n k at wi i h = rw (at i h) (wi i h)

-- a map that keeps each commit keeps them apart
pub same-apart : (f : Suspect → Suspect) → ((s : Suspect) → (f s).source.commit ≡ s.source.commit) → (xs ss : List Suspect) (n : ℕ)
    → ((i : ℕ) → i < n → get_or xs i blank ≡ f (get_or ss i blank)) → Apart ss n → Apart xs n
same-apart f keeps xs ss n at ap' i j h hj e =
    let hi : i < n = omega arith in
    ap' i j h hj (sym (ap (λ s. s.source.commit) (at i hi) ∙ keeps (get_or ss i blank)) ∙ e ∙ ap (λ s. s.source.commit) (at j hj) ∙ keeps (get_or ss j blank))

-- the halves by their starts
pub named-fronts : (k : ℕ) (ss : List Suspect) → map named (map (fronts k) ss) ≡ map named ss
named-fronts k [] = refl
named-fronts k (s ∷ ss) = ap (λ l. named s ∷ l) (named-fronts k ss)

pub named-backs : (k : ℕ) (ss : List Suspect) → map named (map (backs k) ss) ≡ map (later k) (map named ss)
named-backs k [] = refl
named-backs k (s ∷ ss) = ap (λ l. later k (named s) ∷ l) (named-backs k ss)

-- a piece by its parts
pub same-piece : (a s s' : ℕ) (l l' : List Named) → s ≡ s' → l ≡ l'
    → ◌≡◌ {A = Piece} (record { asked = a; size = s; suspects = l }) (record { asked = a; size = s'; suspects = l' })
same-piece a s s' l l' p q =
    ap (λ x. record { asked = a; size = x; suspects = l }) p ∙ ap (λ x. record { asked = a; size = s'; suspects = x }) q
