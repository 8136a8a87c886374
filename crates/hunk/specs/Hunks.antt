-- Hunks as they are meant: a start in the asked file, a number of lines, and suspects, each with the start of its range.
-- All ranges of a hunk have its number of lines. Assumes nothing.
use Rattle.std.specs.Prelude.{ℕ, ◌+◌, ◌-◌, Bool, true, false, cond, not, ◌&&◌, List, [], ◌∷◌, map, Some, None, filter, Option, ◌==◌, nat_lt}
use Rattle.std.specs.Option.{option_map}
use Rattle.change.specs.declared.span.Span.{Span}
use Rattle.hunk.specs.declared.source.Source.{Source}
use Rattle.hunk.specs.declared.suspect.Suspect.{Suspect}

pub record Named : Type 0 where
  pub source : Source
  pub start : ℕ

pub record Piece : Type 0 where
  pub asked : ℕ
  pub size : ℕ
  pub suspects : List Named

abbrev pub same_source : Source → Source → Bool
same_source a b = a.commit == b.commit

-- where the hunk begins in c, if it names c
abbrev pub start_in : Source → List Named → Option ℕ
start_in c [] = None
start_in c (s ∷ ss) = cond (same_source s.source c) (Some s.start) (start_in c ss)

abbrev pub has : {A : Type 0} → Option A → Bool
has None = false
has (Some a) = true

abbrev pub names : Source → Piece → Bool
names c h = has (start_in c h.suspects)

-- the range of the hunk in c, if it names c
abbrev pub span_of : ℕ → ℕ → Span
span_of size x = record { start = x; end = x + size }

abbrev pub range_in : Source → Piece → Option Span
range_in c h = option_map (span_of h.size) (start_in c h.suspects)

abbrev pub with_suspects : Piece → List Named → Piece
with_suspects h ss = record { asked = h.asked; size = h.size; suspects = ss }

-- the hunk without c
abbrev pub isnt : Source → Named → Bool
isnt c s = not (same_source s.source c)

abbrev pub without : Source → Piece → Piece
without c h = with_suspects h (filter (isnt c) h.suspects)

-- c renamed to p, whose range begins at y
abbrev pub rename : Source → Source → ℕ → Named → Named
rename c p y s = cond (same_source s.source c) (record { source = p; start = y }) s

-- the hunk with p in place of c; where it names p already, that range stays and c is only dropped
abbrev pub passed : Source → Source → ℕ → Piece → Piece
passed c p y h = cond (names p h) (without c h) (with_suspects h (map (rename c p y) h.suspects))

-- the first k lines, and the lines behind them
abbrev pub front : ℕ → Piece → Piece
front k h = record { asked = h.asked; size = k; suspects = h.suspects }

abbrev pub later : ℕ → Named → Named
later k s = record { source = s.source; start = s.start + k }

abbrev pub back : ℕ → Piece → Piece
back k h = record { asked = h.asked + k; size = h.size - k; suspects = map (later k) h.suspects }

abbrev pub on_some : {A B : Type 0} → Option A → B → (A → B) → B
on_some None b f = b
on_some (Some a) b f = f a

-- the hunk cut at line k of c, whose range begins at x, if that is strictly inside
abbrev pub cut_at : ℕ → Piece → ℕ → List Piece
cut_at k h x = cond (nat_lt x k && nat_lt k (x + h.size)) (front (k - x) h ∷ back (k - x) h ∷ []) (h ∷ [])

abbrev pub cut : Source → ℕ → Piece → List Piece
cut c k h = on_some (start_in c h.suspects) (h ∷ []) (cut_at k h)

-- a suspect by its start
abbrev pub named : Suspect → Named
named s = record { source = s.source; start = s.range.start }
