-- Changes that leave the hunk at hand as it is, and only move the offset. Assumes nothing.
use Rattle.std.specs.Prelude.{◌≡◌, ℕ, ◌+◌, ◌≤◌, List, length, drop, Some}
use Rattle.change.specs.declared.span.Span.{Span}
use Rattle.change.specs.declared.change.Change.{Change}
use Rattle.change.specs.Lists.{Follows}
use Rattle.hunk.specs.declared.source.Source.{Source}
use Rattle.hunk.specs.Hunks.{Piece, range_in}
use Rattle.pieces.specs.declared.offset.Offset.{Offset}
use Rattle.pieces.specs.Offsets.{size_of}
use Rattle.pieces.specs.Steps.{walk_of}
use Rattle.pieces.specs.Walkers.{weights}

-- changes that follow each other from some line on
abbrev pub GoesOn : List Change → Type 0
GoesOn cs = (at : ℕ) × Follows at cs

-- the changes behind some first ones of `left`
abbrev pub Behind : List Change → List Change → Type 0
Behind left rest = (k : ℕ) × (rest ≡ drop k left)

-- of the changes `left` those before `rest` are passed, and the offset is o' in place of o: the walk of a hunk with this range goes on as before
pub record Skipped (range : Span) (left rest : List Change) (o o' : Offset) : Type 0 where
  pub shorter : length rest ≤ length left
  pub behind : Behind left rest
  pub follows : GoesOn rest
  pub lighter : size_of o' + weights rest ≤ size_of o + weights left
  pub same : (c p : Source) (h : Piece) → range_in c h ≡ Some range → walk_of c p o h left ≡ walk_of c p o' h rest

-- the same of the hunk h, by its own range in c
pub record Caught (c : Source) (h : Piece) (left rest : List Change) (o o' : Offset) : Type 0 where
  pub shorter : length rest ≤ length left
  pub behind : Behind left rest
  pub follows : GoesOn rest
  pub lighter : size_of o' + weights rest ≤ size_of o + weights left
  pub same : (p : Source) → walk_of c p o h left ≡ walk_of c p o' h rest
