-- Tables that pieces are written to, row after row from the first; the rows behind them stay. Assumes nothing.
use Rattle.std.specs.Prelude.{◌≡◌, ◌+◌, ◌≤◌, true, false, List, map, length, take, drop}
use Rattle.std.specs.List.{AllByRecursion}
use Rattle.change.specs.declared.span.Span.{Span}
use Rattle.change.specs.Lists.{limit}
use Rattle.hunk.specs.declared.source.Source.{Source}
use Rattle.hunk.specs.Hunks.{Piece, same_source, names, span_of}

-- the table `out`, which was `entry`, has the pieces in its first rows, each written exactly, and is as it was behind them
pub record Filled {R : Type 0} (means : R → Piece) (exact : R → Type 0) (entry : List R) (ps : List Piece) (out : List R) : Type 0 where
  pub pieces : map means (take (length ps) out) ≡ ps
  pub exacts : AllByRecursion exact (take (length ps) out)
  pub rest : drop (length ps) out ≡ drop (length ps) entry
  pub long : length out ≡ length entry

-- p, which h does not name yet, may stand in the place of c, at the range x
pub record Renames (c p : Source) (x : Span) (h : Piece) : Type 0 where
  pub named : names c h ≡ true
  pub new : names p h ≡ false
  pub differ : same_source c p ≡ false
  pub level : x ≡ span_of h.size x.start
  pub fits : x.start + h.size ≤ limit
