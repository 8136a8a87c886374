-- The pieces of hunks by a comparison of a commit with its parent. Assumes nothing.
use Rattle.std.specs.Prelude.{List}
use Rattle.hunk.specs.Hunks.{Piece}
use Rattle.pieces.specs.declared.comparison.Comparison.{Comparison}
use Rattle.pieces.specs.Pieces.{pieces}

abbrev pub pieces_by : Comparison → List Piece → List Piece
pieces_by d hs = pieces d.suspect d.parent d.list.changes.now hs
