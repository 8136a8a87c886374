-- A hunk left whole or cut in two, as pieces. Assumes nothing.
use Rattle.std.specs.Prelude.{List, [], ◌∷◌}
use Rattle.either.specs.declared.Either.{Either}
use Rattle.either.specs.declared.Either.TheVariants.{Left, Right}
use Rattle.hunk.specs.declared.hunk.UnblamedHunk.{UnblamedHunk}
use Rattle.hunk.specs.Hunks.{Piece}
use Rattle.hunk.specs.Rows.{piece_of}

abbrev pub parts_of : Either UnblamedHunk (UnblamedHunk × UnblamedHunk) → List Piece
parts_of (Left h) = piece_of h ∷ []
parts_of (Right (a, b)) = piece_of a ∷ piece_of b ∷ []
