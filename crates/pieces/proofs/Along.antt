-- Searches along the rows of a table, one row on.
use Rattle.std.proofs.Common.{◌≡◌, ℕ, ◌+◌, ◌<◌, ◌≤◌, List, [], ◌∷◌, map, length, get_or, drop, Option, sym, ap, ◌∙◌}
use Rattle.std.proofs.lemmas.List.{at_drop_more, at_drop_all}
use Rattle.hunk.specs.Hunks.{Piece}

-- a function of the rows that are left, one row on; r is the row, which reads as v
pub at_row : {R Y : Type 0} (reads : R → Option Piece) (F : List (Option Piece) → Y) (rows : List R) (i : ℕ) (r : R) (v : Option Piece)
    → i < length rows → r ≡ get_or rows i r → v ≡ reads r → F (map reads (drop i rows)) ≡ F (v ∷ map reads (drop (i + 1) rows))
at_row reads F rows i r v l e f =
    at_drop_more (λ q. F (map reads q)) rows i r l ∙ ap (λ x. F (x ∷ map reads (drop (i + 1) rows))) (ap reads (sym e) ∙ sym f)

pub at-end : {R Y : Type 0} (reads : R → Option Piece) (F : List (Option Piece) → Y) (rows : List R) (i : ℕ) → length rows ≤ i → F (map reads (drop i rows)) ≡ F []
at-end reads F rows i l = at_drop_all (λ q. F (map reads q)) rows i l
