-- Rows that can be read as hunks.
use Rattle.std.proofs.Common.{◌≡◌, true, false, map, Some, None, Option, sym, refl, ap, ◌∙◌, inl, inr}
use Rattle.std.proofs.lemmas.Bool.{cases_Bool}
use Rattle.change.specs.declared.span.Span.{Span}
use Rattle.hunk.specs.declared.source.Source.{Source}
use Rattle.hunk.specs.declared.row.HunkRow.{HunkRow}
use Rattle.hunk.specs.Hunks.{Piece, has, rename, with_suspects, passed, span_of}
use Rattle.hunk.specs.Rows.{is_hunk, read_row, row_piece, row_of}
use Rattle.pieces.specs.Tables.{Renames}
use Rattle.pieces.proofs.Answering.{row_back}

pub reads-row : (r : HunkRow) (h : Piece) → read_row r ≡ Some h → (is_hunk r ≡ true) × (row_piece r ≡ h)
reads-row r h e =
    elim (cases_Bool (is_hunk r)) [
      | inl b ↦ let z : Some (row_piece r) ≡ Some h = rw b at e in let w : row_piece r ≡ h = cc in (b, w)
      | inr b ↦ let z : None ≡ Some h = rw b at e in absurd cc
    ]

pub renamed-row : (r s : HunkRow) (h : Piece) (c p : Source) (x : Span) → read_row r ≡ Some h → Renames c p x h
    → (is_hunk r ≡ true → x ≡ span_of (row_piece r).size x.start → s ≡ row_of (with_suspects (row_piece r) (map (rename c p x.start) (row_piece r).suspects)))
    → (row_piece s ≡ passed c p x.start h) × (s ≡ row_of (row_piece s))
renamed-row r s h c p x e k q =
    let b = reads-row r h e in
    let to = with_suspects (row_piece r) (map (rename c p x.start) (row_piece r).suspects) in
    let level : x ≡ span_of (row_piece r).size x.start = k.level ∙ ap (λ (v : Piece). span_of v.size x.start) (sym b.1) in
    let row : s ≡ row_of to = q b.0 level in
    let back : row_piece s ≡ to = ap row_piece row ∙ row_back to in
    let new : passed c p x.start h ≡ with_suspects h (map (rename c p x.start) h.suspects) = let t = k.new in rw t in
    (back ∙ ap (λ (v : Piece). with_suspects v (map (rename c p x.start) v.suspects)) b.1 ∙ sym new, row ∙ sym (ap row_of back))

-- what is read, or not
pub not-read : {A : Type 0} (o : Option A) → has o ≡ false → o ≡ None
not-read None e = refl
not-read (Some x) e = cc

pub read_as : {A : Type 0} (o : Option A) → has o ≡ true → (x : A) × (o ≡ Some x)
read_as None e = absurd cc
read_as (Some x) e = (x, refl)
