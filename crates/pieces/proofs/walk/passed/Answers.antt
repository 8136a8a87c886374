use Rattle.std.proofs.Common.{◌≡◌, ℕ, Some, None, Option, unwrap_or, sym, refl, ap, ◌∙◌, rules}
use Rattle.std.specs.Option.{option_map, option_and_then}
use Rattle.change.specs.declared.span.Span.{Span}
use Rattle.hunk.specs.declared.hunk.UnblamedHunk.{UnblamedHunk}
use Rattle.hunk.specs.Rows.{piece_of, passed_of}
use Rattle.pieces.specs.Offsets.{shifted}
use Rattle.pieces.proofs.Shifts.{moves-by_chain}
use Rattle.pieces.proofs.walk.passed.Goals as goal

piece-or : (v : Option UnblamedHunk) (h : UnblamedHunk) → piece_of (unwrap_or v h) ≡ unwrap_or (option_map piece_of v) (piece_of h)
piece-or None h = refl
piece-or (Some g) h = refl

pub returns : goal.returns
returns c =
    let h = piece_of c.args.hunk in
    let to = λ (y : ℕ). passed_of c.args.suspect c.args.parent y h in
    let start = λ (r : Span). shifted c.args.offset r.start in
    let a : c.and_then.result ≡ option_and_then start c.get_range.result = search rules in
    let b : option_map piece_of c.and_then-2.result ≡ option_and_then to c.and_then.result = search rules in
    ap piece_of c.unwrap_or.ensures ∙ piece-or c.and_then-2.result c.args.hunk
    ∙ ap (λ v. unwrap_or v h) (b ∙ ap (option_and_then to) (a ∙ ap (option_and_then start) c.get_range.ensures.is)) ∙ sym (moves-by_chain c.args.suspect c.args.parent c.args.offset h)
