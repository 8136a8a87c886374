use Rattle.std.proofs.Common.{rules, ◌≡◌, ◌<◌, length, ◌∷◌, sym, ap, ◌∙◌, arith}
use Rattle.std.proofs.lemmas.Bool.{eqb-false}
use Rattle.text.specs.Cuts.{rest_of, lines_of}
use Rattle.text.proofs.Cutting.{lines-of-some}
use Rattle.text.proofs.lines.LinesIterator.next.Goals as goal
use Rattle.text.proofs.lines.LinesIterator.next.Goals.{After-first_line}

-- the lines left, by the line that is taken
taken : (c : After-first_line) → lines_of c.args.self.now.0.now ≡ c.first_line.result.0.now ∷ lines_of c.first_line.result.1.now
taken c =
    let s = c.args.self.now.0.now in
    let n = eqb-false (length s) 0 (sym c.is_empty.ensures ∙ c.if-is_empty.false) in
    lines-of-some s (omega (arith, n))
    ∙ ap (λ l. l ∷ lines_of (rest_of s)) (sym c.first_line.ensures.line)
    ∙ ap (λ r. c.first_line.result.0.now ∷ lines_of r) (sym c.first_line.ensures.rest)

pub returns-clause-steps : goal.returns-clause-steps
returns-clause-steps c = taken (goal.at.returns-clause-steps c).After-first_line

pub returns-clause-goes : goal.returns-clause-goes
returns-clause-goes c =
    let fewer : length (lines_of c.first_line.result.1.now) < length (lines_of c.args.self.now.0.now) =
    omega (arith, ap length (taken (goal.at.returns-clause-goes c).After-first_line)) in
    search rules
