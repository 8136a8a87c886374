use Rattle.std.proofs.Common.{◌≡◌, true, codes, ◌∙◌, rules}
use Rattle.std.proofs.lemmas.List.{take_rest}
use Rattle.compare.specs.Tokens.{begins}
use Rattle.compare.proofs.token.next.Goals as goal

pub returns-in-32 : goal.returns-in-32
returns-in-32 c =
    let s = c.args.text.now in
    let b : begins (codes " ") s ≡ true = search rules in
    c.plain.ensures ∙ (rw (b, take_rest s 1))
