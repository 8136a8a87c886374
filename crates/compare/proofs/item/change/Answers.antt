use Rattle.std.proofs.Common.{◌≡◌, true, false, codes, ◌∙◌, rules}
use Rattle.std.proofs.lemmas.List.{take_rest}
use Rattle.compare.specs.Tokens.{begins}
use Rattle.compare.proofs.item.change.Goals as goal

pub returns-in-32 : goal.returns-in-32
returns-in-32 c =
    let s = c.args.text.now in
    let b : begins (codes " U") s ≡ true = search rules in
    c.unchanged.ensures ∙ (rw (b, take_rest s 2))

pub returns-in-32-2 : goal.returns-in-32-2
returns-in-32-2 c =
    let s = c.args.text.now in
    let a : begins (codes " U") s ≡ false = search rules in
    let b : begins (codes " A") s ≡ true = search rules in
    c.added.ensures ∙ (rw (a, b, take_rest s 2))

pub returns-in-32-3 : goal.returns-in-32-3
returns-in-32-3 c =
    let s = c.args.text.now in
    let a : begins (codes " U") s ≡ false = search rules in
    let b : begins (codes " A") s ≡ false = search rules in
    let d : begins (codes " D") s ≡ true = search rules in
    c.deleted.ensures ∙ (rw (a, b, d, take_rest s 2))
