use Rattle.std.proofs.Common.{◌≡◌, true, [], ◌∷◌, rules}
use Rattle.std.proofs.lemmas.List.{take_rest}
use Rattle.compare.specs.Tokens.{begins}
use Rattle.compare.proofs.token.mark.Goals as goal

pub returns-in-32 : goal.returns-in-32
returns-in-32 c =
    let s = c.args.text.now in
    let b : begins (32 ∷ c.args.byte ∷ []) s ≡ true = search rules in
    rw (b, take_rest s 2)
