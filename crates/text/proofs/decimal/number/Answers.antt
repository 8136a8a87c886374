use Rattle.std.proofs.Common.{sym, ◌∙◌, arith}
use Rattle.text.proofs.Digits.{passed}
use Rattle.text.proofs.decimal.number.Goals as goal

pub returns-then-value-from : goal.returns-then-value-from
returns-then-value-from c =
    sym (passed c.args.most c.loop-left.value c.loop-left.left.now c.args.text.now c.in-len1-up.len_at_least
    (sym c.is_ascii_digit.ensures.value ∙ c.if-not-is_ascii_digit.false) c.loop-left.invariant.0
    (omega (arith, c.if-value-from.true, c.from.ensures, c.from-in-len1-up.ensures)))
