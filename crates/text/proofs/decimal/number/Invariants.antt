use Rattle.std.proofs.Common.{◌≡◌, ◌+◌, ◌≤◌, length}
use Rattle.text.specs.Decimal.{front, back, value}
use Rattle.text.proofs.decimal.number.Given as goal

abbrev pub invariant-loop-left : goal.invariant-loop-left
invariant-loop-left l =
    (value l.value (front l.left) ≡ value 0 (front l.text)) × (back l.left ≡ back l.text)
    × (length l.left + length (front l.text) ≡ length l.text + length (front l.left)) × (l.value ≤ l.most)

abbrev pub decreases-loop-left : goal.decreases-loop-left
decreases-loop-left l = length l.left
