use Rattle.std.proofs.Common.{◌≡◌, length}
use Rattle.compare.proofs.judge.same_rows.Given as goal

abbrev pub invariant-loop-row : goal.invariant-loop-row
invariant-loop-row l =
    (l.row-iterator.a.rest.now ≡ l.row-iterator.b.rest.now → l.these ≡ l.those) × (l.these ≡ l.those → l.row-iterator.a.rest.now ≡ l.row-iterator.b.rest.now)
    × (length l.row-iterator.a.rest.now ≡ length l.row-iterator.b.rest.now)
