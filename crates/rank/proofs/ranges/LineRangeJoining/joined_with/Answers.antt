use Rattle.std.proofs.Common.{sym}
use Rattle.rank.proofs.Made.{made-spanning}
use Rattle.rank.proofs.ranges.LineRangeJoining.joined_with.Goals as goal

pub returns-then-joins_with : goal.returns-then-joins_with
returns-then-joins_with c =
    made-spanning c.args.self.now c.args.other.now c.start.result c.end.result c.new.result (sym c.if-joins_with.ensures) c.start.ensures c.end.ensures c.new.ensures
