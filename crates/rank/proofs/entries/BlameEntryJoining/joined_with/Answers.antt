use Rattle.std.proofs.Common.{◌+◌, sym, arith}
use Rattle.rank.proofs.Made.{made-lengthened}
use Rattle.rank.proofs.entries.BlameEntryJoining.joined_with.Goals as goal

pub returns-then-joins_with : goal.returns-then-joins_with
returns-then-joins_with c =
    made-lengthened c.args.self.now c.args.other.now (c.len.result + c.len-then-joins_with.result) c.new.result (sym c.if-joins_with.ensures) (omega arith) c.new.ensures
