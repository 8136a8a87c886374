use Rattle.std.proofs.Common.{rules, arith}
use Rattle.hunk.proofs.Rowwise.{told_range, told_within}
use Rattle.hunk.proofs.hunk.UnblamedHunk.get_range.Goals as goal

pub returns-clause-within : goal.returns-clause-within
returns-clause-within c =
    let h = c.args.self.now in
    told_within h c.args.source (omega arith) _ (search (rules, told_range h c.args.source (omega arith)))
