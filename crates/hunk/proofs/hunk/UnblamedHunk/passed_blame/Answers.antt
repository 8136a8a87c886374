use Rattle.std.proofs.Common.{sym, ◌∙◌}
use Rattle.hunk.proofs.Passes.{some_left}
use Rattle.hunk.proofs.hunk.UnblamedHunk.passed_blame.Goals as goal

pub dropped-requires : goal.dropped-requires
dropped-requires c = some_left c.args.from c.args.to _ (sym c.eq.ensures ∙ c.if-eq.false) (sym c.if-has_suspect.ensures)
