use Rattle.std.proofs.Common.{◌≡◌, take}
use Rattle.ranges.specs.Spans.{span_of, spans, merged}
use Rattle.ranges.proofs.merging.widen.Given as goal

abbrev pub invariant-loop-row : goal.invariant-loop-row
invariant-loop-row l = span_of l.wide ≡ merged (span_of l.range) (take l.row-index (spans l.rows))
