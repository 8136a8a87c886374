use Rattle.std.proofs.Common.{◌≡◌, ◌≤◌, take}
use Rattle.ranges.specs.Clips.{cut_all}
use Rattle.ranges.specs.Rows.{laid}
use Rattle.ranges.specs.Spans.{spans}
use Rattle.ranges.proofs.clipping.cut.Given as goal

abbrev pub invariant-loop-row : goal.invariant-loop-row
invariant-loop-row l = (l.out ≡ laid (cut_all l.max_lines (take l.row-index (spans l.row-items)))) × (l.out.count ≤ l.row-index)
