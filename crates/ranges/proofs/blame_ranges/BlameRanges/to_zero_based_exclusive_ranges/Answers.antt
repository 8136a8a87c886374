use Rattle.std.proofs.Common.{sym, ap, ◌∙◌}
use Rattle.rank.specs.Tables.{items_of}
use Rattle.ranges.specs.Rows.{laid}
use Rattle.ranges.specs.Ranges.{ranges_of}
use Rattle.ranges.proofs.Cuts.{clip-whole, clip-some, told}
use Rattle.ranges.proofs.More.{rows-parted}
use Rattle.ranges.proofs.blame_ranges.BlameRanges.to_zero_based_exclusive_ranges.Goals as goal

pub returns-then-is_whole_file : goal.returns-then-is_whole_file
returns-then-is_whole_file c =
    let n = c.args.max_lines in
    let b = c.args.self.now in
    let t = told n (ranges_of b) _ (rows-parted (items_of b.ranges.table) b.ranges.apart)
    (c.all_lines.ensures ∙ sym (ap laid (clip-whole n (ranges_of b) c.if-is_whole_file.ensures))) in
    record { is = t.is; lines = t.lines; within = t.inside }

pub returns-else-is_whole_file : goal.returns-else-is_whole_file
returns-else-is_whole_file c =
    let n = c.args.max_lines in
    let b = c.args.self.now in
    let t = told n (ranges_of b) _ (rows-parted (items_of b.ranges.table) b.ranges.apart)
    (c.cut.ensures ∙ sym (ap laid (clip-some n (ranges_of b) c.if-is_whole_file.ensures))) in
    record { is = t.is; lines = t.lines; within = t.inside }
