use Rattle.rank.specs.Tables.{items_of}
use Rattle.ranges.specs.Ranges.{ranges_of}
use Rattle.ranges.proofs.More.{rows-parted, add-asks}
use Rattle.ranges.proofs.blame_ranges.BlameRanges.add_one_based_inclusive_range.Goals as goal

pub returns-clause-lines : goal.returns-clause-lines
returns-clause-lines c =
    let b = c.args.self.now in
    add-asks (ranges_of b) c.args.lines.first c.args.lines.last c.add.result _ (rows-parted (items_of b.ranges.table) b.ranges.apart) c.add.ensures.answer c.add.ensures.rows
