use Rattle.rank.specs.Tables.{items_of}
use Rattle.ranges.specs.Ranges.{ranges_of}
use Rattle.ranges.proofs.More.{rows-parted}
use Rattle.ranges.proofs.Lists.{told-asks}
use Rattle.ranges.proofs.blame_ranges.BlameRanges.add_one_based_inclusive_ranges.Goals as goal

pub returns-else-is_err-clause-lines : goal.returns-else-is_err-clause-lines
returns-else-is_err-clause-lines c =
    let b = c.args.self.now in
    told-asks c.args.list.now (ranges_of b) _ c.add_all-added.result (rows-parted (items_of b.ranges.table) b.ranges.apart) c.add_all-added.ensures.rows
