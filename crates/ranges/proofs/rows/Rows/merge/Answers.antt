use Rattle.std.proofs.Common.{◌≡◌, sym, ap, ◌∙◌, subst, rules, arith}
use Rattle.rank.specs.Tables.{items_of}
use Rattle.ranges.specs.Spans.{span_of, spans, merged}
use Rattle.ranges.specs.Adds.{merge_of, then_of}
use Rattle.ranges.specs.Ranges.{rows_of}
use Rattle.ranges.proofs.Parts.{Parted, apart_of}
use Rattle.ranges.proofs.More.{rows-parted, merge-parted}
use Rattle.ranges.proofs.Inserts.{merged-answer, merged-rows}
use Rattle.ranges.proofs.rows.Rows.merge.Goals as goal
use Rattle.ranges.proofs.rows.Rows.merge.Goals.{After-insert}

module _ (c : After-insert) where
  -- the table without the rows that the range touches
  limit : c.drop_touched.new.table.limit ≡ 64
  limit = c.drop_touched.ensures.limit ∙ c.args.self.now.limit

  rows : spans (items_of c.insert.new.table) ≡ then_of (rows_of c.args.self.now) (merge_of (span_of c.args.range) (rows_of c.args.self.now))
  rows =
      merged-rows (span_of c.args.range) (items_of c.args.self.now.table) _ (items_of c.insert.new.table) _ c.widen-wide.result limit c.drop_touched.ensures.items
      (c.widen-wide.ensures ∙ ap (λ l. merged (span_of c.args.range) (spans l)) c.as_slice.ensures.is) (omega (arith, c.args.self.now.table.few, c.args.self.now.limit))
      c.insert.ensures.items

pub invariant_of-self : goal.invariant_of-self
invariant_of-self c = record {
  limit = c.insert.ensures.limit ∙ limit c;
  apart = apart_of _ (subst Parted (sym (rows c)) (merge-parted (span_of c.args.range) (rows_of c.args.self.now) c.args.range.lines
      (rows-parted (items_of c.args.self.now.table) c.args.self.now.apart)));
}

pub returns-clause-answer : goal.returns-clause-answer
returns-clause-answer c =
    merged-answer (span_of c.args.range) (items_of c.args.self.now.table) _ (items_of c.insert.new.table) _ c.widen-wide.result
    (limit (goal.at.returns-clause-answer c).After-insert) c.drop_touched.ensures.items _ c.map_err.result
    (λ f h. search rules) (rw c.insert.ensures.answer at c.map_err.ensures.cases)

pub returns-clause-rows : goal.returns-clause-rows
returns-clause-rows c = rows (goal.at.returns-clause-rows c).After-insert
