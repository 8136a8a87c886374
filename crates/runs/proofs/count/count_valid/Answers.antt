use Rattle.std.proofs.Common.{subst, arith, rules}
use Rattle.std.proofs.lemmas.List.{drop_all}
use Rattle.change.specs.declared.change.Change.TheVariants.{Unchanged, AddedOrReplaced, Deleted}
use Rattle.change.proofs.Validity.{valid-of}
use Rattle.runs.proofs.Counting.{Counted, counted-here, count_fits, counted-unchanged, counted-added, counted-deleted, counted-all}
use Rattle.runs.proofs.count.count_valid.Goals as goal
use Rattle.runs.proofs.count.count_valid.Goals.{in-Unchanged, in-AddedOrReplaced, in-Deleted}

pub loop-change-init : goal.loop-change-init
loop-change-init c =
    let valid = valid-of c.args.list.changes.now c.args.list.totals c.args.list.valid in
    search rules

pub overflow_add-count : goal.overflow_add-count
overflow_add-count c =
    let w = counted-here _ c.loop-change.change-index (Unchanged c.in-Unchanged.range) _ c.loop-change-test.true c.in-Unchanged.is c.loop-change.invariant in
    omega (arith, count_fits _ _ _ w, c.len.ensures)

pub overflow_add-count-in-AddedOrReplaced : goal.overflow_add-count-in-AddedOrReplaced
overflow_add-count-in-AddedOrReplaced c =
    let w = counted-here _ c.loop-change.change-index (AddedOrReplaced c.in-AddedOrReplaced.range c.in-AddedOrReplaced.field-1) _ c.loop-change-test.true c.in-AddedOrReplaced.is c.loop-change.invariant in
    omega (arith, count_fits _ _ _ w, c.len-in-AddedOrReplaced.ensures)

pub loop-change-preserved : goal.loop-change-preserved
loop-change-preserved c =
    let i = c.loop-change.change-index in
    let h = c.loop-change-test.true in
    elim c.match-change.branch [
      | in-Unchanged w ↦
          rw (w.count-is, w.len.ensures) (counted-unchanged _ _ _ _ (counted-here _ i (Unchanged w.in-Unchanged.range) _ h w.in-Unchanged.is c.loop-change.invariant))
      | in-AddedOrReplaced w ↦
          rw (w.count-is, w.len-in-AddedOrReplaced.ensures)
          (counted-added _ _ _ _ _ (counted-here _ i (AddedOrReplaced w.in-AddedOrReplaced.range w.in-AddedOrReplaced.field-1) _ h w.in-AddedOrReplaced.is c.loop-change.invariant))
      | in-Deleted w ↦
          rw w.count-is (counted-deleted _ _ _ _ _ (counted-here _ i (Deleted w.in-Deleted.field-0 w.in-Deleted.field-1) _ h w.in-Deleted.is c.loop-change.invariant))
    ]

pub returns : goal.returns
returns c =
    let cs = c.args.list.changes.now in
    let w = subst (λ l. Counted cs l c.loop-change.count) (drop_all c.loop-change.change-index cs c.loop-change-test.false) c.loop-change.invariant in
    counted-all cs _ (valid-of cs c.args.list.totals c.args.list.valid).follows w
