use Rattle.std.proofs.Common.{◌≡◌, false, ltb, refl}
use Rattle.std.proofs.lemmas.Bool.{le-ltb}
use Rattle.change.specs.declared.change.Change.TheVariants.{Unchanged, AddedOrReplaced, Deleted}
use Rattle.change.proofs.Validity.{valid-of}
use Rattle.change.proofs.Walks.{going, going-here, walk_here, go-unchanged, go-added, go-deleted}
use Rattle.change.proofs.place.place.Goals as goal
use Rattle.change.proofs.place.place.Goals.{in-Unchanged+else-line-range, in-AddedOrReplaced+else-line-range-2, in-Deleted}

pub loop-change-init : goal.loop-change-init
loop-change-init c = (refl, going c.args.list.changes.now c.args.line (valid-of _ _ c.args.list.valid))

pub loop-change-preserved : goal.loop-change-preserved
loop-change-preserved c =
    let i = c.loop-change.change-index in
    elim c.match-change.branch [
      | in-Unchanged+else-line-range w ↦
          let x = Unchanged w.in-Unchanged.range in
          let g = going-here _ i x _ _ _ c.loop-change-test.true w.in-Unchanged.is c.loop-change.invariant.1 in
          let s = walk_here _ i x _ _ _ _ c.loop-change-test.true w.in-Unchanged.is c.loop-change.invariant.0 in
          let e : ltb c.args.line w.in-Unchanged.range.end ≡ false = le-ltb _ _ w.if-line-range.false in
          rw (w.added-is, w.deleted-is) (rw e at s, go-unchanged _ _ _ _ _ w.if-line-range.false g)
      | in-AddedOrReplaced+else-line-range-2 w ↦
          let x = AddedOrReplaced w.in-AddedOrReplaced.range w.in-AddedOrReplaced.count in
          let g = going-here _ i x _ _ _ c.loop-change-test.true w.in-AddedOrReplaced.is c.loop-change.invariant.1 in
          let s = walk_here _ i x _ _ _ _ c.loop-change-test.true w.in-AddedOrReplaced.is c.loop-change.invariant.0 in
          let e : ltb c.args.line w.in-AddedOrReplaced.range.end ≡ false = le-ltb _ _ w.if-line-range-2.false in
          rw (w.added-is, w.deleted-is, w.len-added.ensures) (rw e at s, go-added _ _ _ _ _ _ w.if-line-range-2.false g)
      | in-Deleted w ↦
          let x = Deleted w.in-Deleted.field-0 w.in-Deleted.count in
          let g = going-here _ i x _ _ _ c.loop-change-test.true w.in-Deleted.is c.loop-change.invariant.1 in
          let s = walk_here _ i x _ _ _ _ c.loop-change-test.true w.in-Deleted.is c.loop-change.invariant.0 in
          rw (w.added-is, w.deleted-is) (s, go-deleted _ _ _ _ _ _ g)
    ]
