use Rattle.std.proofs.Common.{length, Some, Option, ap, ◌∙◌, arith}
use Rattle.std.specs.Option.{option_map}
use Rattle.change.proofs.Validity.{valid-of}
use Rattle.change.specs.declared.change.Change.{Change}
use Rattle.hunk.specs.Rows.{piece_of}
use Rattle.pieces.specs.Steps.{Told, step_of}
use Rattle.pieces.specs.Walkers.{weight, pieces_of}
use Rattle.pieces.proofs.Writing.{walk-all, going-starts, going-caught, going-room, going_on, going-ends}
use Rattle.pieces.proofs.comparison.Comparison.write_pieces.Goals as goal

pub loop-at_hand-init : goal.loop-at_hand-init
loop-at_hand-init g c =
    let d = c.args.self.now in
    going-starts g.R.TableRow.means g.R.TableRow.exact c.args.out.now d.suspect d.parent d.list.changes.now (piece_of c.args.hunk) (valid-of _ _ d.list.valid)

pub requeue-used-requires : goal.requeue-used-requires
requeue-used-requires g c =
    let d = c.args.self.now in
    let cs = d.list.changes.now in
    let o = c.catch_up-caught.new.offset in
    let h = piece_of c.in-Some.hunk in
    let on = going-caught g.R.TableRow.means g.R.TableRow.exact _ _ _ cs _ _ _ _ o h _ _ (rw c.in-Some.is at c.loop-at_hand.invariant) c.catch_up-caught.ensures in
    let step = ap (λ x. (step_of d.suspect d.parent o (Some h) x).out) c.next_change-change.ensures.0 in
    let all = walk-all d.suspect d.parent cs (piece_of c.args.hunk) d.differ (valid-of _ _ d.list.valid) (omega (arith, c.args.hunk.lines)) c.requires.inside in
    omega (arith, ap length (c.process_change-step.ensures.pieces ∙ step), going-room _ _ _ _ _ _ _ _ _ _ _ _ on, ap length all, c.requires.room, c.loop-at_hand.auto.out)

pub loop-at_hand-preserved : goal.loop-at_hand-preserved
loop-at_hand-preserved g c =
    let d = c.args.self.now in
    let o = c.catch_up-caught.new.offset in
    let h = piece_of c.in-Some.hunk in
    let on = going-caught g.R.TableRow.means g.R.TableRow.exact _ _ _ d.list.changes.now _ _ _ _ o h _ _ (rw c.in-Some.is at c.loop-at_hand.invariant) c.catch_up-caught.ensures in
    let next = c.next_change-change.ensures in
    let step : Option Change → Told = λ x. step_of d.suspect d.parent o (Some h) x in
    let pc = c.process_change-step.ensures in
    rw next.1
    (going_on _ _ _ _ _ _ _ _ _ _ _ _ on c.requeue-used.new.out c.requeue-used.result (pieces_of c.process_change-step.result.requeued)
    (option_map piece_of c.process_change-step.result.hunk) c.process_change-step.new.offset
    c.requeue-used.ensures.used (pc.pieces ∙ ap (λ x. (step x).out) next.0) (pc.piece ∙ ap (λ x. (step x).piece) next.0) (pc.offset ∙ ap (λ x. (step x).offset) next.0)
    (omega (arith, pc.size, ap weight next.0)) (λ qs e f. c.requeue-used.ensures.rows c.args.out.now qs e f))

pub returns : goal.returns
returns g c =
    let d = c.args.self.now in
    let all = walk-all d.suspect d.parent d.list.changes.now (piece_of c.args.hunk) d.differ (valid-of _ _ d.list.valid) (omega (arith, c.args.hunk.lines)) c.requires.inside in
    let e = going-ends g.R.TableRow.means g.R.TableRow.exact _ _ _ _ _ _ _ _ _ _ (rw c.in_default.is at c.loop-at_hand.invariant) all in
    record { count = e.0; rows = e.1 }
