use Rattle.std.proofs.Common.{vec_items, sym, ◌∙◌, arith}
use Rattle.compare.proofs.Reading.{more-push, more-stop, more-done}
use Rattle.compare.proofs.case.read_part.Goals as goal

pub returns-in_default-read : goal.returns-in_default-read
returns-in_default-read g c =
    sym c.loop.invariant ∙ more-stop g.T.Item.reads (vec_items c.loop.items) c.in-Some.size c.loop.counter _ c.loop-test.true (sym c.in_default-read.ensures)

pub loop-preserved : goal.loop-preserved
loop-preserved g c =
    more-push g.T.Item.reads (vec_items c.loop.items) c.in-Some.size c.loop.counter c.loop.rest.now
    c.loop-test.true c.in_ok-push.ensures.items (sym c.in-Some-read.ensures) c.loop.invariant

pub returns : goal.returns
returns g c =
    sym c.loop.invariant ∙ more-done g.T.Item.reads (vec_items c.loop.items) c.in-Some.size c.loop.counter _ (omega arith)
