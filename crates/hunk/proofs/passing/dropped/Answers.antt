use Rattle.std.proofs.Common.{◌≡◌, ◌+◌, ◌<◌, ◌≤◌, map, length, take, filter, sym, refl, ap, ◌∙◌, arith}
use Rattle.std.proofs.lemmas.List.{length-set, length-take-le, take_all}
use Rattle.hunk.specs.Hunks.{named}
use Rattle.hunk.specs.Rows.{differs}
use Rattle.hunk.proofs.Cuts.{same-piece}
use Rattle.hunk.proofs.Owing.{owed, sound-from}
use Rattle.hunk.proofs.Passes.{kept_more, kept_same, kept-long, kept-owed, named-kept}
use Rattle.hunk.proofs.passing.dropped.Goals as goal
use Rattle.hunk.proofs.passing.dropped.Goals.{After-loop-suspect, then-ne, else-ne}

pub loop-suspect-preserved : goal.loop-suspect-preserved
loop-suspect-preserved c =
    let h = c.loop-suspect-test.true in
    let few = length-take-le c.args.hunk.count c.args.hunk.suspects (omega arith) in
    let l : c.loop-suspect.count < length c.loop-suspect.left = omega (arith, few) in
    let p = differs c.args.from in
    elim c.if-ne.branch [
      | then-ne w ↦ (
        ap (λ n. take n c.if-ne.left) w.count-is ∙ ap (take (c.loop-suspect.count + 1)) w.left-is
            ∙ kept_more p _ _ _ _ l h (sym c.ne.ensures ∙ w.if-ne.true) c.loop-suspect.invariant.0,
        omega (arith, w.count-is),
        ap length w.left-is ∙ simp length-set c.loop-suspect.invariant.2,
      )
      | else-ne w ↦ (
        ap (λ n. take n c.if-ne.left) w.count-is ∙ ap (take c.loop-suspect.count) w.left-is
            ∙ kept_same p c.loop-suspect.left _ c.loop-suspect.count _ h (sym c.ne.ensures ∙ w.if-ne.false) c.loop-suspect.invariant.0,
        omega (arith, w.count-is),
        ap length w.left-is ∙ c.loop-suspect.invariant.2,
      )
    ]

-- what the loop leaves
kept-all : (c : After-loop-suspect) → take c.loop-suspect.count c.loop-suspect.left ≡ filter (differs c.args.from) (take c.args.hunk.count c.args.hunk.suspects)
kept-all c =
    let ss = take c.args.hunk.count c.args.hunk.suspects in
    c.loop-suspect.invariant.0 ∙ ap (filter (differs c.args.from)) (take_all c.loop-suspect.suspect-index ss c.loop-suspect-test.false)

pub invariant_of-result : goal.invariant_of-result
invariant_of-result c =
    let h = c.args.hunk in
    let r = h.range_in_blamed_file in
    let ss = take h.count h.suspects in
    let done = kept-all (goal.at.invariant_of-result c).After-loop-suspect in
    let n : h.count ≤ length h.suspects = omega arith in
    let few = length-take-le h.count h.suspects n in
    let l : c.loop-suspect.count ≤ length c.loop-suspect.left = omega (arith, few) in
    let long = kept-long c.args.from ss c.loop-suspect.left c.loop-suspect.count l done in
    let o = kept-owed r (differs c.args.from) ss (owed r h.suspects h.count n h.level h.within h.apart) in
    let s = sound-from r _ _ c.loop-suspect.count l done o in
    record { few = omega (arith, few); some = omega (arith, c.requires, long); lines = h.lines; limit = h.limit; level = s.0; within = s.1; apart = s.2 }

pub returns : goal.returns
returns c =
    let ss = take c.args.hunk.count c.args.hunk.suspects in
    same-piece _ _ _ _ _ refl (ap (map named) (kept-all (goal.at.returns c).After-loop-suspect) ∙ named-kept c.args.from ss)
