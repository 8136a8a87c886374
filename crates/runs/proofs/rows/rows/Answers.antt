use Rattle.std.proofs.Common.{◌≡◌, [], map, reverse, get_or, vec_items, sym, refl, ap, ◌∙◌, subst, MatchResult}
use Rattle.std.proofs.lemmas.List.{at_drop_all, reverse-reverse}
use Rattle.change.specs.Lists.{new_total}
use Rattle.change.specs.Places.{kept}
use Rattle.change.proofs.Walks.{blank}
use Rattle.runs.specs.Rows.{row_of, rows_of, Cover}
use Rattle.runs.proofs.Along.{along, along-is, walk_here, walk-on, stretch-meets}
use Rattle.runs.proofs.Covers.{covers}
use Rattle.runs.proofs.Puts.{runs_of, put_any}
use Rattle.runs.proofs.rows.rows.Goals as goal
use Rattle.runs.proofs.rows.rows.Goals.{in-Some+in_ok-append, in_default}

pub append-requires : goal.append-requires
append-requires c =
    let w = walk_here _ c.loop-change.change-index _ _ _ c.loop-change-test.true refl c.loop-change.invariant in
    stretch-meets _ _ _ _ _ w.goes c.in-Some.ensures

pub loop-change-preserved : goal.loop-change-preserved
loop-change-preserved c =
    let i = c.loop-change.change-index in
    let cs = c.args.changes.now in
    let old = c.loop-change.old in
    let rs = runs_of (vec_items c.loop-change.rows) in
    let w = walk_here cs i (get_or cs i blank) rs old c.loop-change-test.true refl c.loop-change.invariant in
    rw c.old_lines-old.ensures (
    elim c.match-stretch.branch [
      | in-Some+in_ok-append v ↦
          walk-on cs _ _ rs _ old
          (ap (λ x. runs_of (vec_items x)) v.rows-is ∙ v.in_ok-append.ensures ∙ ap (λ o. put_any o rs) v.in-Some.ensures) w
      | in_default v ↦
          walk-on cs _ _ rs _ old (ap (λ x. runs_of (vec_items x)) v.rows-is ∙ ap (λ o. put_any o rs) v.in_default.ensures) w
    ]
    )

pub returns : goal.returns
returns c =
    let cs = c.args.changes.now in
    let rows = map row_of (vec_items c.loop-change.rows) in
    let ok = c.in_ok-check_list.ensures in
    let back : reverse rows ≡ along 0 cs [] =
    sym (at_drop_all (λ l. along c.loop-change.old l (reverse rows)) cs c.loop-change.change-index c.loop-change-test.false) ∙ c.loop-change.invariant.same in
    let e : rows ≡ rows_of cs = sym (reverse-reverse rows) ∙ ap reverse (back ∙ along-is cs ok.judged.0.follows) in
    record {
      is = subst (λ k. MatchResult k (λ _. rows ≡ rows_of cs) (λ _. ⊥)) ok.is e;
      covers = subst (Cover (kept cs) 0 (new_total cs)) (sym e) (covers (kept cs) (new_total cs));
    }
