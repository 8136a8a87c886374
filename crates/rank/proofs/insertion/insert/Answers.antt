use Rattle.std.proofs.Common.{◌≡◌, vec_items, sym, ap, ◌∙◌, arith}
use Rattle.std.proofs.lemmas.Bool.{cond-true, lt-ltb}
use Rattle.rank.specs.Ranks.{put, place_of}
use Rattle.rank.specs.Tables.{has_room}
use Rattle.rank.proofs.Putting.{place-within, inserted-is-put, put-in-order}
use Rattle.rank.proofs.insertion.insert.Goals as goal

pub insert-requires : goal.insert-requires
insert-requires g c =
    omega (arith, c.place-at.ensures, c.as_slice.ensures.len, place-within g.T.Ranked.after c.args.x c.as_slice.result.now)

-- the table had room, so its elements are those with x put among them
is : (g : _) (c : goal.After-map_err g) → vec_items c.insert.new.self ≡ put g.T.Ranked.after c.args.x (vec_items c.table.inside.items)
is g c =
    inserted-is-put g.T.Ranked.after c.args.x (vec_items c.table.inside.items) (vec_items c.insert.new.self) c.place-at.result
    (c.insert.ensures.items ∙ cond-true _ _ _ (c.insert.ensures.succeeds (omega arith)))
    (c.place-at.ensures ∙ ap (place_of g.T.Ranked.after c.args.x) c.as_slice.ensures.value)

pub returns-clause-items : goal.returns-clause-items
returns-clause-items g c =
    let t = c.table.inside in
    rw (← c.table.view_is) (is g c ∙ sym (cond-true (has_room t.limit (vec_items t.items)) _ _
    (lt-ltb _ _ (omega arith))))

pub returns-clause-order : goal.returns-clause-order
returns-clause-order g c =
    rw (is g c, ← c.table.view_is) (put-in-order g.T.Ranked.after c.args.x g.met.T.Ranked.total g.met.T.Ranked.transitive (vec_items c.table.inside.items))
