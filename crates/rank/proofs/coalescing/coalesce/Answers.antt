use Rattle.std.proofs.Common.{◌≡◌, vec_items, refl, rules}
use Rattle.rank.specs.Joins.{coalesced}
use Rattle.rank.proofs.Deduped.{deduped}
use Rattle.rank.proofs.Neighbours.{settled, parted, any-first, coalesced-in-order}
use Rattle.rank.proofs.coalescing.coalesce.Goals as goal

pub returns : goal.returns
returns g c =
    let xs = vec_items c.table.inside.items in
    let joins = g.T.Joining.joins in
    let joined = g.T.Joining.joined in
    let law = g.met.T.Joining in
    let apart = parted joins joined law.inward xs in
    let is : vec_items c.dedup_by.new.self ≡ coalesced joins joined xs =
    deduped _ joins joined (λ s x k b t x' k' h. record { is = search rules; held = search rules; next = search rules }) _ _ _ c.dedup_by.ensures.filtered in
    rw (is, ← c.table.view_is) (record {
      items = refl;
      limit = refl;
      parted = apart;
      settled = settled joins joined _ apart;
      any_first = any-first joins joined law.inward law.onward law.one_result xs;
      order = coalesced-in-order joins joined g.T.Ranked.after law.rank xs;
    })
