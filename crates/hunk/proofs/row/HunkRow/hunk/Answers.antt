use Rattle.std.proofs.Common.{◌≤◌, length, sym, refl, ◌∙◌, arith}
use Rattle.hunk.proofs.Owing.{sound-from}
use Rattle.hunk.proofs.Checks.{right}
use Rattle.hunk.proofs.row.HunkRow.hunk.Goals as goal

pub invariant_of-result : goal.invariant_of-result
invariant_of-result c =
    let h = c.args.self.now in
    let k = right h (sym c.is_hunk.ensures ∙ c.if-not-is_hunk.false) in
    let n : h.count ≤ length h.suspects = omega (arith, k.few) in
    let s = sound-from h.range_in_blamed_file h.suspects _ h.count n refl k.owed in
    record { few = k.few; some = k.some; lines = k.lines; limit = k.limit; level = s.0; within = s.1; apart = s.2 }
