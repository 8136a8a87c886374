use Rattle.std.proofs.Common.{◌+◌, ◌<◌, ◌≤◌, length, take, set, sym, arith}
use Rattle.std.proofs.lemmas.List.{length-set, take_more_set}
use Rattle.hunk.specs.declared.suspect.Suspect.{Suspect}
use Rattle.hunk.proofs.Owing.{owed, sound-from}
use Rattle.hunk.proofs.Passes.{unnamed}
use Rattle.hunk.proofs.Adds.{push-owed}
use Rattle.hunk.proofs.hunk.UnblamedHunk.add_suspect.Goals as goal

pub invariant_of-result : goal.invariant_of-result
invariant_of-result c =
    let h = c.args.self in
    let r = h.range_in_blamed_file in
    let ss = h.suspects in
    let new : Suspect = record { source = c.args.source; range = record { start = c.args.start; end = c.args.start + c.len-size.result } } in
    let n : h.count < length ss = omega arith in
    let few : h.count ≤ length ss = omega arith in
    let l : h.count + 1 ≤ length (set ss h.count new) = simp length-set (omega arith) in
    let o = push-owed r (take h.count ss) new (omega (arith, h.lines)) (omega arith)
    (unnamed c.args.source (take h.count ss) (sym c.if-has_suspect.ensures))
    (owed r ss h.count few h.level h.within h.apart) in
    let s = sound-from r _ _ (h.count + 1) l (take_more_set ss h.count new n) o in
    record { few = omega arith; some = omega arith; lines = h.lines; limit = h.limit; level = s.0; within = s.1; apart = s.2 }
