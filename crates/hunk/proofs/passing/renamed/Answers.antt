use Rattle.std.proofs.Common.{◌≡◌, ℕ, ◌-◌, ◌≤◌, List, ◌++◌, map, length, take, drop, refl, ap, ◌∙◌, arith}
use Rattle.std.proofs.lemmas.List.{length-append, length-map, length-take-le, take_at}
use Rattle.change.specs.declared.span.Span.{Span}
use Rattle.hunk.specs.declared.suspect.Suspect.{Suspect}
use Rattle.hunk.specs.Hunks.{named, span_of}
use Rattle.hunk.proofs.Cuts.{same-piece}
use Rattle.hunk.proofs.Owing.{owed, sound-from}
use Rattle.hunk.proofs.Passes.{swap, swap-owed, unnamed, named-swaps}
use Rattle.hunk.proofs.passing.renamed.Goals as goal
use Rattle.hunk.proofs.passing.renamed.Goals.{After-rename}

-- the suspects behind the renaming: those in use, renamed, and the others
module _ (c : After-rename) where
  abbrev ss : List Suspect
  ss = c.args.hunk.suspects

  abbrev n : ℕ
  n = c.args.hunk.count

  abbrev r : Span
  r = c.args.hunk.range_in_blamed_file

  abbrev new : Suspect
  new = record { source = c.args.to; range = span_of (r.end - r.start) c.args.start }

  is : c.rename.new.suspects ≡ map (swap c.args.from new) (take n ss)
  is = let e = c.rename.ensures in rw c.len.ensures at e

  long : length c.rename.new.suspects ≡ n
  long = ap length is ∙ length-map (take n ss) (swap c.args.from new) ∙ length-take-le n ss (omega arith)

  front : take n (c.rename.new.suspects ++ drop n ss) ≡ map (swap c.args.from new) (take n ss)
  front = take_at c.rename.new.suspects (drop n ss) n long ∙ is

pub invariant_of-result : goal.invariant_of-result
invariant_of-result c =
    let a = (goal.at.invariant_of-result c).After-rename in
    let h = c.args.hunk in
    let o = swap-owed (r a) c.args.from (new a) (take (n a) (ss a)) (omega (arith, h.lines)) c.requires.fits
    (unnamed c.args.to (take (n a) (ss a)) c.requires.new)
    (owed (r a) (ss a) (n a) (omega arith) h.level h.within h.apart) in
    let l : n a ≤ length (c.rename.new.suspects ++ drop (n a) (ss a)) = simp length-append (omega (arith, long a)) in
    let s = sound-from (r a) (c.rename.new.suspects ++ drop (n a) (ss a)) _ (n a) l (front a) o in
    record { few = h.few; some = h.some; lines = h.lines; limit = h.limit; level = s.0; within = s.1; apart = s.2 }

pub returns : goal.returns
returns c =
    let a = (goal.at.returns c).After-rename in
    same-piece _ _ _ _ _ refl (ap (map named) (front a) ∙ named-swaps c.args.from (new a) (take (n a) (ss a)))
