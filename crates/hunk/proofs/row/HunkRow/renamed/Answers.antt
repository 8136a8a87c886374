use Rattle.std.proofs.Common.{◌≡◌, ◌-◌, ◌<◌, ◌≤◌, [], ◌∷◌, ◌++◌, map, length, get_or, take, drop, set, replicate, sym, ap, ◌∙◌, arith}
use Rattle.std.proofs.lemmas.List.{drop-replicate, get_or-map, length-map, length-take-le, take_all}
use Rattle.hunk.specs.declared.suspect.Suspect.{Suspect}
use Rattle.hunk.specs.declared.row.HunkRow.{HunkRow}
use Rattle.hunk.specs.Rows.{rename_at, renamed_row}
use Rattle.hunk.specs.Sound.{blank}
use Rattle.hunk.proofs.Checks.{right}
use Rattle.hunk.proofs.Laid.{laid, laid-set, zeros}
use Rattle.hunk.proofs.Rowwise.{renamed-hunk}
use Rattle.hunk.proofs.row.HunkRow.renamed.Goals as goal

pub loop-i-init : goal.loop-i-init
loop-i-init c = let z = c.default-suspects.ensures in ap (λ y. y ∷ y ∷ y ∷ y ∷ y ∷ y ∷ y ∷ y ∷ []) (zeros _ _ _ z.0 z.1.0 z.1.1)

pub loop-i-preserved : goal.loop-i-preserved
loop-i-preserved c =
    let i = c.loop-i.i in
    let m = c.min.result in
    let items = take m c.args.self.suspects in
    let f : Suspect → Suspect = rename_at c.args.from c.args.to c.args.range in
    let few : length items ≡ m = length-take-le m c.args.self.suspects (omega arith) in
    let l : i < length items = c.loop-i-test.true in
    let n : i < length (map f items) = simp length-map l in
    ap (λ v. set c.loop-i.suspects i v) (c.renamed.ensures ∙ sym (get_or-map f items i blank blank l))
    ∙ ap (λ v. set v i (get_or (map f items) i blank)) c.loop-i.invariant
    ∙ laid-set (map f items) (replicate 8 blank) i n (omega arith)

pub returns : goal.returns
returns c =
    let r = c.args.self in
    let m = c.min.result in
    let items = take m r.suspects in
    let f : Suspect → Suspect = rename_at c.args.from c.args.to c.args.range in
    let few : length items ≡ m = length-take-le m r.suspects (omega arith) in
    let e : c.loop-i.i ≡ m = omega arith in
    let z : c.loop-i.suspects ≡ map f items ++ replicate (8 - m) blank =
    c.loop-i.invariant ∙ ap (laid (map f items) (replicate 8 blank)) e
    ∙ ap (λ v. v ++ drop m (replicate 8 blank)) (take_all m (map f items) (simp length-map (omega arith))) ∙ ap (λ v. map f items ++ v) (drop-replicate m 8 blank) in
    let is : ◌≡◌ {A = HunkRow} (record { range_in_blamed_file = r.range_in_blamed_file; suspects = c.loop-i.suspects; count = r.count }) (renamed_row c.args.from c.args.to c.args.range r) =
    ap (λ v. record { range_in_blamed_file = r.range_in_blamed_file; suspects = v; count = r.count }) (z ∙ ap (λ k. map f (take k r.suspects) ++ replicate (8 - k) blank) c.min.ensures) in
    record {
      is = is;
      hunk = λ h e.
          let few = (right r h).few in
          let n : r.count ≤ length r.suspects = omega arith in
          is ∙ renamed-hunk r c.args.from c.args.to c.args.range h n e;
    }
