use Rattle.std.proofs.Common.{◌≡◌, ◌-◌, [], ◌∷◌, ◌++◌, length, get_or, take, drop, set, replicate, ap, ◌∙◌, arith}
use Rattle.std.proofs.lemmas.List.{drop-replicate, length-take-le, take_all}
use Rattle.hunk.specs.Sound.{blank}
use Rattle.hunk.proofs.Laid.{laid-set, zeros}
use Rattle.hunk.proofs.suspects.front.Goals as goal

pub loop-i-init : goal.loop-i-init
loop-i-init c = let z = c.default-written.ensures in ap (λ y. y ∷ y ∷ y ∷ y ∷ y ∷ y ∷ y ∷ y ∷ []) (zeros _ _ _ z.0 z.1.0 z.1.1)

pub loop-i-preserved : goal.loop-i-preserved
loop-i-preserved c =
    let n = c.min-count.result in
    let items = take n c.args.suspects in
    let i = c.loop-i.i in
    let len : length items ≡ n = length-take-le n c.args.suspects (omega arith) in
    ap (λ m. set m i (get_or items i blank)) c.loop-i.invariant ∙ laid-set items (replicate 8 blank) i (omega arith) (omega arith)

pub returns : goal.returns
returns c =
    let n = c.min-count.result in
    let ss = c.args.suspects in
    let items = take n ss in
    let len : length items ≡ n = length-take-le n ss (omega arith) in
    let e : c.loop-i.i ≡ length items = omega arith in
    c.loop-i.invariant ∙ ap (λ k. take k items ++ drop k (replicate 8 blank)) e ∙ ap (λ l. l ++ drop (length items) (replicate 8 blank)) (take_all (length items) items (omega arith))
    ∙ ap (λ k. items ++ drop k (replicate 8 blank)) len ∙ ap (λ l. items ++ l) (drop-replicate n 8 blank) ∙ ap (λ k. take k ss ++ replicate (8 - k) blank) c.min-count.ensures
