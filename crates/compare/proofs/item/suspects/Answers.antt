use Rattle.std.proofs.Common.{◌≡◌, ℕ, ◌+◌, ◌≤◌, List, [], ◌∷◌, ◌++◌, length, take, drop, Some, sym, ap, ◌∙◌, subst, arith}
use Rattle.std.proofs.lemmas.List.{length-take-le, set-append_left, take-append-drop}
use Rattle.hunk.specs.declared.suspect.Suspect.{Suspect}
use Rattle.compare.specs.Items.{nobody}
use Rattle.compare.proofs.Reading.{Placing, placing, placing-more, placing-stop, placing-done}
use Rattle.compare.proofs.item.suspects.Goals as goal

abbrev eight : Suspect → List Suspect
eight x = x ∷ x ∷ x ∷ x ∷ x ∷ x ∷ x ∷ x ∷ []

zeros : (a b d : ℕ) → a ≡ 0 → b ≡ 0 → d ≡ 0 → ◌≡◌ {A = Suspect} (record { source = record { commit = a }; range = record { start = b; end = d } }) nobody
zeros a b d p q r = cc

some : (x : Suspect) (n : ℕ) → n ≤ 8 → length (take n (eight x)) ≡ n
some x n h = length-take-le n (eight x) h

pub loop-place-init : goal.loop-place-init
loop-place-init c =
    let z = c.default-suspects.ensures in
    let n = c.args.count in
    let e : take n (eight c.default-suspects.result) ++ drop n (eight nobody) ≡ eight nobody =
    ap (λ x. take n (eight x) ++ drop n (eight nobody)) (zeros _ _ _ z.0 z.1.0 z.1.1) ∙ take-append-drop n (eight nobody) in
    subst (λ xs. Placing n c.args.text.now 0 xs c.args.text.now) (sym e) (placing n c.args.text.now)

pub returns-in_err-found : goal.returns-in_err-found
returns-in_err-found c =
    let l = some c.default-suspects.result c.args.count c.requires in
    rw c.from_residual.ensures (sym (placing-stop _ _ _ _ _ c.loop-place.invariant (omega (arith, l)) (sym c.in_err-found.ensures)))

pub loop-place-preserved : goal.loop-place-preserved
loop-place-preserved c =
    let l = some c.default-suspects.result c.args.count c.requires in
    let more = placing-more _ _ _ _ _ c.loop-place.invariant _ _ (omega (arith, l)) c.requires (sym c.in_ok-found.ensures) in
    let items = c.loop-place.place-items in
    subst (λ xs. Placing c.args.count c.args.text.now (c.loop-place.place-index + 1) xs c.in_ok-found.behind.now)
    (set-append_left items (drop c.args.count (eight nobody)) c.loop-place.place-index c.in_ok-found.found (omega (arith, c.loop-place.auto.place-items, l))) more

pub returns : goal.returns
returns c =
    let z = c.default-suspects.ensures in
    let l = some c.default-suspects.result c.args.count c.requires in
    let done = placing-done _ _ _ _ _ c.loop-place.invariant (omega (arith, l)) (omega (arith, l)) in
    ap (λ x. Some (c.loop-place.place-items ++ drop c.args.count (eight x), c.loop-place.rest.now)) (zeros _ _ _ z.0 z.1.0 z.1.1) ∙ sym done
