use Rattle.std.proofs.Common.{rules, tests, ◌==◌, ◌+◌, drop, take, sym, ap, ◌∙◌, arith}
use Rattle.std.proofs.lemmas.List.{take_rest, take_all, drop_all}
use Rattle.std.proofs.lemmas.Iterator.{YieldsList-from_slice}
use Rattle.std.proofs.lemmas.Iterator.Search.{position_from_yields_List}
use Rattle.text.proofs.Cutting.{cut_at}
use Rattle.text.proofs.Firsts.{found_at, found_nowhere}
use Rattle.text.proofs.lines.first_line.Goals as goal

pub returns-in-Some : goal.returns-in-Some
returns-in-Some c =
    let s = c.args.text.now in
    let e = position_from_yields_List (λ b. b == 10) _ _ c.position.result c.position.ensures.ran (YieldsList-from_slice s cc) (λ x b q k. search (rules, tests)) in
    let i = found_at (λ b. b == 10) s c.in-Some.at (sym c.in-Some.is ∙ e) in
    record {
      line = ap (λ n. take n s) i ∙ sym (cut_at s).0;
      rest = take_rest s (c.in-Some.at + 1) ∙ ap (λ n. drop (n + 1) s) i ∙ sym (cut_at s).1;
    }

pub returns-in-None : goal.returns-in-None
returns-in-None c =
    let s = c.args.text.now in
    let e = position_from_yields_List (λ b. b == 10) _ _ c.position.result c.position.ensures.ran (YieldsList-from_slice s cc) (λ x b q k. search (rules, tests)) in
    let l = found_nowhere (λ b. b == 10) s (sym c.in-None.is ∙ e) in
    record {
      line = sym (take_all _ s l) ∙ sym (cut_at s).0;
      rest = sym (drop_all _ s (omega (arith, l))) ∙ sym (cut_at s).1;
    }
