use Rattle.std.proofs.Common.{◌≡◌, ℕ, ◌<◌, ◌≤◌, List, map, length, get_or, take, refl, ap, ◌∙◌, arith}
use Rattle.std.proofs.lemmas.List.{get_or-take, length-take-le, take_all}
use Rattle.hunk.specs.declared.suspect.Suspect.{Suspect}
use Rattle.hunk.specs.declared.hunk.UnblamedHunk.{UnblamedHunk}
use Rattle.hunk.specs.Hunks.{named}
use Rattle.hunk.specs.Sound.{blank}
use Rattle.hunk.proofs.Cuts.{fronts, backs, mapped_at, named-fronts, named-backs, same-piece, front-level, front-within, back_level, back-within, same-apart}
use Rattle.hunk.proofs.split.halves.Goals as goal

-- the suspects in use
abbrev used : UnblamedHunk → List Suspect
used h = take h.count h.suspects

-- what the loop leaves: each of them mapped, and all of them
each : (f : Suspect → Suspect) (h : UnblamedHunk) (xs : List Suspect) (n : ℕ) → h.count ≤ length h.suspects → n ≡ length (used h) → take n xs ≡ map f (take n (used h))
    → (i : ℕ) → i < h.count → get_or xs i blank ≡ f (get_or h.suspects i blank)
each f h xs n l p e i b =
    let few = length-take-le h.count h.suspects l in
    mapped_at f xs (used h) n (omega arith) e i (omega (arith, few)) ∙ ap f (get_or-take h.count h.suspects i blank b)

every : (f : Suspect → Suspect) (h : UnblamedHunk) (xs : List Suspect) (n : ℕ) → h.count ≤ length h.suspects → n ≡ length (used h) → take n xs ≡ map f (take n (used h))
    → take h.count xs ≡ map f (used h)
every f h xs n l p e =
    let q : h.count ≡ n = omega (arith, p, length-take-le h.count h.suspects l) in
    ap (λ m. take m xs) q ∙ e ∙ ap (map f) (take_all n (used h) (omega arith))

pub invariant_of-before : goal.invariant_of-before
invariant_of-before c =
    let h = c.args.hunk in
    let at = each (fronts c.args.k) h c.loop-i.before c.loop-i.i (omega arith) (omega arith) c.loop-i.invariant.0 in
    record {
      few = h.few;
      some = h.some;
      lines = omega arith;
      limit = omega arith;
      level = front-level h.range_in_blamed_file _ h.suspects h.count c.args.k at;
      within = front-within h.range_in_blamed_file _ h.suspects h.count c.args.k at c.requires.inside.1 h.level h.within;
      apart = same-apart (fronts c.args.k) (λ s. refl) _ h.suspects h.count at h.apart;
    }

pub invariant_of-after : goal.invariant_of-after
invariant_of-after c =
    let h = c.args.hunk in
    let at = each (backs c.args.k) h c.loop-i.after c.loop-i.i (omega arith) (omega arith) c.loop-i.invariant.1 in
    record {
      few = h.few;
      some = h.some;
      lines = omega arith;
      limit = h.limit;
      level = back_level h.range_in_blamed_file _ h.suspects h.count c.args.k at h.level;
      within = back-within _ h.suspects h.count c.args.k at h.within;
      apart = same-apart (backs c.args.k) (λ s. refl) _ h.suspects h.count at h.apart;
    }

pub returns : goal.returns
returns c =
    let h = c.args.hunk in
    record {
      front = same-piece _ _ _ _ _ (omega arith) (ap (map named) (every (fronts c.args.k) h c.loop-i.before c.loop-i.i (omega arith) (omega arith) c.loop-i.invariant.0) ∙ named-fronts c.args.k _);
      back = same-piece _ _ _ _ _ (omega arith) (ap (map named) (every (backs c.args.k) h c.loop-i.after c.loop-i.i (omega arith) (omega arith) c.loop-i.invariant.1) ∙ named-backs c.args.k _);
    }
