-- A list of ranges added in turn.
use Rattle.std.proofs.Common.{◌≡◌, ℕ, ◌+◌, false, ◌||◌, List, [], ◌∷◌, OnOk, Ok, Err, Result, sym, refl, ap, ◌∙◌, arith}
use Rattle.std.proofs.Math.Bool.{or_assoc}
use Rattle.change.specs.declared.span.Span.{Span}
use Rattle.ranges.specs.declared.one_based.OneBased.{OneBased}
use Rattle.ranges.specs.declared.fault.RangeFault.{RangeFault}
use Rattle.ranges.specs.declared.fault.BadEntry.{BadEntry}
use Rattle.ranges.specs.Spans.{has, any_has, whole, asked}
use Rattle.ranges.specs.Adds.{zero_based, add_of, go_on, add_all_from, add_all_of, list_has, AllAskedToo}
use Rattle.ranges.proofs.Parts.{Parted}
use Rattle.ranges.proofs.More.{grown, only}
use Rattle.ranges.proofs.Asks.{or_swap}

-- the ranges with each of a list, where none is refused
record AllGrown (rs : List Span) (list : List OneBased) (behind : List Span) : Type 0 where
  some : whole rs ≡ false → whole behind ≡ false
  asks : (k : ℕ) → any_has behind k ≡ (list_has list k || any_has rs k)

record OneGrown (rs : List Span) (a : OneBased) (list : List OneBased) (behind : List Span) : Type 0 where
  some : whole behind ≡ false
  asks : (k : ℕ) → any_has behind k ≡ (list_has (a ∷ list) k || any_has rs k)

one-grown : (a : OneBased) (list : List OneBased) (i : ℕ) (rs behind : List Span) → Parted rs
    → ((more : List Span) → Parted more → add_all_from (i + 1) more list ≡ Ok behind → AllGrown more list behind)
    → (o : Result (List Span) RangeFault) → add_of rs a.first a.last ≡ o → go_on i o (λ more. add_all_from (i + 1) more list) ≡ Ok behind
    → OneGrown rs a list behind
one-grown a list i rs behind p rest (Ok more) q h =
    let g = grown rs a.first a.last more p q in
    let r = rest more g.order h in
    record {
      some = r.some g.some;
      asks = λ k.
          let here = has (zero_based a.first a.last) k in
          r.asks k ∙ ap (λ b. list_has list k || b) (g.asks k) ∙ or_swap (list_has list k) here (any_has rs k) ∙ sym (or_assoc here (list_has list k) (any_has rs k));
    }
one-grown a list i rs behind p rest (Err f) q h = let z : ◌≡◌ {A = ℕ} 0 1 = cc in absurd (omega arith)

all_grown : (list : List OneBased) (i : ℕ) (rs behind : List Span) → Parted rs → add_all_from i rs list ≡ Ok behind → AllGrown rs list behind
all_grown [] i rs behind p e =
    let same : rs ≡ behind = cc in
    record { some = λ w. ap whole (sym same) ∙ w; asks = λ k. ap (λ m. any_has m k) (sym same) }
all_grown (a ∷ list) i rs behind p e =
    let g = one-grown a list i rs behind p (λ more q h. all_grown list (i + 1) more behind q h) (add_of rs a.first a.last) refl e in
    record { some = λ _. g.some; asks = g.asks }

pub all-asks : (list : List OneBased) (rs behind : List Span) → Parted rs → add_all_of rs list ≡ Ok behind → AllAskedToo rs list behind
all-asks [] rs behind p e = let same : rs ≡ behind = cc in λ k. ap (λ m. asked m k) (sym same)
all-asks (a ∷ list) rs behind p e =
    let g = one-grown a list 0 rs behind p (λ more q h. all_grown list 1 more behind q h) (add_of rs a.first a.last) refl e in
    λ k. ap (λ w. w || any_has behind k) g.some ∙ g.asks k ∙ ap (λ b. list_has (a ∷ list) k || b) (only rs k)

-- .. as an answer tells it
pub told-asks : (list : List OneBased) (rs behind : List Span) (r : Result (Unit {0}) BadEntry) → Parted rs → OnOk r (add_all_of rs list ≡ Ok behind)
    → OnOk r (AllAskedToo rs list behind)
told-asks list rs behind (Ok t) p h = all-asks list rs behind p h
told-asks list rs behind (Err f) p h = tt
