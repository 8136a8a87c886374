-- Ranges laid out by value, one more behind them.
use Rattle.std.proofs.Common.{◌≡◌, ℕ, suc, ◌+◌, ◌-◌, ◌<◌, List, [], ◌∷◌, ◌++◌, length, set, replicate, sym, refl, ap, ◌∙◌, arith}
use Rattle.std.proofs.lemmas.List.{append_assoc, length_push, set_at}
use Rattle.change.specs.declared.span.Span.{Span}
use Rattle.ranges.specs.declared.clipped.Clipped.{Clipped}
use Rattle.ranges.specs.Spans.{blank}
use Rattle.ranges.specs.Rows.{laid}

-- with k places left behind it
laid-at : (rs : List Span) (x : Span) (k : ℕ) → 64 - length rs ≡ suc k → 64 - length (rs ++ x ∷ []) ≡ k
    → set (rs ++ replicate (64 - length rs) blank) (length rs) x ≡ (rs ++ x ∷ []) ++ replicate (64 - length (rs ++ x ∷ [])) blank
laid-at rs x k room left =
    ap (λ j. set (rs ++ replicate j blank) (length rs) x) room
    ∙ set_at rs blank (replicate k blank) x (length rs) refl
    ∙ sym (append_assoc rs (x ∷ []) (replicate k blank))
    ∙ sym (ap (λ j. (rs ++ x ∷ []) ++ replicate j blank) left)

laid-push : (rs : List Span) (x : Span) → length rs < 64
    → ◌≡◌ {A = Clipped} (record { ranges = set (laid rs).ranges (length rs) x; count = length rs + 1 }) (laid (rs ++ x ∷ []))
laid-push rs x h =
    let n = length_push rs x in
    ap (λ l. record { ranges = l; count = length rs + 1 }) (laid-at rs x (63 - length rs) (omega arith) (omega arith))
    ∙ ap (λ j. record { ranges = (laid (rs ++ x ∷ [])).ranges; count = j }) (sym n)

pub laid_more : (out out' : Clipped) (rs : List Span) (x : Span) → out ≡ laid rs → out.count < 64
    → out' ≡ record { ranges = set out.ranges out.count x; count = out.count + 1 } → out' ≡ laid (rs ++ x ∷ [])
laid_more out out' rs x e h q =
    q ∙ ap (λ (o : Clipped). record { ranges = set o.ranges o.count x; count = o.count + 1 }) e
    ∙ laid-push rs x (rw (ap (λ (o : Clipped). o.count) e) at h)
