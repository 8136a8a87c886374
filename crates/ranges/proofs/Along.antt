-- The rows as plain ranges, one more at a time.
use Rattle.std.proofs.Common.{◌≡◌, ℕ, ◌+◌, ◌<◌, false, cond, List, [], ◌∷◌, ◌++◌, map, length, get_or, take, Some, None, fold, filter, sym, ap, ◌∙◌, inl, inr, arith}
use Rattle.std.proofs.lemmas.List.{append-nil, get_or-map, length-map, map-append, take_more}
use Rattle.std.proofs.lemmas.List.Elements.{filter-append}
use Rattle.std.proofs.lemmas.List.Sums.{fold_push}
use Rattle.std.proofs.lemmas.Option.{cond_some, none-some}
use Rattle.std.proofs.lemmas.Bool.{cases_Bool, cond-true, cond-false}
use Rattle.change.specs.declared.span.Span.{Span}
use Rattle.change.specs.declared.line_range.LineRange.{LineRange}
use Rattle.ranges.specs.Spans.{span_of, spans, blank, touches, hull, merged}
use Rattle.ranges.specs.Clips.{begins, cut, cut_of, cut_all}

module _ (rows : List LineRange) (i : ℕ) where
  pub spans-more : (x : LineRange) → i < length rows → x ≡ get_or rows i x → take (i + 1) (spans rows) ≡ take i (spans rows) ++ span_of x ∷ []
  spans-more x h e =
      let n = length-map rows span_of in
      take_more (spans rows) i blank (omega arith) ∙ ap (λ s. take i (spans rows) ++ s ∷ []) (get_or-map span_of rows i x blank h ∙ ap span_of (sym e))

-- widened over one more
merged-push : (n : Span) (rs : List Span) (x : Span) → merged n (rs ++ x ∷ []) ≡ cond (touches n x) (hull (merged n rs) x) (merged n rs)
merged-push n rs x =
    ap (fold hull n) (filter-append (touches n) rs (x ∷ []))
    ∙ (elim (cases_Bool (touches n x)) [
      | inl e ↦ rw e (fold_push hull n (filter (touches n) rs) x)
      | inr e ↦ rw e (ap (fold hull n) (append-nil (filter (touches n) rs)))
    ])

pub widen_more : (n : Span) (rows : List LineRange) (i : ℕ) (x : LineRange) (m m' : Span) → i < length rows → x ≡ get_or rows i x
    → m ≡ merged n (take i (spans rows)) → m' ≡ cond (touches n (span_of x)) (hull m (span_of x)) m → m' ≡ merged n (take (i + 1) (spans rows))
widen_more n rows i x m m' h e p q =
    q ∙ ap (λ k. cond (touches n (span_of x)) (hull k (span_of x)) k) p
    ∙ sym (ap (merged n) (spans-more rows i x h e) ∙ merged-push n (take i (spans rows)) (span_of x))

-- cut, one more
cut-push : (n : ℕ) (rs : List Span) (x : Span) → cut_all n (rs ++ x ∷ []) ≡ cond (begins n x) (cut_all n rs ++ cut n x ∷ []) (cut_all n rs)
cut-push n rs x =
    ap (map (cut n)) (filter-append (begins n) rs (x ∷ []))
    ∙ (elim (cases_Bool (begins n x)) [
      | inl e ↦ rw e (map-append (cut n) (filter (begins n) rs) (x ∷ []))
      | inr e ↦ rw e (ap (map (cut n)) (append-nil (filter (begins n) rs)))
    ])

no_cut : (n : ℕ) (x : Span) → None ≡ cut_of n x → begins n x ≡ false
no_cut n x e =
    elim (cases_Bool (begins n x)) [
      | inl b ↦ absurd (none-some _ (rw b at e))
      | inr b ↦ b
    ]

module _ (n : ℕ) (rows : List LineRange) (i : ℕ) (x : LineRange) (here : i < length rows) (is : x ≡ get_or rows i x) where
  cut-more : cut_all n (take (i + 1) (spans rows)) ≡ cond (begins n (span_of x)) (cut_all n (take i (spans rows)) ++ cut n (span_of x) ∷ []) (cut_all n (take i (spans rows)))
  cut-more = ap (cut_all n) (spans-more rows i x here is) ∙ cut-push n (take i (spans rows)) (span_of x)

  pub cut-some : (y : Span) → Some y ≡ cut_of n (span_of x) → cut_all n (take (i + 1) (spans rows)) ≡ cut_all n (take i (spans rows)) ++ y ∷ []
  cut-some y e =
      let c = cond_some _ _ _ (sym e) in
      cut-more ∙ cond-true _ _ _ c.0 ∙ ap (λ z. cut_all n (take i (spans rows)) ++ z ∷ []) c.1

  pub cut-none : None ≡ cut_of n (span_of x) → cut_all n (take (i + 1) (spans rows)) ≡ cut_all n (take i (spans rows))
  cut-none e = cut-more ∙ cond-false _ _ _ (no_cut n (span_of x) e)
