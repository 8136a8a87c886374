-- What `dedup_by` leaves, where each call makes one of two neighbours that join.
use Rattle.std.proofs.Common.{◌≡◌, Bool, true, false, cond, List, [], ◌∷◌, sym, ap, ◌∙◌}
use Rattle.std.specs.Bool.{MatchBool}
use Rattle.std.specs.List.Retain.{DedupsFrom, IsDeduped}
use Rattle.std.proofs.lemmas.Bool.{cond-true, cond-false}
use Rattle.rank.specs.Joins.{from, coalesced}

-- a call at the next element and the one held before it
pub record Call {X : Type 0} (joins : X → X → Bool) (joined : X → X → X) (x k : X) (b : Bool) (x' k' : X) : Type 0 where
  pub is : b ≡ joins k x
  pub held : k' ≡ cond (joins k x) (joined k x) k
  pub next : x' ≡ x

module _ {S X : Type 0} (R : S → X → X → Bool → S → X → X → Type 0) (joins : X → X → Bool) (joined : X → X → X)
    (call : (s : S) (x k : X) (b : Bool) (t : S) (x' k' : X) → R s x k b t x' k' → Call joins joined x k b x' k') where
  one : (x k : X) (xs ys : List X) (t : S) (x' k' : X) (b : Bool) → Call joins joined x k b x' k'
      → ((t : S) (k : X) (ys : List X) → DedupsFrom R t k xs ys → ys ≡ from joins joined k xs)
      → MatchBool b (DedupsFrom R t k' xs ys) ((zs : List X) × DedupsFrom R t x' xs zs × (ys ≡ k' ∷ zs)) → ys ≡ from joins joined k (x ∷ xs)
  one x k xs ys t x' k' true j rest m =
      let e = sym j.is in
      rest t k' ys m ∙ ap (λ h. from joins joined h xs) (j.held ∙ cond-true _ _ _ e) ∙ sym (cond-true _ _ _ e)
  one x k xs ys t x' k' false j rest m =
      let e = sym j.is in
      m.2 ∙ ap (λ h. h ∷ m.0) (j.held ∙ cond-false _ _ _ e) ∙ ap (λ zs. k ∷ zs) (rest t x' m.0 m.1 ∙ ap (λ h. from joins joined h xs) j.next) ∙ sym (cond-false _ _ _ e)

  deduped-from : (xs : List X) (s : S) (k : X) (ys : List X) → DedupsFrom R s k xs ys → ys ≡ from joins joined k xs
  deduped-from [] s k ys h = h
  deduped-from (x ∷ xs) s k ys h = one x k xs ys h.1 h.2 h.3 h.0 (call s x k h.0 h.1 h.2 h.3 h.4) (λ t j zs d. deduped-from xs t j zs d) h.5

  pub deduped : (s : S) (xs ys : List X) → IsDeduped R s xs ys → ys ≡ coalesced joins joined xs
  deduped s [] ys h = h.told
  deduped s (x ∷ xs) ys h = deduped-from xs s x ys h.told
