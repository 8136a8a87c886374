-- A row put behind the rows, the last row first.
use Rattle.std.proofs.Common.{◌≡◌, ℕ, ◌+◌, ◌-◌, ◌<◌, cond, get_or, set, take, List, [], ◌∷◌, ◌++◌, map, reverse, length, Some, None, Option, sym, refl, ap, ◌∙◌, inl, inr, arith}
use Rattle.std.proofs.lemmas.Bool.{cases_Bool}
use Rattle.std.proofs.lemmas.List.{length-set, map_push, reverse-append, take_all, take_more, take_more_set}
use Rattle.runs.specs.declared.row.Row.{Row}
use Rattle.runs.specs.Rows.{Run, goes_on, row_of}
use Rattle.runs.specs.Steps.{joined, put, Meets}

-- the rows as runs, the last first
abbrev pub runs_of : List Row → List Run
runs_of rows = reverse (map row_of rows)

pub pushed : (xs ys : List Row) (x : Row) → ys ≡ xs ++ x ∷ [] → runs_of ys ≡ row_of x ∷ runs_of xs
pushed xs ys x e = ap runs_of e ∙ ap reverse (map_push row_of xs x) ∙ reverse-append (map row_of xs) (row_of x ∷ [])

-- the last of the rows, and the rows with another in its place
pub last-is : (xs : List Row) (n : ℕ) (l : Row) → n ≡ length xs → 0 < length xs → l ≡ get_or xs (n - 1) l → xs ≡ take (n - 1) xs ++ l ∷ []
last-is xs n l e h g =
    sym (take_all (n - 1 + 1) xs (omega arith)) ∙ take_more xs (n - 1) l (omega arith) ∙ ap (λ x. take (n - 1) xs ++ x ∷ []) (sym g)

pub last-set : (xs : List Row) (n : ℕ) (j : Row) → n ≡ length xs → 0 < length xs → set xs (n - 1) j ≡ take (n - 1) xs ++ j ∷ []
last-set xs n j e h =
    sym (take_all (n - 1 + 1) (set xs (n - 1) j) (simp length-set (omega arith))) ∙ take_more_set xs (n - 1) j (omega arith)

pub no-some : {X : Type 0} {x : X} → None ≡ Some x → ⊥
no-some e = let z : ◌≡◌ {A = ℕ} 0 1 = cc in omega arith

-- it goes on from the last row, or does not
pub put-joined : (l r j : Run) (ls : List Run) → Some j ≡ cond (goes_on l r.place) (Some (joined l r)) None → j ∷ ls ≡ put r (l ∷ ls)
put-joined l r j ls h =
    elim (cases_Bool (goes_on l r.place)) [
      | inl e ↦ let s : Some j ≡ Some (joined l r) = rw e at h in let z : j ≡ joined l r = cc in rw (e, z)
      | inr e ↦ absurd (no-some (sym (rw e at h)))
    ]

-- the last run then ends where the one put behind does
pub put_meets : (r : Run) (ls : List Run) → Meets r.end (put r ls)
put_meets r [] = refl
put_meets r (l ∷ ls) =
    elim (cases_Bool (goes_on l r.place)) [
      | inl e ↦ rw e refl
      | inr e ↦ rw e refl
    ]

-- no run, or one, put behind the runs
abbrev pub put_any : Option Run → List Run → List Run
put_any None rs = rs
put_any (Some r) rs = put r rs
