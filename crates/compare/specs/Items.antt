-- The items of a case: ranges, suspects, rows and changes. Assumes nothing.
use Rattle.std.specs.Prelude.{ℕ, zero, suc, ◌-◌, cond, List, [], ◌∷◌, ◌++◌, length, drop, replicate, Some, None, codes, Option, nat_lt}
use Rattle.change.specs.declared.span.Span.{Span}
use Rattle.change.specs.declared.change.Change.{Change}
use Rattle.change.specs.declared.change.Change.TheVariants.{Unchanged, AddedOrReplaced, Deleted}
use Rattle.hunk.specs.declared.source.Source.{Source}
use Rattle.hunk.specs.declared.suspect.Suspect.{Suspect}
use Rattle.hunk.specs.declared.row.HunkRow.{HunkRow}
use Rattle.compare.specs.Tokens.{and_then, begins, plain_of, next_of}

-- so many items more, behind those that were read
abbrev pub more : {X : Type 0} → (List ℕ → Option (X × List ℕ)) → List X → ℕ → List ℕ → Option (List X × List ℕ)
more item xs zero s = Some (xs, s)
more item xs (suc n) s = and_then (item s) (λ x. more item (xs ++ x.0 ∷ []) n x.1)

-- a range, and a suspect
abbrev pub span_of : List ℕ → Option (Span × List ℕ)
span_of s = and_then (next_of s) (λ a. and_then (next_of a.1) (λ b. Some (record { start = a.0; end = b.0 }, b.1)))

abbrev pub suspect_of : List ℕ → Option (Suspect × List ℕ)
suspect_of s =
    and_then (next_of s) (λ c. and_then (span_of c.1) (λ r. Some (record { source = record { commit = c.0 }; range = r.0 }, r.1)))

-- the places of a row: those that are not in use are zeros
abbrev pub nobody : Suspect
nobody = record { source = record { commit = 0 }; range = record { start = 0; end = 0 } }

abbrev pub placed : List Suspect → List Suspect
placed xs = xs ++ replicate (8 - length xs) nobody

abbrev pub suspects_of : ℕ → List ℕ → Option (List Suspect × List ℕ)
suspects_of k s = and_then (more suspect_of [] k s) (λ xs. Some (placed xs.0, xs.1))

-- a row: a range, and at most eight suspects
abbrev pub row_of : List ℕ → Option (HunkRow × List ℕ)
row_of s =
    and_then (span_of s) (λ r. and_then (next_of r.1) (λ k. cond (nat_lt 8 k.0) None
    (and_then (suspects_of k.0 k.1) (λ xs. Some (record { range_in_blamed_file = r.0; suspects = xs.0; count = k.0 }, xs.1)))))

-- a change: behind `U`, `A` or `D`, and with the letter
abbrev pub unchanged_of : List ℕ → Option (Change × List ℕ)
unchanged_of s = and_then (span_of s) (λ r. Some (Unchanged r.0, r.1))

abbrev pub added_of : List ℕ → Option (Change × List ℕ)
added_of s = and_then (span_of s) (λ r. and_then (next_of r.1) (λ n. Some (AddedOrReplaced r.0 n.0, n.1)))

abbrev pub deleted_of : List ℕ → Option (Change × List ℕ)
deleted_of s = and_then (next_of s) (λ l. and_then (next_of l.1) (λ n. Some (Deleted l.0 n.0, n.1)))

abbrev pub change_of : List ℕ → Option (Change × List ℕ)
change_of s =
    cond (begins (codes " U") s) (unchanged_of (drop 2 s))
    (cond (begins (codes " A") s) (added_of (drop 2 s)) (cond (begins (codes " D") s) (deleted_of (drop 2 s)) None))

-- the suspect and its parent, in front of a line
abbrev pub sources_of : List ℕ → Option ((Source × Source) × List ℕ)
sources_of s =
    and_then (plain_of s) (λ a. and_then (next_of a.1) (λ b. Some ((record { commit = a.0 }, record { commit = b.0 }), b.1)))
