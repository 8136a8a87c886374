-- The lists that were read, as entries. Assumes nothing.
use Rattle.std.specs.Prelude.{◌≡◌, ℕ, ◌+◌, ◌≤◌, true, false, List, length, vec_items}
use Rattle.listing.specs.declared.read.Recorded.{Recorded}
use Rattle.listing.specs.Listings.{Kind, Entry, kinds, changes_in, strays_in, lists_of, outside_of}

abbrev pub entry_of : Recorded → Entry
entry_of l = record { line = l.line; name = l.name.now; changes = vec_items l.changes; strays = vec_items l.strays }

-- the list of a heading at `line`, whose own lines begin at line i
abbrev pub entry_at : ℕ → List ℕ → ℕ → List Kind → Entry
entry_at line name i ks = record { line = line; name = name; changes = changes_in ks; strays = strays_in i ks }

-- the lines of an open list were passed, from line i of the text s to line j of the text t: what stands behind it is all that is left to read
pub record Passed (i : ℕ) (s : List ℕ) (j : ℕ) (t : List ℕ) : Type 0 where
  pub lists : lists_of j (kinds t) ≡ lists_of i (kinds s)
  pub outside : outside_of j false (kinds t) ≡ outside_of i true (kinds s)
  pub counted : j + length t ≤ i + length s
  pub shorter : length t ≤ length s
