-- The text of recorded lists. A heading line, `commit NAME`, begins a list; the lines behind it are its own,
-- up to a blank line, the next heading or the end of the text. Assumes nothing.
use Rattle.std.specs.Prelude.{ℕ, ◌+◌, Bool, true, false, List, [], ◌∷◌, map, Some, None, codes, Option}
use Rattle.change.specs.declared.change.Change.{Change}
use Rattle.text.specs.Cuts.{lines_of}
use Rattle.listing.specs.declared.line.Line.{Line}
use Rattle.listing.specs.declared.line.Line.TheVariants.{Heading, Change as Changed, Blank, Other}
use Rattle.listing.specs.Parsing.{skip, change_of}

-- what a line is
pub data Kind : Type 0 where
  heading : List ℕ → Kind
  recorded : Change → Kind
  blank : Kind
  other : Kind

abbrev pub change_kind : Option Change → Kind
change_kind None = other
change_kind (Some c) = recorded c

abbrev pub unless_heading : Option (List ℕ) → List ℕ → Kind
unless_heading (Some name) line = heading name
unless_heading None line = change_kind (change_of line)

abbrev pub kind_of : List ℕ → Kind
kind_of [] = blank
kind_of (b ∷ bs) = unless_heading (skip (codes "commit ") (b ∷ bs)) (b ∷ bs)

abbrev pub tell : Line → Kind
tell (Heading name) = heading name.now
tell (Changed c) = recorded c
tell Blank = blank
tell Other = other

abbrev pub kinds : List ℕ → List Kind
kinds text = map kind_of (lines_of text)

-- the changes of the list whose lines these are, and the numbers of its lines that are no change, from line i on
abbrev pub changes_in : List Kind → List Change
changes_in [] = []
changes_in (heading name ∷ ks) = []
changes_in (blank ∷ ks) = []
changes_in (recorded c ∷ ks) = c ∷ changes_in ks
changes_in (other ∷ ks) = changes_in ks

abbrev pub strays_in : ℕ → List Kind → List ℕ
strays_in i [] = []
strays_in i (heading name ∷ ks) = []
strays_in i (blank ∷ ks) = []
strays_in i (recorded c ∷ ks) = strays_in (i + 1) ks
strays_in i (other ∷ ks) = i ∷ strays_in (i + 1) ks

-- a list as the text has it, with the number of its heading line
pub record Entry : Type 0 where
  pub line : ℕ
  pub name : List ℕ
  pub changes : List Change
  pub strays : List ℕ

-- all lists, the lines being counted from i
abbrev pub lists_of : ℕ → List Kind → List Entry
lists_of i [] = []
lists_of i (heading name ∷ ks) = record { line = i; name = name; changes = changes_in ks; strays = strays_in (i + 1) ks } ∷ lists_of (i + 1) ks
lists_of i (blank ∷ ks) = lists_of (i + 1) ks
lists_of i (recorded c ∷ ks) = lists_of (i + 1) ks
lists_of i (other ∷ ks) = lists_of (i + 1) ks

-- the numbers of the lines that belong to no list and are not blank; whether a list is open is handed on
abbrev pub outside_of : ℕ → Bool → List Kind → List ℕ
outside_of i open? [] = []
outside_of i open? (heading name ∷ ks) = outside_of (i + 1) true ks
outside_of i open? (blank ∷ ks) = outside_of (i + 1) false ks
outside_of i true (recorded c ∷ ks) = outside_of (i + 1) true ks
outside_of i false (recorded c ∷ ks) = i ∷ outside_of (i + 1) false ks
outside_of i true (other ∷ ks) = outside_of (i + 1) true ks
outside_of i false (other ∷ ks) = i ∷ outside_of (i + 1) false ks
