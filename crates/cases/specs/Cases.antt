-- All worked cases, over the definitions that the contracts of the code cite. Assumes nothing.
use Rattle.cases.specs.Cuts.{CutsHold}
use Rattle.cases.specs.Asked.{RangesHold}
use Rattle.cases.specs.Credits.{EntriesHold}

abbrev pub CasesHold : Type 0
CasesHold = CutsHold × RangesHold × EntriesHold
