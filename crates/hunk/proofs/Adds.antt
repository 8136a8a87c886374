-- A suspect added behind the others.
use Rattle.std.proofs.Common.{List, [], ◌∷◌, ◌++◌, sym}
use Rattle.std.specs.List.{AllByRecursion}
use Rattle.std.proofs.ByRecursion.{All-push}
use Rattle.change.specs.declared.span.Span.{Span}
use Rattle.hunk.specs.declared.suspect.Suspect.{Suspect}
use Rattle.hunk.proofs.Owing.{Even, Inside, Other, Distinct, Owed}

push-distinct : (ss : List Suspect) (n : Suspect) → AllByRecursion (Other n.source) ss → Distinct ss → Distinct (ss ++ n ∷ [])
push-distinct [] n a d = (tt, tt)
push-distinct (s ∷ ss) n a d = (All-push (Other s.source) ss n d.0 (λ e. a.0 (sym e)), push-distinct ss n a.1 d.1)

pub push-owed : (r : Span) (ss : List Suspect) (n : Suspect) → Even r n → Inside n → AllByRecursion (Other n.source) ss → Owed r ss → Owed r (ss ++ n ∷ [])
push-owed r ss n e i a o = record {
  level = All-push (Even r) ss n o.level e;
  within = All-push Inside ss n o.within i;
  apart = push-distinct ss n a o.apart;
}
