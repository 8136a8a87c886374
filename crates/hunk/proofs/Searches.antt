-- The range of a suspect.
use Rattle.std.proofs.Common.{◌≡◌, ◌+◌, ◌-◌, ◌<◌, ap, arith}
use Rattle.change.specs.declared.span.Span.{Span}
use Rattle.hunk.specs.Hunks.{span_of}

-- a range of as many lines as r is told by its start
pub told-by-start : (s r : Span) → r.start < r.end → s.start + r.end ≡ s.end + r.start → s ≡ span_of (r.end - r.start) s.start
told-by-start s r h e =
    let z : s.end ≡ s.start + (r.end - r.start) = omega arith in
    ap (λ x. record { start = s.start; end = x }) z
