-- Commits that wait for their turn: the later first, and of one time the lower number. Assumes nothing.
use Rattle.std.specs.Prelude.{Bool, ◌&&◌, ◌||◌, ℤ, int_le, int_lt, nat_lt}
use Rattle.rank.specs.declared.queued.QueuedCommit.{QueuedCommit}

abbrev pub same_time : ℤ → ℤ → Bool
same_time s t = int_le s t && int_le t s

-- a is older than b, or of its time with the higher number
abbrev pub waits_for : QueuedCommit → QueuedCommit → Bool
waits_for a b = int_lt a.time b.time || (same_time a.time b.time && nat_lt b.source.commit a.source.commit)
