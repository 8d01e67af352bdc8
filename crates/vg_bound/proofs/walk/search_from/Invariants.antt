use Rattle.vg_bound.specs.Searching.{BeginsWith, IsSearching, waiting}
use Rattle.vg_bound.proofs.walk.search_from.Given as goal

abbrev pub invariant-loop-cost : goal.invariant-loop-cost
invariant-loop-cost l = IsSearching l.frames l.calls l.search × BeginsWith l.root l.search.stack

abbrev pub decreases-loop-cost : goal.decreases-loop-cost
decreases-loop-cost l = waiting l.calls l.search.marks
