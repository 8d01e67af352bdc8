use Rattle.std.proofs.Common.{◌≡◌, ◌++◌, drop, map}
use Rattle.vg_cases.specs.Fewer.{fewer}
use Rattle.vg_cases.proofs.dispatches.fewer_of_all.Given as goal

abbrev pub invariant-loop-cases : goal.invariant-loop-cases
invariant-loop-cases l = l.rows ++ map fewer (drop l.cases-index l.dispatches) ≡ map fewer l.dispatches
