use Rattle.std.proofs.Common.{◌≡◌, drop}
use Rattle.vg_reach.specs.Reaches.{least_of, least_made}
use Rattle.vg_reach.proofs.making.least_made.Given as goal

abbrev pub invariant-loop-step : goal.invariant-loop-step
invariant-loop-step l = least_of l.least (least_made (drop l.step-index l.steps)) ≡ least_made l.steps
