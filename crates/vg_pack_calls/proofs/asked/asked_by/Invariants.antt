use Rattle.std.proofs.Common.{◌≡◌, [], drop}
use Rattle.vg_pack_calls.specs.Asked.{asked_from}
use Rattle.vg_pack_calls.proofs.asked.asked_by.Given as goal

abbrev pub invariant-loop-step : goal.invariant-loop-step
invariant-loop-step l = asked_from l.rows (drop l.step-index l.steps) ≡ asked_from [] l.steps
