use Rattle.std.proofs.Common.{◌≡◌, ◌++◌, drop}
use Rattle.vg_pack_calls.proofs.asked.append.Given as goal

abbrev pub invariant-loop-step : goal.invariant-loop-step
invariant-loop-step l = l.steps.items ++ drop l.step-index l.more ≡ l.fn.steps.items ++ l.more
