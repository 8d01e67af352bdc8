use Rattle.std.proofs.Common.{◌≡◌, ◌++◌, drop}
use Rattle.vg_core.specs.HeldProgram.{program_at}
use Rattle.vg_pack_calls.specs.Asked.{steps_from}
use Rattle.vg_pack_calls.proofs.asked.live_steps.Given as goal

abbrev pub invariant-loop-index : goal.invariant-loop-index
invariant-loop-index l = l.steps.items ++ steps_from (program_at l.program) l.index (drop l.index l.live) ≡ steps_from (program_at l.program) 0 l.live
