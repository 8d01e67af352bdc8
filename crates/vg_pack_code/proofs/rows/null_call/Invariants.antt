use Rattle.std.proofs.Common.{◌≡◌}
use Rattle.vg_meaning.specs.Code.{Code}
use Rattle.vg_firm.specs.declared.step.Step.{Step}
use Rattle.vg_packing.specs.Pass.{forgets}
use Rattle.vg_pack_code.specs.Lists.{packed_arms}
use Rattle.vg_pack_code.proofs.rows.null_call.Given as goal

-- so many values are dropped so far
abbrev pub invariant-loop-index : goal.invariant-loop-index
invariant-loop-index l = (z : Code Step) → packed_arms l.rows.items z ≡ forgets l.index z
