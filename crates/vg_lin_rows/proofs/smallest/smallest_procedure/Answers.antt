use Rattle.std.specs.Prelude.{◌++◌, [], ◌∷◌}
use Rattle.std.proofs.Common.{ap, ◌∙◌}
use Rattle.vg_lin.specs.declared.instr.Operand.TheVariants.{Known}
use Rattle.vg_lin.specs.declared.instr.Instr.TheVariants.{Return}
use Rattle.vg_lin_rows.proofs.Soundness.{sound_as}
use Rattle.vg_lin_rows.proofs.smallest.smallest_procedure.Goals as goal

pub new-requires-2 : goal.new-requires-2
new-requires-2 c = sound_as c.new.result c.push.new.self c.new.ensures (c.in_ok-push.ensures.ok ∙ ap (λ z. z ++ Return 0 (Known 0) ∷ []) c.new-code.ensures)
