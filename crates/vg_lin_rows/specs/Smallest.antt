-- The smallest procedure of linear code.
use Rattle.std.specs.Prelude.{[], ◌∷◌, None}
use Rattle.vg_lin.specs.declared.instr.Operand.TheVariants.{Known}
use Rattle.vg_lin.specs.declared.instr.Instr.TheVariants.{Return}
use Rattle.vg_lin.specs.Program.{Procedure}

-- It has no locals and no result.
abbrev pub smallest : Procedure
smallest = record { method = None; params = 0; result = 0; widths = []; code = Return 0 (Known 0) ∷ [] }
