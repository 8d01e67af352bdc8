-- Instructions that need no routine.
use Rattle.std.specs.Prelude.{Bool, true, false, ◌&&◌, List, [], ◌∷◌}
use Rattle.vg_lin.specs.declared.instr.Operator.{Operator}
use Rattle.vg_lin.specs.declared.instr.Operator.TheVariants.{Times, Divide, Remainder}
use Rattle.vg_lin.specs.declared.instr.Plain.TheVariants.{Compute}
use Rattle.vg_lin.specs.declared.instr.Instr.{Instr}
use Rattle.vg_lin.specs.declared.instr.Instr.TheVariants.{Plain}

-- No product, no division and no remainder.
abbrev pub needs_no_routine : Operator → Bool
needs_no_routine Times = false
needs_no_routine Divide = false
needs_no_routine Remainder = false
needs_no_routine op = true

abbrev pub is_simple : Instr → Bool
is_simple (Plain (Compute c)) = needs_no_routine c.operator
is_simple i = true

abbrev pub are_simple : List Instr → Bool
are_simple [] = true
are_simple (i ∷ is) = is_simple i && are_simple is
