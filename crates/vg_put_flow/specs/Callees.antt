-- Callees that are there.
use Rattle.std.specs.Prelude.{ℕ}
use Rattle.vg_lin.specs.declared.instr.Callee.{Callee}
use Rattle.vg_lin.specs.declared.instr.Callee.TheVariants.{Procedure, Code}
use Rattle.vg_templates.specs.Layouts.{Layout}
use Rattle.vg_put_values.specs.Within.{IsThere}

abbrev pub IsCalleeThere : Layout → Callee → Type 0
IsCalleeThere l (Procedure q) = Unit {0}
IsCalleeThere l (Code a) = IsThere l a
