-- The routines by their numbers.
use Rattle.std.specs.Prelude.{ℕ, ◌==◌, if◌then◌else◌}
use Rattle.vg_lin.specs.Program.{Procedure}
use Rattle.vg_arith.specs.Product.{mul}
use Rattle.vg_arith.specs.Division.{divide}
use Rattle.vg_arith.specs.Shifts.{shl, shr}

-- 0 the product, 1 division, 2 the shift left, 3 the shift right
abbrev pub routine_with : (which : ℕ) → Procedure
routine_with which = if which == 0 then mul else if which == 1 then divide else if which == 2 then shl else shr
