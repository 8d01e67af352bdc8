-- The registers in which a value is found are none of X.
use Rattle.std.proofs.Common.{ℕ, ◌≤◌, true, refl, arith}
use Rattle.vg_lin.specs.declared.instr.Operand.{Operand}
use Rattle.vg_lin.specs.declared.instr.Operand.TheVariants.{Local, Known}
use Rattle.vg_templates.specs.Layouts.{Layout, IsLayout}
use Rattle.vg_templates.specs.Numbers.{AreBeside}
use Rattle.vg_templates.specs.Operands.{found_in}
use Rattle.vg_templates.proofs.Finding.{found-beside}
use Rattle.vg_put_values.specs.Within.{IsThere}

pub found_beside_x : (l : Layout) → IsLayout l → (a : Operand) (n : ℕ) → IsThere l a → n ≤ 4 → AreBeside 26 28 (found_in l a 22 n)
found_beside_x l ok (Known x) n there few =
    found-beside l ok (λ k. true) (Known x) 22 n 26 28 tt (omega arith) (omega (arith, few)) (omega arith)
found_beside_x l ok (Local k) n there few =
    found-beside l ok (λ j. true) (Local k) 22 n 26 28 (there, refl) (omega arith) (omega (arith, few)) (omega arith)
