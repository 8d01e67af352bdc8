-- The lesser of two widths, and how many registers hold an operand.
use Rattle.std.proofs.Common.{◌≡◌, ℕ, zero, suc, ◌/◌, ◌%◌, ◌==◌, if◌then◌else◌, List, [], ◌∷◌, length, refl, ap, min, arith}
use Rattle.vg_lin.specs.declared.instr.Operand.{Operand}
use Rattle.vg_lin.specs.declared.instr.Operand.TheVariants.{Local, Known}
use Rattle.vg_templates.specs.Spots.{Spot, InFrame, InRegisters}
use Rattle.vg_templates.specs.Layouts.{Layout, width_of}
use Rattle.vg_templates.specs.Operands.{least, padded, known_registers, spot_found, found_in}

pub least_is : (w n : ℕ) → least w n ≡ min w n
least_is zero n = omega arith
least_is (suc w) zero = omega arith
least_is (suc w) (suc n) = let rest = least_is w n in omega (arith, rest)

pub padded_counted : (r w n : ℕ) → length (padded r w n) ≡ n
padded_counted r w zero = refl
padded_counted r zero (suc n) = ap suc (padded_counted r zero n)
padded_counted r (suc w) (suc n) = ap suc (padded_counted (suc r) w n)

pub known_counted : (d n v : ℕ) → length (known_registers d n v) ≡ n
known_counted d zero v = refl
known_counted d (suc n) v = ap suc (known_counted (suc d) n (v / 256))

spot_counted : (s : Spot) (w d n : ℕ) → length (spot_found s w d n) ≡ n
spot_counted (InFrame at) w d n = padded_counted d w n
spot_counted (InRegisters r) w d n = padded_counted r w n

pub found_counted : (l : Layout) (a : Operand) (d n : ℕ) → length (found_in l a d n) ≡ n
found_counted l (Local k) d n = spot_counted (l.spots k) (width_of l k) d n
found_counted l (Known x) d n = known_counted d n x
