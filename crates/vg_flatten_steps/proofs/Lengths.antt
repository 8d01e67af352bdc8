-- How many arguments there are.
use Rattle.std.specs.Prelude.{suc, ◌≤◌, Bool, true, false, List, [], ◌∷◌, length}
use Rattle.std.proofs.Common.{◌≡◌, refl, ap, arith}
use Rattle.vg_lin.specs.declared.instr.Operand.{Operand}
use Rattle.vg_flatten_shapes.specs.declared.layout.Width.{Width}
use Rattle.vg_flatten_steps.specs.Calls.{in_widths, with_receiver}

widths_long : (ws : List Width) (xs : List Operand) → length (in_widths ws xs) ≡ length xs
widths_long [] [] = refl
widths_long (w ∷ ws) [] = refl
widths_long [] (a ∷ xs) = ap suc (widths_long [] xs)
widths_long (w ∷ ws) (a ∷ xs) = ap suc (widths_long ws xs)

pub few : (ws : List Width) (xs : List Operand) → length xs ≤ 256 → length (in_widths ws xs) ≤ 256
few ws xs h = let l = widths_long ws xs in omega (arith, l, h)

pub with_few : (ws : List Width) (b : Bool) (xs : List Operand) → length xs ≤ 255 → length (in_widths ws (with_receiver b xs)) ≤ 256
with_few ws b xs h = few ws (with_receiver b xs) (one_more b)
  where
    one_more : (b : Bool) → length (with_receiver b xs) ≤ 256
    one_more true = omega (arith, h)
    one_more false = omega (arith, h)
