-- What holds of each instruction that stands for a computation where arithmetic is expanded.
use Rattle.std.specs.Prelude.{ℕ, ◌+◌, ◌≤◌, Bool, true, false, nat_lt, [], ◌∷◌, Option, if◌then◌else◌}
use Rattle.std.specs.List.{AllByRecursion}
use Rattle.std.proofs.Common.{arith}
use Rattle.vg_lin.specs.declared.instr.Operand.{Operand}
use Rattle.vg_lin.specs.declared.instr.Operand.TheVariants.{Local, Known}
use Rattle.vg_lin.specs.declared.instr.Operator.{Operator}
use Rattle.vg_lin.specs.declared.instr.Operator.TheVariants.{Plus, Minus, Times, Divide, Remainder, And, Or, Xor, ShiftLeft, ShiftRight}
use Rattle.vg_lin.specs.declared.instr.Computation.{Computation}
use Rattle.vg_lin.specs.declared.instr.Registers.{Registers}
use Rattle.vg_lin.specs.declared.instr.Registers.TheVariants.{Two}
use Rattle.vg_lin.specs.declared.instr.Target.{Target}
use Rattle.vg_lin.specs.declared.instr.Callee.TheVariants.{Procedure as ByNumber}
use Rattle.vg_lin.specs.declared.instr.Plain.TheVariants.{Copy, Compute, Product}
use Rattle.vg_lin.specs.declared.instr.Instr.{Instr}
use Rattle.vg_lin.specs.declared.instr.Instr.TheVariants.{Plain, Call}
use Rattle.vg_expand.specs.Code.{Base, cut_to, calling, in_four, dividing, shifting, shifting_left, shifting_right, computing}
use Rattle.vg_expand.proofs.Expanded.{each_product}

-- It holds of all copies, computations and products of two bytes, and of the calls of routines, which have the numbers from the first one on.
pub record HoldsOfArithmetic (Has : Instr → Type 0) (first : ℕ) : Type 0 where
  pub copies : (to : ℕ) (a : Operand) → Has (Plain (Copy to a))
  pub computes : (c : Computation) → Has (Plain (Compute c))
  pub products : (to : ℕ) (a b : Operand) → Has (Plain (Product to a b))
  pub routines : (q : ℕ) (rs : Registers) (to : Option Target) → first ≤ q
      → Has (Call (record { callee = ByNumber q; pushed = 0; registers = rs; to = to }))

module _ (Has : Instr → Type 0) (base : Base) (k : HoldsOfArithmetic Has base.first) where
  each_cut : (w to : ℕ) → AllByRecursion Has (cut_to w to)
  each_cut w to = by_test (nat_lt w 4)
    where
      by_test : (b : Bool)
          → AllByRecursion Has (if b then Plain (Compute (record { operator = Plus; width = w; to = to; left = Local to; right = Known 0 })) ∷ [] else [])
      by_test true = (k.computes _, tt)
      by_test false = tt

  each_calling : (q : ℕ) (rs : Registers) (c : Computation) → base.first ≤ q → AllByRecursion Has (calling q rs c)
  each_calling q rs c le = (k.routines q rs _ le, each_cut c.width c.to)

  each_shifting : (q : ℕ) (rs : Registers) (c : Computation) (a : Operand) → base.first ≤ q → AllByRecursion Has (shifting q rs c a)
  each_shifting q rs c (Known n) le = (k.computes c, tt)
  each_shifting q rs c (Local i) le = each_calling q rs c le

  pub each_computing : (c : Computation) (op : Operator) → AllByRecursion Has (computing base c op)
  each_computing c Plus = (k.computes c, tt)
  each_computing c Minus = (k.computes c, tt)
  each_computing c Times =
      each_product (AllByRecursion Has) base c (λ a b. each_calling base.first (Two (in_four a) (in_four b)) c (omega arith))
      (λ a b. (k.products c.to a b, each_cut c.width c.to)) (λ v. (k.copies c.to (Known v), tt)) (λ a n. (k.computes _, tt))
      (λ a n. (k.computes _, (k.computes _, tt))) (λ a n. (k.computes _, (k.computes _, tt))) c.left c.right
  each_computing c Divide = each_calling (base.first + 1) (dividing c (Known 0)) c (omega arith)
  each_computing c Remainder = each_calling (base.first + 1) (dividing c (Known 1)) c (omega arith)
  each_computing c And = (k.computes c, tt)
  each_computing c Or = (k.computes c, tt)
  each_computing c Xor = (k.computes c, tt)
  each_computing c ShiftLeft = each_shifting (base.first + 2) (shifting_left c) c c.right (omega arith)
  each_computing c ShiftRight = each_shifting (base.first + 3) (shifting_right c) c c.right (omega arith)
