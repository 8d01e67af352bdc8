-- Expanded code takes at most the words of what stands for each instruction.
use Rattle.std.specs.Prelude.{ℕ, ◌+◌, ◌-◌, ◌≤◌, Bool, true, false, ◌==◌, ◌&&◌, List, [], ◌∷◌, ◌++◌, Option, Some, None}
use Rattle.std.proofs.Common.{◌≡◌, arith}
use Rattle.vg_lin.specs.declared.instr.Operand.{Operand}
use Rattle.vg_lin.specs.declared.instr.Operand.TheVariants.{Local, Known}
use Rattle.vg_lin.specs.declared.instr.Operator.{Operator}
use Rattle.vg_lin.specs.declared.instr.Operator.TheVariants.{Plus, Minus, Times, Divide, Remainder, And, Or, Xor, ShiftLeft, ShiftRight}
use Rattle.vg_lin.specs.declared.instr.Computation.{Computation}
use Rattle.vg_lin.specs.declared.instr.Plain.{Plain as PlainInstr}
use Rattle.vg_lin.specs.declared.instr.Plain.TheVariants.{Copy, Compute, Product, DivideSteps, Load, Store, ReadDevice, WriteDevice, Push, Pop}
use Rattle.vg_lin.specs.declared.instr.Plain.TheVariants.{Find, CodeOf, Stop}
use Rattle.vg_lin.specs.declared.instr.Instr.{Instr}
use Rattle.vg_lin.specs.declared.instr.Instr.TheVariants.{Plain, When, Unless, Jump, Call, Return, Idle}
use Rattle.vg_lin.specs.Program.{Procedure}
use Rattle.vg_expand.specs.Code.{Base, power_of, is_in, is_narrow, narrow_or, product_of, by_difference, by_sum, in_two, by_power, by_factor, multiplying}
use Rattle.vg_expand.specs.Code.{shifting, shifting_left, shifting_right, computing, plain_at, expanded_at, expanded_code, expanded, base_of, place_in}
use Rattle.vg_step_words.specs.Words.{list_words, unknown, grown_words, grown_list}
use Rattle.vg_step_words.proofs.Operands.{found_few}

module _ (cases : ℕ → ℕ) where
  pub list_append : (xs ys : List Instr) → list_words cases (xs ++ ys) ≡ list_words cases xs + list_words cases ys
  list_append [] ys = omega arith
  list_append (x ∷ xs) ys = let rest = list_append xs ys in omega (arith, rest)

  module _ (base : Base) (c : Computation) (i : ℕ) where
    -- a product of two bytes is no longer than a call
    narrow_few : (narrow : Bool) (b : Operand)
        → list_words cases (narrow_or narrow base.first c (Local i) b) ≤ list_words cases (product_of unknown c (Local i) b)
    narrow_few true (Local j) = omega arith
    narrow_few true (Known y) = let few = found_few (Known y) 1 in omega (arith, few)
    narrow_few false b = omega arith

    product_few : (b : Operand) → list_words cases (product_of base c (Local i) b) ≤ list_words cases (product_of unknown c (Local i) b)
    product_few b = narrow_few (is_narrow base.widths (Local i) && is_narrow base.widths b) b

    difference_few : (k : ℕ) (o : Option ℕ) → list_words cases (by_difference base c (Local i) k o) ≤ list_words cases (by_difference unknown c (Local i) k o)
    difference_few k (Some n) = omega arith
    difference_few k None = product_few (Known k)

    sum_few : (k : ℕ) (o : Option ℕ) → list_words cases (by_sum base c (Local i) k o) ≤ list_words cases (by_sum unknown c (Local i) k o)
    sum_few k (Some n) = omega arith
    sum_few k None = difference_few k (power_of (k + 1))

    two_few : (k : ℕ) (over : Bool) → list_words cases (in_two base c (Local i) k over) ≤ list_words cases (in_two unknown c (Local i) k over)
    two_few k true = product_few (Known k)
    two_few k false = sum_few k (power_of (k - 1))

    power_few : (k : ℕ) (o : Option ℕ) → list_words cases (by_power base c (Local i) k o) ≤ list_words cases (by_power unknown c (Local i) k o)
    power_few k (Some n) = omega arith
    power_few k None = two_few k (is_in (Local i) c.to)

    factor_few : (k : ℕ) (none : Bool) → list_words cases (by_factor base c (Local i) k none) ≤ list_words cases (by_factor unknown c (Local i) k none)
    factor_few k true = omega arith
    factor_few k false = power_few k (power_of k)

  module _ (base : Base) (c : Computation) where
    times_few : (a b : Operand) → list_words cases (multiplying base c a b) ≤ list_words cases (multiplying unknown c a b)
    times_few (Known j) (Known k) = omega arith
    times_few (Local i) (Known k) = factor_few base c i k (k == 0)
    times_few (Known k) (Local i) = factor_few base c i k (k == 0)
    times_few (Local i) (Local j) = product_few base c i (Local j)

    left_few : (b : Operand)
        → list_words cases (shifting (base.first + 2) (shifting_left c) c b) ≤ list_words cases (shifting (unknown.first + 2) (shifting_left c) c b)
    left_few (Known n) = omega arith
    left_few (Local k) = omega arith

    right_few : (b : Operand)
        → list_words cases (shifting (base.first + 3) (shifting_right c) c b) ≤ list_words cases (shifting (unknown.first + 3) (shifting_right c) c b)
    right_few (Known n) = omega arith
    right_few (Local k) = omega arith

    computed_few : (o : Operator) → list_words cases (computing base c o) ≤ list_words cases (computing unknown c o)
    computed_few Times = times_few c.left c.right
    computed_few Divide = omega arith
    computed_few Remainder = omega arith
    computed_few ShiftLeft = left_few c.right
    computed_few ShiftRight = right_few c.right
    computed_few Plus = omega arith
    computed_few Minus = omega arith
    computed_few And = omega arith
    computed_few Or = omega arith
    computed_few Xor = omega arith

  module _ (base : Base) (place : ℕ → ℕ) where
    plain_few : (p : PlainInstr) → list_words cases (plain_at base p) ≤ grown_words cases (Plain p)
    plain_few (Compute c) = computed_few base c c.operator
    plain_few (Copy to a) = omega arith
    plain_few (Product to a b) = omega arith
    plain_few (DivideSteps r d a) = omega arith
    plain_few (Load m w to a) = omega arith
    plain_few (Store w a from) = omega arith
    plain_few (ReadDevice to address) = omega arith
    plain_few (WriteDevice address a) = omega arith
    plain_few (Push w a) = omega arith
    plain_few (Pop w to) = omega arith
    plain_few (Find d to a) = omega arith
    plain_few (CodeOf q to) = omega arith
    plain_few (Stop code) = omega arith

    instr_few : (i : Instr) → list_words cases (expanded_at base place i) ≤ grown_words cases i
    instr_few (Plain p) = plain_few p
    instr_few (When t to) = omega arith
    instr_few (Unless t to) = omega arith
    instr_few (Jump to) = omega arith
    instr_few (Call c) = omega arith
    instr_few (Return w a) = omega arith
    instr_few Idle = omega arith

    code_few : (is : List Instr) → list_words cases (expanded_code base place is) ≤ grown_list cases is
    code_few [] = omega arith
    code_few (i ∷ is) =
        let one = instr_few i in
        let rest = code_few is in
        let all = list_append (expanded_at base place i) (expanded_code base place is) in omega (arith, one, rest, all)

  pub expansion_few : (first : ℕ) (m : Procedure) → list_words cases (expanded first m).code ≤ grown_list cases m.code
  expansion_few first m = code_few (base_of first m) (place_in (base_of first m) m.code) m.code
