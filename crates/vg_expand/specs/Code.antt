-- The expanded code as lists: what the functions of this crate make, in their own shape. No clause of a public function cites these.
use Rattle.std.specs.Prelude.{ℕ, zero, suc, ◌+◌, ◌-◌, ◌*◌, ◌%◌, ◌^◌, Bool, true, false, ◌==◌, ◌&&◌, nat_lt}
use Rattle.std.specs.Prelude.{List, [], ◌∷◌, ◌++◌, length, Option, Some, None, get_or}
use Rattle.std.specs.Prelude.{if◌then◌else◌}
use Rattle.vg_lin.specs.declared.instr.Operand.{Operand}
use Rattle.vg_lin.specs.declared.instr.Operand.TheVariants.{Local, Known}
use Rattle.vg_lin.specs.declared.instr.Operator.{Operator}
use Rattle.vg_lin.specs.declared.instr.Operator.TheVariants.{Plus, Minus, Times, Divide, Remainder, ShiftLeft, ShiftRight}
use Rattle.vg_lin.specs.declared.instr.Computation.{Computation}
use Rattle.vg_lin.specs.declared.instr.Plain.{Plain as PlainInstr}
use Rattle.vg_lin.specs.declared.instr.Plain.TheVariants.{Copy, Compute, Product}
use Rattle.vg_lin.specs.declared.instr.Callee.TheVariants.{Procedure as ByNumber}
use Rattle.vg_lin.specs.declared.instr.Passed.{Passed}
use Rattle.vg_lin.specs.declared.instr.Registers.{Registers}
use Rattle.vg_lin.specs.declared.instr.Registers.TheVariants.{Two, Three}
use Rattle.vg_lin.specs.declared.instr.Instr.{Instr}
use Rattle.vg_lin.specs.declared.instr.Instr.TheVariants.{Plain, When, Unless, Jump, Call}
use Rattle.vg_lin.specs.Program.{Procedure}

-- What the pass is told: the number of the first routine, and the widths of the locals.
pub record Base : Type 0 where
  pub first : ℕ
  pub widths : List ℕ

-- ---- calls

-- A result is cut to the width of its computation.
abbrev pub cut_to : (width to : ℕ) → List Instr
cut_to w to = if nat_lt w 4 then Plain (Compute (record { operator = Plus; width = w; to = to; left = Local to; right = Known 0 })) ∷ [] else []

-- An operand as an argument of a routine.
abbrev pub in_four : Operand → Passed
in_four a = record { width = 4; value = a }

abbrev pub in_one : Operand → Passed
in_one a = record { width = 1; value = a }

-- A call of a routine in place of a computation.
abbrev pub calling : (routine : ℕ) → Registers → Computation → List Instr
calling q rs c = Call (record { callee = ByNumber q; pushed = 0; registers = rs; to = Some (record { width = 4; local = c.to }) }) ∷ cut_to c.width c.to

-- The bits of a width.
abbrev pub mask : (width : ℕ) → Operand
mask w = Known (if nat_lt w 4 then 256 ^ w - 1 else 0xFFFFFFFF)

-- Of the results of a division the quotient is wanted by 0, the remainder by 1.
abbrev pub dividing : Computation → (wanted : Operand) → Registers
dividing c wanted = Three (in_four c.left) (in_four c.right) (in_one wanted)

-- What a shift to the right is told of the value: its bits. A shift to the left needs no more than the value and the amount.
abbrev pub shifting_left : Computation → Registers
shifting_left c = Two (in_four c.left) (in_four c.right)

abbrev pub shifting_right : Computation → Registers
shifting_right c = Three (in_four c.left) (in_four c.right) (in_four (mask c.width))

-- A shift by an amount that is not known is a call.
abbrev pub shifting : (routine : ℕ) → Registers → Computation → (amount : Operand) → List Instr
shifting q rs c (Known n) = Plain (Compute c) ∷ []
shifting q rs c (Local i) = calling q rs c

-- ---- products

-- An operand of one byte.
abbrev pub is_narrow : (widths : List ℕ) → Operand → Bool
is_narrow ws (Local i) = get_or ws i 4 == 1
is_narrow ws (Known v) = nat_lt v 256

abbrev pub narrow_or : (narrow : Bool) → (routine : ℕ) → Computation → (left right : Operand) → List Instr
narrow_or true q c a b = Plain (Product c.to a b) ∷ cut_to c.width c.to
narrow_or false q c a b = calling q (Two (in_four a) (in_four b)) c

-- The product of two bytes is one instruction.
abbrev pub product_of : Base → Computation → (left right : Operand) → List Instr
product_of base c a b = narrow_or (is_narrow base.widths a && is_narrow base.widths b) base.first c a b

-- The number whose power of 2 this is, from n on, among so many.
abbrev pub power_from : (left n k : ℕ) → Option ℕ
power_from zero n k = None
power_from (suc left) n k = if 2 ^ n == k then Some n else power_from left (suc n) k

abbrev pub power_of : ℕ → Option ℕ
power_of k = power_from 32 0 k

abbrev pub shifted_by : Computation → Operand → (n : ℕ) → Instr
shifted_by c a n = Plain (Compute (record c { operator = ShiftLeft; left = a; right = Known n }))

-- The operand is added to the local of the result, or taken from it.
abbrev pub joined_by : Operator → Computation → Operand → Instr
joined_by op c a = Plain (Compute (record c { operator = op; left = Local c.to; right = a }))

abbrev pub by_difference : Base → Computation → Operand → (k : ℕ) → Option ℕ → List Instr
by_difference base c a k (Some n) = shifted_by c a n ∷ joined_by Minus c a ∷ []
by_difference base c a k None = product_of base c a (Known k)

abbrev pub by_sum : Base → Computation → Operand → (k : ℕ) → Option ℕ → List Instr
by_sum base c a k (Some n) = shifted_by c a n ∷ joined_by Plus c a ∷ []
by_sum base c a k None = by_difference base c a k (power_of (k + 1))

abbrev pub is_in : Operand → (local : ℕ) → Bool
is_in (Local i) to = i == to
is_in (Known v) to = false

-- Two instructions serve only where the first does not overwrite the operand.
abbrev pub in_two : Base → Computation → Operand → (k : ℕ) → (overwritten : Bool) → List Instr
in_two base c a k true = product_of base c a (Known k)
in_two base c a k false = by_sum base c a k (power_of (k - 1))

abbrev pub by_power : Base → Computation → Operand → (k : ℕ) → Option ℕ → List Instr
by_power base c a k (Some n) = shifted_by c a n ∷ []
by_power base c a k None = in_two base c a k (is_in a c.to)

abbrev pub by_factor : Base → Computation → Operand → (k : ℕ) → (none : Bool) → List Instr
by_factor base c a k true = Plain (Copy c.to (Known 0)) ∷ []
by_factor base c a k false = by_power base c a k (power_of k)

-- The low bytes of a result that is known.
abbrev pub worked_out : (width n : ℕ) → ℕ
worked_out w n = if nat_lt w 4 then n % 256 ^ w else n % 2 ^ 32

abbrev pub multiplying : Base → Computation → (left right : Operand) → List Instr
multiplying base c (Known j) (Known k) = Plain (Copy c.to (Known (worked_out c.width (j * k)))) ∷ []
multiplying base c (Local i) (Known k) = by_factor base c (Local i) k (k == 0)
multiplying base c (Known k) (Local i) = by_factor base c (Local i) k (k == 0)
multiplying base c (Local i) (Local j) = product_of base c (Local i) (Local j)

-- ---- instructions

abbrev pub computing : Base → Computation → Operator → List Instr
computing base c Times = multiplying base c c.left c.right
computing base c Divide = calling (base.first + 1) (dividing c (Known 0)) c
computing base c Remainder = calling (base.first + 1) (dividing c (Known 1)) c
computing base c ShiftLeft = shifting (base.first + 2) (shifting_left c) c c.right
computing base c ShiftRight = shifting (base.first + 3) (shifting_right c) c c.right
computing base c op = Plain (Compute c) ∷ []

abbrev pub plain_at : Base → PlainInstr → List Instr
plain_at base (Compute c) = computing base c c.operator
plain_at base p = Plain p ∷ []

-- What stands for an instruction, by the new places of the procedure.
abbrev pub expanded_at : Base → (place : ℕ → ℕ) → Instr → List Instr
expanded_at base place (Plain p) = plain_at base p
expanded_at base place (When t to) = When t (place to) ∷ []
expanded_at base place (Unless t to) = Unless t (place to) ∷ []
expanded_at base place (Jump to) = Jump (place to) ∷ []
expanded_at base place i = i ∷ []

abbrev pub expanded_code : Base → (place : ℕ → ℕ) → List Instr → List Instr
expanded_code base place [] = []
expanded_code base place (i ∷ is) = expanded_at base place i ++ expanded_code base place is

-- How many instructions stand for one.
abbrev pub size : Base → Instr → ℕ
size base i = length (expanded_at base (λ to. 0) i)

-- The places of instructions, the first of which stands at this one.
abbrev pub places_from : Base → (at : ℕ) → List Instr → List ℕ
places_from base at [] = []
places_from base at (i ∷ is) = at ∷ places_from base (at + size base i) is

abbrev pub place_in : Base → List Instr → ℕ → ℕ
place_in base is to = get_or (places_from base 0 is) to 0

abbrev pub base_of : (first : ℕ) → Procedure → Base
base_of first m = record { first = first; widths = m.widths }

abbrev pub expanded : (first : ℕ) → Procedure → Procedure
expanded first m = record m { code = expanded_code (base_of first m) (place_in (base_of first m) m.code) m.code }
