-- Expanded code, and the routines.
use Rattle.std.specs.Prelude.{ℕ, ◌+◌, ◌-◌, Bool, true, false, ◌&&◌, ◌==◌, nat_lt, List, [], ◌∷◌, ◌++◌, Option, Some, None, if◌then◌else◌}
use Rattle.std.specs.List.{AllByRecursion}
use Rattle.std.proofs.Common.{◌≡◌, inl, refl}
use Rattle.vg_lin.specs.declared.instr.Operand.{Operand}
use Rattle.vg_lin.specs.declared.instr.Operand.TheVariants.{Local, Known}
use Rattle.vg_lin.specs.declared.instr.Operator.{Operator}
use Rattle.vg_lin.specs.declared.instr.Operator.TheVariants.{Plus, Minus, Times, Divide, Remainder, And, Or, Xor, ShiftLeft, ShiftRight}
use Rattle.vg_lin.specs.declared.instr.Computation.{Computation}
use Rattle.vg_lin.specs.declared.instr.Registers.{Registers}
use Rattle.vg_lin.specs.declared.instr.Registers.TheVariants.{Two}
use Rattle.vg_lin.specs.declared.instr.Plain.{Plain as PlainInstr}
use Rattle.vg_lin.specs.declared.instr.Plain.TheVariants.{Copy, Compute, Product, DivideSteps, Load, Store, ReadDevice, WriteDevice}
use Rattle.vg_lin.specs.declared.instr.Plain.TheVariants.{Push, Pop, Find, CodeOf, Stop}
use Rattle.vg_lin.specs.declared.instr.Instr.{Instr}
use Rattle.vg_lin.specs.declared.instr.Instr.TheVariants.{Plain, When, Unless, Jump, Call, Return, Idle}
use Rattle.vg_lin.specs.Program.{Procedure, Program}
use Rattle.vg_arith.specs.Simple.{are_simple}
use Rattle.vg_arith.specs.Product.{mul}
use Rattle.vg_arith.specs.Division.{divide}
use Rattle.vg_arith.specs.Shifts.{shl, shr}
use Rattle.vg_arith.specs.Numbers.{routine_with}
use Rattle.vg_expand.specs.Code.{Base, base_of, cut_to, calling, dividing, in_four, shifting, shifting_left, shifting_right, is_narrow, narrow_or, product_of, power_of}
use Rattle.vg_expand.specs.Code.{by_difference, by_sum, is_in, in_two, by_power, by_factor, multiplying, computing}
use Rattle.vg_expand.specs.Code.{plain_at, expanded_at, expanded_code, place_in, expanded}
use Rattle.vg_expand.proofs.Expanded.{code_simple}
use Rattle.vg_covered.specs.Fitting.{IsFit}
use Rattle.vg_fit_code.specs.Making.{IsPlainMade, IsMade}
use Rattle.vg_fit_code.proofs.Making.{all_fit}

module _ (p : Program) where
  abbrev AreMade : List Instr → Type 0
  AreMade is = AllByRecursion (IsMade p) is

  made_append : (is js : List Instr) → AreMade is → AreMade js → AreMade (is ++ js)
  made_append [] js h g = g
  made_append (i ∷ is) js (h, hs) g = (h, made_append is js hs g)

  either : (b : Bool) (is js : List Instr) → AreMade is → AreMade js → AreMade (if b then is else js)
  either true is js h g = h
  either false is js h g = g

  made_cut : (w to : ℕ) → AreMade (cut_to w to)
  made_cut w to = either (nat_lt w 4) _ [] (tt, tt) tt

  made_calling : (q : ℕ) (rs : Registers) (c : Computation) → AreMade (calling q rs c)
  made_calling q rs c = (inl refl, made_cut c.width c.to)

  made_product : (base : Base) (c : Computation) (a b : Operand) → AreMade (product_of base c a b)
  made_product base c a b = by_width (is_narrow base.widths a && is_narrow base.widths b)
    where
      by_width : (n : Bool) → AreMade (narrow_or n base.first c a b)
      by_width true = (tt, made_cut c.width c.to)
      by_width false = made_calling base.first (Two (in_four a) (in_four b)) c

  made_difference : (base : Base) (c : Computation) (a : Operand) (k : ℕ) (o : Option ℕ) → AreMade (by_difference base c a k o)
  made_difference base c a k (Some n) = (tt, (tt, tt))
  made_difference base c a k None = made_product base c a (Known k)

  made_sum : (base : Base) (c : Computation) (a : Operand) (k : ℕ) (o : Option ℕ) → AreMade (by_sum base c a k o)
  made_sum base c a k (Some n) = (tt, (tt, tt))
  made_sum base c a k None = made_difference base c a k (power_of (k + 1))

  made_two : (base : Base) (c : Computation) (a : Operand) (k : ℕ) (over : Bool) → AreMade (in_two base c a k over)
  made_two base c a k true = made_product base c a (Known k)
  made_two base c a k false = made_sum base c a k (power_of (k - 1))

  made_power : (base : Base) (c : Computation) (a : Operand) (k : ℕ) (o : Option ℕ) → AreMade (by_power base c a k o)
  made_power base c a k (Some n) = (tt, tt)
  made_power base c a k None = made_two base c a k (is_in a c.to)

  made_factor : (base : Base) (c : Computation) (a : Operand) (k : ℕ) (none : Bool) → AreMade (by_factor base c a k none)
  made_factor base c a k true = (tt, tt)
  made_factor base c a k false = made_power base c a k (power_of k)

  made_multiplying : (base : Base) (c : Computation) (a b : Operand) → AreMade (multiplying base c a b)
  made_multiplying base c (Known j) (Known k) = (tt, tt)
  made_multiplying base c (Local i) (Known k) = made_factor base c (Local i) k (k == 0)
  made_multiplying base c (Known k) (Local i) = made_factor base c (Local i) k (k == 0)
  made_multiplying base c (Local i) (Local j) = made_product base c (Local i) (Local j)

  made_shifting : (q : ℕ) (rs : Registers) (c : Computation) (a : Operand) → AreMade (shifting q rs c a)
  made_shifting q rs c (Known n) = (tt, tt)
  made_shifting q rs c (Local i) = made_calling q rs c

  made_computing : (base : Base) (c : Computation) (op : Operator) → AreMade (computing base c op)
  made_computing base c Times = made_multiplying base c c.left c.right
  made_computing base c Divide = made_calling (base.first + 1) (dividing c (Known 0)) c
  made_computing base c Remainder = made_calling (base.first + 1) (dividing c (Known 1)) c
  made_computing base c ShiftLeft = made_shifting (base.first + 2) (shifting_left c) c c.right
  made_computing base c ShiftRight = made_shifting (base.first + 3) (shifting_right c) c c.right
  made_computing base c Plus = (tt, tt)
  made_computing base c Minus = (tt, tt)
  made_computing base c And = (tt, tt)
  made_computing base c Or = (tt, tt)
  made_computing base c Xor = (tt, tt)

  made_plain : (base : Base) (q : PlainInstr) → IsPlainMade p q → AreMade (plain_at base q)
  made_plain base (Compute c) h = made_computing base c c.operator
  made_plain base (Copy to a) h = (h, tt)
  made_plain base (Product to a b) h = (h, tt)
  made_plain base (DivideSteps r d a) h = (h, tt)
  made_plain base (Load m w to a) h = (h, tt)
  made_plain base (Store w a from) h = (h, tt)
  made_plain base (ReadDevice to address) h = (h, tt)
  made_plain base (WriteDevice address a) h = (h, tt)
  made_plain base (Push w a) h = (h, tt)
  made_plain base (Pop w to) h = (h, tt)
  made_plain base (Find place to a) h = (h, tt)
  made_plain base (CodeOf q to) h = (h, tt)
  made_plain base (Stop code) h = (h, tt)

  made_at : (base : Base) (place : ℕ → ℕ) (i : Instr) → IsMade p i → AreMade (expanded_at base place i)
  made_at base place (Plain q) h = made_plain base q h
  made_at base place (When t to) h = (tt, tt)
  made_at base place (Unless t to) h = (tt, tt)
  made_at base place (Jump to) h = (tt, tt)
  made_at base place (Call c) h = (h, tt)
  made_at base place (Return w a) h = (tt, tt)
  made_at base place Idle h = (tt, tt)

  made_code : (base : Base) (place : ℕ → ℕ) (is : List Instr) → AreMade is → AreMade (expanded_code base place is)
  made_code base place [] h = tt
  made_code base place (i ∷ is) (h, hs) =
      made_append (expanded_at base place i) (expanded_code base place is) (made_at base place i h) (made_code base place is hs)

  pub expanded_fit : (first : ℕ) (m : Procedure) → AreMade m.code → AllByRecursion (IsFit p) (expanded first m).code
  expanded_fit first m h =
      all_fit p (expanded first m).code (code_simple (base_of first m) (place_in (base_of first m) m.code) m.code)
      (made_code (base_of first m) (place_in (base_of first m) m.code) m.code h)

-- ---- the routines

-- It names no device and no dispatch, divides by no known value, and calls nothing.
abbrev is_quiet : Instr → Bool
is_quiet (Plain (DivideSteps r d (Known x))) = false
is_quiet (Plain (ReadDevice to address)) = false
is_quiet (Plain (WriteDevice address a)) = false
is_quiet (Plain (Find place to a)) = false
is_quiet (Call c) = false
is_quiet i = true

abbrev are_quiet : List Instr → Bool
are_quiet [] = true
are_quiet (i ∷ is) = is_quiet i && are_quiet is

module _ (p : Program) where
  noisy : {A : Type 0} → false ≡ true → A
  noisy e = absurd (cc)

  quiet_made : (i : Instr) → is_quiet i ≡ true → IsMade p i
  quiet_made (Plain (Copy to a)) e = tt
  quiet_made (Plain (Compute c)) e = tt
  quiet_made (Plain (Product to a b)) e = tt
  quiet_made (Plain (DivideSteps r d (Local k))) e = tt
  quiet_made (Plain (DivideSteps r d (Known x))) e = noisy e
  quiet_made (Plain (Load m w to a)) e = tt
  quiet_made (Plain (Store w a from)) e = tt
  quiet_made (Plain (ReadDevice to address)) e = noisy e
  quiet_made (Plain (WriteDevice address a)) e = noisy e
  quiet_made (Plain (Push w a)) e = tt
  quiet_made (Plain (Pop w to)) e = tt
  quiet_made (Plain (Find place to a)) e = noisy e
  quiet_made (Plain (CodeOf q to)) e = tt
  quiet_made (Plain (Stop code)) e = tt
  quiet_made (When t to) e = tt
  quiet_made (Unless t to) e = tt
  quiet_made (Jump to) e = tt
  quiet_made (Call c) e = noisy e
  quiet_made (Return w a) e = tt
  quiet_made Idle e = tt

  all_quiet : (is : List Instr) → are_quiet is ≡ true → AllByRecursion (IsMade p) is
  all_quiet [] e = tt
  all_quiet (i ∷ is) e = by_first (is_quiet i) refl e (λ e1. all_quiet is e1)
    where
      by_first : (b : Bool) → is_quiet i ≡ b → (b && are_quiet is) ≡ true → (are_quiet is ≡ true → AllByRecursion (IsMade p) is)
          → AllByRecursion (IsMade p) (i ∷ is)
      by_first true is_so e rest = (quiet_made i is_so, rest e)
      by_first false is_so e rest = noisy e

  one_of : (b : Bool) (m n : Procedure) → AllByRecursion (IsFit p) m.code → AllByRecursion (IsFit p) n.code
      → AllByRecursion (IsFit p) (if b then m else n).code
  one_of true m n h g = h
  one_of false m n h g = g

  quiet_fit : (m : Procedure) → are_simple m.code ≡ true → are_quiet m.code ≡ true → AllByRecursion (IsFit p) m.code
  quiet_fit m simple quiet = all_fit p m.code simple (all_quiet m.code quiet)

  pub routine_fit : (which : ℕ) → AllByRecursion (IsFit p) (routine_with which).code
  routine_fit which =
      one_of (which == 0) mul _ (quiet_fit mul refl refl)
      (one_of (which == 1) divide _ (quiet_fit divide refl refl) (one_of (which == 2) shl shr (quiet_fit shl refl refl) (quiet_fit shr refl refl)))
