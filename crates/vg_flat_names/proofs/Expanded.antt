-- What the instructions of expanded code name: no more than those for which they stand.
use Rattle.std.specs.Prelude.{ℕ, ◌+◌, ◌-◌, Bool, true, false, ◌==◌, ◌&&◌, nat_lt, List, [], ◌∷◌, ◌++◌, Option, Some, None, if◌then◌else◌}
use Rattle.std.specs.List.{AllByRecursion}
use Rattle.vg_lin.specs.declared.instr.Operand.{Operand}
use Rattle.vg_lin.specs.declared.instr.Operand.TheVariants.{Local, Known}
use Rattle.vg_lin.specs.declared.instr.Operator.{Operator}
use Rattle.vg_lin.specs.declared.instr.Operator.TheVariants.{Plus, Minus, Times, Divide, Remainder, And, Or, Xor, ShiftLeft, ShiftRight}
use Rattle.vg_lin.specs.declared.instr.Computation.{Computation}
use Rattle.vg_lin.specs.declared.instr.Registers.{Registers}
use Rattle.vg_lin.specs.declared.instr.Registers.TheVariants.{Two}
use Rattle.vg_lin.specs.declared.instr.Plain.{Plain as PlainInstr}
use Rattle.vg_lin.specs.declared.instr.Plain.TheVariants.{Copy, Compute, Product, DivideSteps, Load, Store, ReadDevice, WriteDevice}
use Rattle.vg_lin.specs.declared.instr.Plain.TheVariants.{Push, Pop, Find, CodeOf, Stop}
use Rattle.vg_lin.specs.declared.instr.Instr.{Instr}
use Rattle.vg_lin.specs.declared.instr.Instr.TheVariants.{Plain, When, Unless, Jump, Call, Return, Idle}
use Rattle.vg_lin.specs.Program.{Procedure}
use Rattle.vg_lin.specs.Meaning.{operands}
use Rattle.vg_expand.specs.Code.{Base, base_of, cut_to, calling, dividing, in_four, shifting, shifting_left, shifting_right, is_narrow}
use Rattle.vg_expand.specs.Code.{narrow_or, product_of, power_of}
use Rattle.vg_expand.specs.Code.{by_difference, by_sum, is_in, in_two, by_power, by_factor, multiplying, computing}
use Rattle.vg_expand.specs.Code.{plain_at, expanded_at, expanded_code, place_in, expanded}
use Rattle.vg_flat_names.specs.Names.{PlainNames, PassedNames, Names}

module _ (Ok : Operand → Type 0) (known : (n : ℕ) → Ok (Known n)) where
  -- It holds of all that these instructions name.
  abbrev All : List Instr → Type 0
  All is = AllByRecursion (Names Ok) is

  all_append : (is js : List Instr) → All is → All js → All (is ++ js)
  all_append [] js h g = g
  all_append (i ∷ is) js (h, hs) g = (h, all_append is js hs g)

  either : (b : Bool) (is js : List Instr) → All is → All js → All (if b then is else js)
  either true is js h g = h
  either false is js h g = g

  all_cut : (w to : ℕ) → Ok (Local to) → All (cut_to w to)
  all_cut w to h = either (nat_lt w 4) _ [] ((h, h, known 0), tt) tt

  all_calling : (q : ℕ) (rs : Registers) (c : Computation) → PassedNames Ok (operands rs) → Ok (Local c.to) → All (calling q rs c)
  all_calling q rs c hr h = ((tt, hr, h), all_cut c.width c.to h)

  all_product : (base : Base) (c : Computation) (a b : Operand) → Ok (Local c.to) → Ok a → Ok b → All (product_of base c a b)
  all_product base c a b h ha hb = by_width (is_narrow base.widths a && is_narrow base.widths b)
    where
      by_width : (n : Bool) → All (narrow_or n base.first c a b)
      by_width true = ((h, ha, hb), all_cut c.width c.to h)
      by_width false = all_calling base.first (Two (in_four a) (in_four b)) c (ha, (hb, tt)) h

  all_difference : (base : Base) (c : Computation) (a : Operand) (k : ℕ) (o : Option ℕ) → Ok (Local c.to) → Ok a → All (by_difference base c a k o)
  all_difference base c a k (Some n) h ha = ((h, ha, known n), ((h, h, ha), tt))
  all_difference base c a k None h ha = all_product base c a (Known k) h ha (known k)

  all_sum : (base : Base) (c : Computation) (a : Operand) (k : ℕ) (o : Option ℕ) → Ok (Local c.to) → Ok a → All (by_sum base c a k o)
  all_sum base c a k (Some n) h ha = ((h, ha, known n), ((h, h, ha), tt))
  all_sum base c a k None h ha = all_difference base c a k (power_of (k + 1)) h ha

  all_two : (base : Base) (c : Computation) (a : Operand) (k : ℕ) (over : Bool) → Ok (Local c.to) → Ok a → All (in_two base c a k over)
  all_two base c a k true h ha = all_product base c a (Known k) h ha (known k)
  all_two base c a k false h ha = all_sum base c a k (power_of (k - 1)) h ha

  all_power : (base : Base) (c : Computation) (a : Operand) (k : ℕ) (o : Option ℕ) → Ok (Local c.to) → Ok a → All (by_power base c a k o)
  all_power base c a k (Some n) h ha = ((h, ha, known n), tt)
  all_power base c a k None h ha = all_two base c a k (is_in a c.to) h ha

  all_factor : (base : Base) (c : Computation) (a : Operand) (k : ℕ) (none : Bool) → Ok (Local c.to) → Ok a → All (by_factor base c a k none)
  all_factor base c a k true h ha = ((h, known 0), tt)
  all_factor base c a k false h ha = all_power base c a k (power_of k) h ha

  all_multiplying : (base : Base) (c : Computation) (a b : Operand) → Ok (Local c.to) → Ok a → Ok b → All (multiplying base c a b)
  all_multiplying base c (Known j) (Known k) h ha hb = ((h, known _), tt)
  all_multiplying base c (Local i) (Known k) h ha hb = all_factor base c (Local i) k (k == 0) h ha
  all_multiplying base c (Known k) (Local i) h ha hb = all_factor base c (Local i) k (k == 0) h hb
  all_multiplying base c (Local i) (Local j) h ha hb = all_product base c (Local i) (Local j) h ha hb

  all_shifting : (q : ℕ) (rs : Registers) (c : Computation) (a : Operand) → PlainNames Ok (Compute c) → PassedNames Ok (operands rs) → All (shifting q rs c a)
  all_shifting q rs c (Known n) h hr = (h, tt)
  all_shifting q rs c (Local i) h hr = all_calling q rs c hr h.0

  all_computing : (base : Base) (c : Computation) (op : Operator) → PlainNames Ok (Compute c) → All (computing base c op)
  all_computing base c Times h = all_multiplying base c c.left c.right h.0 h.1 h.2
  all_computing base c Divide h = all_calling (base.first + 1) (dividing c (Known 0)) c (h.1, (h.2, (known 0, tt))) h.0
  all_computing base c Remainder h = all_calling (base.first + 1) (dividing c (Known 1)) c (h.1, (h.2, (known 1, tt))) h.0
  all_computing base c ShiftLeft h = all_shifting (base.first + 2) (shifting_left c) c c.right h (h.1, (h.2, tt))
  all_computing base c ShiftRight h = all_shifting (base.first + 3) (shifting_right c) c c.right h (h.1, (h.2, (known _, tt)))
  all_computing base c Plus h = (h, tt)
  all_computing base c Minus h = (h, tt)
  all_computing base c And h = (h, tt)
  all_computing base c Or h = (h, tt)
  all_computing base c Xor h = (h, tt)

  all_plain : (base : Base) (q : PlainInstr) → PlainNames Ok q → All (plain_at base q)
  all_plain base (Compute c) h = all_computing base c c.operator h
  all_plain base (Copy to a) h = (h, tt)
  all_plain base (Product to a b) h = (h, tt)
  all_plain base (DivideSteps rest digit a) h = (h, tt)
  all_plain base (Load m w to a) h = (h, tt)
  all_plain base (Store w a from) h = (h, tt)
  all_plain base (ReadDevice to address) h = (h, tt)
  all_plain base (WriteDevice address a) h = (h, tt)
  all_plain base (Push w a) h = (h, tt)
  all_plain base (Pop w to) h = (h, tt)
  all_plain base (Find place to a) h = (h, tt)
  all_plain base (CodeOf q to) h = (h, tt)
  all_plain base (Stop code) h = (h, tt)

  all_at : (base : Base) (place : ℕ → ℕ) (i : Instr) → Names Ok i → All (expanded_at base place i)
  all_at base place (Plain q) h = all_plain base q h
  all_at base place (When t to) h = (h, tt)
  all_at base place (Unless t to) h = (h, tt)
  all_at base place (Jump to) h = (tt, tt)
  all_at base place (Call c) h = (h, tt)
  all_at base place (Return w a) h = (h, tt)
  all_at base place Idle h = (tt, tt)

  all_code : (base : Base) (place : ℕ → ℕ) (is : List Instr) → All is → All (expanded_code base place is)
  all_code base place [] h = tt
  all_code base place (i ∷ is) (h, hs) =
      all_append (expanded_at base place i) (expanded_code base place is) (all_at base place i h) (all_code base place is hs)

  pub names_expanded : (first : ℕ) (m : Procedure) → All m.code → All (expanded first m).code
  names_expanded first m h = all_code (base_of first m) (place_in (base_of first m) m.code) m.code h
