-- Small bodies and their flattened code, instruction by instruction. The code was worked by hand.
use Rattle.std.specs.Prelude.{◌≡◌, refl, ℕ, zero, suc, ◌++◌, true, false, List, [], ◌∷◌, length, map, replicate, Option, Some, None}
use Rattle.std.specs.Option.{option_map}
use Rattle.vg_meaning.specs.Code.{Code, Nothing, Then, Do, If, Loop, Break, Continue, Return as Returning}
use Rattle.vg_firm.specs.declared.step.Home.TheVariants.{Ram, Flash}
use Rattle.vg_firm.specs.declared.step.Order.TheVariants.{Signed}
use Rattle.vg_firm.specs.declared.step.Operator.TheVariants.{Plus, Divide, Remainder, Less, Unequal, ShiftLeft, ShiftRight, Concat}
use Rattle.vg_firm.specs.declared.step.Prefix.TheVariants.{Complement, Cut}
use Rattle.vg_firm.specs.declared.step.ArrayPlace.{ArrayPlace}
use Rattle.vg_firm.specs.declared.step.Elements.{Elements}
use Rattle.vg_firm.specs.declared.step.Step.{Step}
use Rattle.vg_firm.specs.declared.step.Step.TheVariants.{Number, Local as Get, SetLocal, Forget, Operate, Apply, ReadDevice, WriteDevice, LoadItem, StoreItem}
use Rattle.vg_firm.specs.declared.step.Step.TheVariants.{Load as LoadOne, Store as StoreOne, LoadAt, StoreAt, Length, LoadNothing, StoreNothing, IsWithin, StopUnlessWithin, This, Bind, BindFor, Call as CallOf, CallFor, CallValue}
use Rattle.vg_firm.specs.Program.{Procedure}
use Rattle.vg_lin.specs.declared.instr.Operand.{Operand}
use Rattle.vg_lin.specs.declared.instr.Operand.TheVariants.{Local, Known}
use Rattle.vg_lin.specs.declared.instr.Operator.{Operator as LinOperator}
use Rattle.vg_lin.specs.declared.instr.Operator.TheVariants.{Plus as Sum, Minus as Difference, Times as Product, Divide as Quotient, Remainder as Rest, And as Mask, ShiftLeft as LeftShift, ShiftRight as RightShift}
use Rattle.vg_lin.specs.declared.instr.Comparison.TheVariants.{Below, Less as IsLess, Same}
use Rattle.vg_lin.specs.declared.instr.Test.{Test}
use Rattle.vg_lin.specs.declared.instr.Plain.TheVariants.{Copy, Compute, Load as LoadsBytes, Store as StoresBytes, WriteDevice as Writes, Push, Find, CodeOf, Stop}
use Rattle.vg_lin.specs.declared.instr.Memory.TheVariants.{Ram as InRam, Flash as InFlash}
use Rattle.vg_lin.specs.declared.instr.Callee.TheVariants.{Procedure as ByNumber, Code as ByCode}
use Rattle.vg_lin.specs.declared.instr.Passed.{Passed}
use Rattle.vg_lin.specs.declared.instr.Target.{Target}
use Rattle.vg_lin.specs.declared.instr.Registers.{Registers}
use Rattle.vg_lin.specs.declared.instr.Registers.TheVariants.{One, Two, Four}
use Rattle.vg_lin.specs.declared.instr.Instr.{Instr}
use Rattle.vg_lin.specs.declared.instr.Instr.TheVariants.{Plain, When, Unless, Jump, Call, Return}
use Rattle.vg_flatten_shapes.specs.declared.layout.Place.{Place}
use Rattle.vg_flatten_shapes.specs.declared.layout.Layout.{Layout}
use Rattle.vg_flatten_shapes.specs.declared.layout.Passing.{Passing}
use Rattle.vg_flatten_shapes.specs.declared.layout.Width.TheVariants.{One as OneByte, Two as TwoBytes, Four as FourBytes}
use Rattle.vg_flatten_shapes.specs.Shapes.{empty}
use Rattle.vg_flatten_shapes.specs.Blocks.{open_code, set_in}
use Rattle.vg_flatten_shapes.specs.Made.{Made, Gives, Refused}
use Rattle.vg_flatten_control.specs.Flat.{flat}
use Rattle.vg_flatten.specs.Flattened.{receivers, own_widths, result_width, whole}

-- One step behind another, and then code.
abbrev pub steps : List Step → Code Step → Code Step
steps [] rest = rest
steps (p ∷ ps) rest = Then (Do p) (steps ps rest)

abbrev pub code_for : Procedure → Made → Option (List Instr)
code_for m (Gives b s) = Some (map (set_in 0 0) (open_code (whole m b) 0))
code_for m (Refused why) = None

-- The code of a body with so many temporaries, where columns and tables stand so.
abbrev pub flattened_in : Layout → (temps : ℕ) → Procedure → Option (List Instr)
flattened_in lay temps m =
    code_for m (flat lay (record { receiver = receivers m.receives; on_objects = m.on_objects; locals = length (own_widths m); temps = temps; result = result_width m }) m.body empty)

-- The same without columns.
abbrev pub flattened : (temps : ℕ) → Procedure → Option (List Instr)
flattened temps m = flattened_in (record { ram = []; flash = []; tables = []; lone_arrays = []; passing = [] }) temps m

-- A procedure whose locals have these widths, the first ones being its parameters.
abbrev pub procedure : (params : ℕ) → (widths : List ℕ) → Code Step → Procedure
procedure params widths body = record { method = 0; params = params; receives = false; on_objects = false; widths = widths; result = 4; calls = []; body = body }

-- The same of a class.
abbrev pub method : (params : ℕ) → (widths : List ℕ) → Code Step → Procedure
method params widths body = record { method = 0; params = params; receives = true; on_objects = true; widths = widths; result = 4; calls = []; body = body }

abbrev pub sum : (width to : ℕ) → (x y : Operand) → Instr
sum width to x y = Plain (Compute (record { operator = Sum; width = width; to = to; left = x; right = y }))

abbrev pub computes : LinOperator → (width to : ℕ) → (x y : Operand) → Instr
computes op width to x y = Plain (Compute (record { operator = op; width = width; to = to; left = x; right = y }))

abbrev pub below : (x y : Operand) → Test
below x y = record { comparison = Below; width = 4; left = x; right = y }

abbrev pub less : (x y : Operand) → Test
less x y = record { comparison = IsLess; width = 4; left = x; right = y }

abbrev pub is_zero : Operand → Test
is_zero x = record { comparison = Same; width = 4; left = x; right = Known 0 }

-- A receiver, or an argument, of two bytes; and an argument, and a result, of four.
abbrev pub two : Operand → Passed
two a = record { width = 2; value = a }

abbrev pub four : Operand → Passed
four a = record { width = 4; value = a }

abbrev pub four_to : (local : ℕ) → Option Target
four_to to = Some (record { width = 4; local = to })

abbrev pub calls : (q : ℕ) → Registers → (to : ℕ) → Instr
calls q args to = Call (record { callee = ByNumber q; pushed = 0; registers = args; to = four_to to })

-- x = 5; a local that is no parameter is 0 at first.
constant : flattened 4 (procedure 0 (4 ∷ []) (steps (Number 5 ∷ SetLocal 0 ∷ []) Nothing))
    ≡ Some (Plain (Copy 0 (Known 0)) ∷ Plain (Copy 0 (Known 5)) ∷ Return 4 (Known 0) ∷ [])
constant = refl

-- x = x + 1; of an int
increment : flattened 4 (procedure 1 (4 ∷ []) (steps (Get 0 ∷ Number 1 ∷ Operate Plus ∷ SetLocal 0 ∷ []) Nothing))
    ≡ Some (sum 4 1 (Local 0) (Known 1) ∷ Plain (Copy 0 (Local 1)) ∷ Return 4 (Known 0) ∷ [])
increment = refl

-- the same of a raw.8
narrow_increment : flattened 4 (procedure 1 (1 ∷ []) (steps (Get 0 ∷ Number 1 ∷ Operate Plus ∷ Apply (Cut 8) ∷ SetLocal 0 ∷ []) Nothing))
    ≡ Some (sum 4 1 (Local 0) (Known 1) ∷ sum 1 1 (Local 1) (Known 0) ∷ Plain (Copy 0 (Local 1)) ∷ Return 4 (Known 0) ∷ [])
narrow_increment = refl

-- if (a < b && c != 0) x = 1; the conjunction becomes a number in the temporary 4.
conjunction : flattened 4 (procedure 3 (4 ∷ 4 ∷ 4 ∷ 4 ∷ [])
    (Then (steps (Get 0 ∷ Get 1 ∷ Operate (Less Signed) ∷ []) (If (steps (Get 2 ∷ Number 0 ∷ Operate Unequal ∷ []) Nothing) (Do (Number 0))))
    (If (steps (Number 1 ∷ SetLocal 3 ∷ []) Nothing) Nothing)))
    ≡ Some (
    Plain (Copy 3 (Known 0)) ∷ Unless (less (Local 0) (Local 1)) 7 ∷ When (is_zero (Local 2)) 5 ∷ Plain (Copy 4 (Known 1)) ∷ Jump 6
    ∷ Plain (Copy 4 (Known 0)) ∷ Jump 8 ∷ Plain (Copy 4 (Known 0)) ∷ When (is_zero (Local 4)) 10 ∷ Plain (Copy 3 (Known 1))
    ∷ Return 4 (Known 0) ∷ [])
conjunction = refl

-- if (x < 3) y = 1; else y = 2;
either : flattened 4 (procedure 1 (4 ∷ 4 ∷ [])
    (Then (steps (Get 0 ∷ Number 3 ∷ Operate (Less Signed) ∷ []) Nothing) (If (steps (Number 1 ∷ SetLocal 1 ∷ []) Nothing)
    (steps (Number 2 ∷ SetLocal 1 ∷ []) Nothing))))
    ≡ Some (
    Plain (Copy 1 (Known 0)) ∷ Unless (less (Local 0) (Known 3)) 4 ∷ Plain (Copy 1 (Known 1)) ∷ Jump 5 ∷ Plain (Copy 1 (Known 2))
    ∷ Return 4 (Known 0) ∷ [])
either = refl

-- for (i = 0; i < n; i = i + 1) write 1 to 0x38;
counting : flattened 4 (procedure 1 (4 ∷ 4 ∷ [])
    (steps (Number 0 ∷ SetLocal 1 ∷ []) (Loop (steps (Get 1 ∷ Get 0 ∷ Operate (Less Signed) ∷ []) Nothing)
    (steps (Number 1 ∷ WriteDevice 0x38 ∷ []) Nothing) (steps (Get 1 ∷ Number 1 ∷ Operate Plus ∷ SetLocal 1 ∷ []) Nothing))))
    ≡ Some (
    Plain (Copy 1 (Known 0)) ∷ Plain (Copy 1 (Known 0)) ∷ Unless (less (Local 1) (Local 0)) 7 ∷ Plain (Writes 0x38 (Known 1))
    ∷ sum 4 2 (Local 1) (Known 1) ∷ Plain (Copy 1 (Local 2)) ∷ Jump 2 ∷ Return 4 (Known 0) ∷ [])
counting = refl

-- while (x < 9) { if (x < 3) continue; break; } with what a `for` does behind its body: x = 7
leaving : flattened 4 (procedure 1 (4 ∷ [])
    (Loop (steps (Get 0 ∷ Number 9 ∷ Operate (Less Signed) ∷ []) Nothing)
    (Then (steps (Get 0 ∷ Number 3 ∷ Operate (Less Signed) ∷ []) (If Continue Nothing)) Break) (steps (Number 7 ∷ SetLocal 0 ∷ []) Nothing)))
    ≡ Some (
    Unless (less (Local 0) (Known 9)) 6 ∷ Unless (less (Local 0) (Known 3)) 3 ∷ Jump 4 ∷ Jump 6 ∷ Plain (Copy 0 (Known 7)) ∷ Jump 0
    ∷ Return 4 (Known 0) ∷ [])
leaving = refl

-- f(g(x), 2); f is procedure 4, g is 3
chain : flattened 4 (procedure 1 (4 ∷ []) (steps (Get 0 ∷ CallOf 3 1 ∷ Number 2 ∷ CallOf 4 2 ∷ Forget ∷ []) Nothing))
    ≡ Some (calls 3 (One (four (Local 0))) 1 ∷ calls 4 (Two (four (Local 1)) (four (Known 2))) 1 ∷ Return 4 (Known 0) ∷ [])
chain = refl

-- return f(x) + g(y); f is procedure 1, g is 2
returned_sum : flattened 4 (procedure 2 (4 ∷ 4 ∷ []) (steps (Get 0 ∷ CallOf 1 1 ∷ Get 1 ∷ CallOf 2 1 ∷ Operate Plus ∷ []) Returning))
    ≡ Some (calls 1 (One (four (Local 0))) 2 ∷ calls 2 (One (four (Local 1))) 3 ∷ sum 4 2 (Local 2) (Local 3) ∷ Return 4 (Local 2) ∷ Return 4 (Known 0) ∷ [])
returned_sum = refl

-- z = raw.8 of x + y
cast : flattened 4 (procedure 2 (4 ∷ 4 ∷ 1 ∷ []) (steps (Get 0 ∷ Get 1 ∷ Operate Plus ∷ Apply (Cut 8) ∷ SetLocal 2 ∷ []) Nothing))
    ≡ Some (
    Plain (Copy 2 (Known 0)) ∷ sum 4 3 (Local 0) (Local 1) ∷ sum 1 3 (Local 3) (Known 0) ∷ Plain (Copy 2 (Local 3)) ∷ Return 4 (Known 0) ∷ [])
cast = refl

-- while (true) {} keeps its test, so that no jump leads to itself.
endless : flattened 4 (procedure 0 [] (Loop (Do (Number 1)) Nothing Nothing))
    ≡ Some (When (is_zero (Known 1)) 2 ∷ Jump 0 ∷ Return 4 (Known 0) ∷ [])
endless = refl

-- ---- divisions and shifts

-- x = x / y; the run stops where y is 0.
quotient : flattened 4 (procedure 2 (4 ∷ 4 ∷ []) (steps (Get 0 ∷ Get 1 ∷ Operate Divide ∷ SetLocal 0 ∷ []) Nothing))
    ≡ Some (
    Unless (is_zero (Local 1)) 2 ∷ Plain (Stop 3) ∷ computes Quotient 4 2 (Local 0) (Local 1) ∷ Plain (Copy 0 (Local 2)) ∷ Return 4 (Known 0) ∷ [])
quotient = refl

-- x = x / 10; needs no test.
tenth : flattened 4 (procedure 1 (4 ∷ []) (steps (Get 0 ∷ Number 10 ∷ Operate Divide ∷ SetLocal 0 ∷ []) Nothing))
    ≡ Some (computes Quotient 4 1 (Local 0) (Known 10) ∷ Plain (Copy 0 (Local 1)) ∷ Return 4 (Known 0) ∷ [])
tenth = refl

-- x = x % 0; stops.
rest_of_none : flattened 4 (procedure 1 (4 ∷ []) (steps (Get 0 ∷ Number 0 ∷ Operate Remainder ∷ SetLocal 0 ∷ []) Nothing))
    ≡ Some (
    Unless (is_zero (Known 0)) 2 ∷ Plain (Stop 3) ∷ computes Rest 4 1 (Local 0) (Known 0) ∷ Plain (Copy 0 (Local 1)) ∷ Return 4 (Known 0) ∷ [])
rest_of_none = refl

-- x = x << n; of a raw.8
left : flattened 4 (procedure 2 (1 ∷ 4 ∷ []) (steps (Get 0 ∷ Get 1 ∷ Operate (ShiftLeft 8) ∷ SetLocal 0 ∷ []) Nothing))
    ≡ Some (computes LeftShift 1 2 (Local 0) (Local 1) ∷ Plain (Copy 0 (Local 2)) ∷ Return 4 (Known 0) ∷ [])
left = refl

-- x = x << 2; of a raw.12
left_masked : flattened 4 (procedure 1 (2 ∷ []) (steps (Get 0 ∷ Number 2 ∷ Operate (ShiftLeft 12) ∷ SetLocal 0 ∷ []) Nothing))
    ≡ Some (
    computes LeftShift 2 1 (Local 0) (Known 2) ∷ computes Mask 2 1 (Local 1) (Known 4095) ∷ Plain (Copy 0 (Local 1)) ∷ Return 4 (Known 0) ∷ [])
left_masked = refl

-- x = x >> 3; and x = x >> 8; of a raw.8
right : flattened 4 (procedure 1 (1 ∷ []) (steps (Get 0 ∷ Number 3 ∷ Operate (ShiftRight 8) ∷ SetLocal 0 ∷ []) Nothing))
    ≡ Some (computes RightShift 1 1 (Local 0) (Known 3) ∷ Plain (Copy 0 (Local 1)) ∷ Return 4 (Known 0) ∷ [])
right = refl

right_by_all : flattened 4 (procedure 1 (1 ∷ []) (steps (Get 0 ∷ Number 8 ∷ Operate (ShiftRight 8) ∷ SetLocal 0 ∷ []) Nothing))
    ≡ Some (Plain (Copy 0 (Known 0)) ∷ Return 4 (Known 0) ∷ [])
right_by_all = refl

-- x = x >> n; of a raw.8
right_by_any : flattened 4 (procedure 2 (1 ∷ 4 ∷ []) (steps (Get 0 ∷ Get 1 ∷ Operate (ShiftRight 8) ∷ SetLocal 0 ∷ []) Nothing))
    ≡ Some (computes RightShift 1 2 (Local 0) (Local 1) ∷ Plain (Copy 0 (Local 2)) ∷ Return 4 (Known 0) ∷ [])
right_by_any = refl

-- x = ~x; of a raw.32
complement : flattened 4 (procedure 1 (4 ∷ []) (steps (Get 0 ∷ Apply (Complement 32) ∷ SetLocal 0 ∷ []) Nothing))
    ≡ Some (computes Difference 4 1 (Known 4294967295) (Local 0) ∷ Plain (Copy 0 (Local 1)) ∷ Return 4 (Known 0) ∷ [])
complement = refl

-- x = ~x; of a raw.8, and of a raw.12
narrow_complement : flattened 4 (procedure 1 (1 ∷ []) (steps (Get 0 ∷ Apply (Complement 8) ∷ SetLocal 0 ∷ []) Nothing))
    ≡ Some (computes Difference 1 1 (Known 255) (Local 0) ∷ Plain (Copy 0 (Local 1)) ∷ Return 4 (Known 0) ∷ [])
narrow_complement = refl

odd_complement : flattened 4 (procedure 1 (2 ∷ []) (steps (Get 0 ∷ Apply (Complement 12) ∷ SetLocal 0 ∷ []) Nothing))
    ≡ Some (computes Difference 2 1 (Known 4095) (Local 0) ∷ Plain (Copy 0 (Local 1)) ∷ Return 4 (Known 0) ∷ [])
odd_complement = refl

-- x = raw.4 of y; and x = y # z; of strings of four bits
odd_cast : flattened 4 (procedure 1 (1 ∷ []) (steps (Get 0 ∷ Apply (Cut 4) ∷ SetLocal 0 ∷ []) Nothing))
    ≡ Some (computes Mask 1 1 (Local 0) (Known 15) ∷ Plain (Copy 0 (Local 1)) ∷ Return 4 (Known 0) ∷ [])
odd_cast = refl

concatenation : flattened 4 (procedure 3 (1 ∷ 1 ∷ 1 ∷ []) (steps (Get 1 ∷ Get 2 ∷ Operate (Concat 4) ∷ SetLocal 0 ∷ []) Nothing))
    ≡ Some (computes LeftShift 4 3 (Local 1) (Known 4) ∷ sum 4 3 (Local 3) (Local 2) ∷ Plain (Copy 0 (Local 3)) ∷ Return 4 (Known 0) ∷ [])
concatenation = refl

-- ---- objects

-- if (C <: o) x = 1; where the objects of C have the numbers 3 to 7
class_test : flattened 4 (procedure 2 (2 ∷ 4 ∷ [])
    (Then (steps (Get 0 ∷ IsWithin 3 5 ∷ []) Nothing) (If (steps (Number 1 ∷ SetLocal 1 ∷ []) Nothing) Nothing)))
    ≡ Some (
    computes Difference 4 2 (Local 0) (Known 3) ∷ Unless (below (Local 2) (Known 5)) 3 ∷ Plain (Copy 1 (Known 1)) ∷ Return 4 (Known 0) ∷ [])
class_test = refl

-- c = C of o; null is one of each class.
class_cast : flattened 4 (procedure 2 (2 ∷ 2 ∷ []) (steps (Get 0 ∷ StopUnlessWithin 3 5 ∷ SetLocal 1 ∷ []) Nothing))
    ≡ Some (
    When (is_zero (Local 0)) 4 ∷ computes Difference 4 3 (Local 0) (Known 3) ∷ When (below (Local 3) (Known 5)) 4 ∷ Plain (Stop 4)
    ∷ Plain (Copy 1 (Local 0)) ∷ Return 4 (Known 0) ∷ [])
class_cast = refl

-- x = o.f; and o.f = 7; where no object has the field: the null checks stay.
no_field : flattened 4 (procedure 2 (2 ∷ 4 ∷ []) (steps (Get 0 ∷ LoadNothing ∷ SetLocal 1 ∷ Get 0 ∷ Number 7 ∷ StoreNothing ∷ []) Nothing))
    ≡ Some (
    Unless (is_zero (Local 0)) 2 ∷ Plain (Stop 1) ∷ Plain (Copy 1 (Known 0)) ∷ Unless (is_zero (Local 0)) 5 ∷ Plain (Stop 1) ∷ Return 4 (Known 0) ∷ [])
no_field = refl

-- ---- columns and tables

abbrev pub place : (address width count : ℕ) → Place
place address width count = record { address = address; width = width; count = count }

-- How procedures are called: on no receiver, on one, and with an argument of one byte, another of four and no result.
abbrev pub wide : Passing
wide = record { receives = false; widths = []; result = Some FourBytes }

abbrev pub received : Passing
received = record { receives = true; widths = TwoBytes ∷ []; result = Some FourBytes }

abbrev pub narrow : Passing
narrow = record { receives = false; widths = OneByte ∷ FourBytes ∷ []; result = None }

-- Three columns in flash, of entries of two bytes, one and four; two in RAM; a table of more than one array; and five procedures.
abbrev pub layout : Layout
layout =
    record {
      ram = place 256 1 2 ∷ place 258 2 9 ∷ [];
      flash = place 150 2 5 ∷ place 160 1 9 ∷ place 200 4 9 ∷ [];
      tables = 180 ∷ [];
      lone_arrays = None ∷ [];
      passing = wide ∷ received ∷ wide ∷ wide ∷ narrow ∷ [];
    }

abbrev pub loads : (width to base : ℕ) → Operand → Instr
loads width to base index = Plain (LoadsBytes InFlash width to (record { base = base; index = index }))

-- x = C.f; of a component
component_field : flattened_in layout 4 (procedure 0 (2 ∷ []) (steps (LoadOne Flash 0 ∷ SetLocal 0 ∷ []) Nothing))
    ≡ Some (Plain (Copy 0 (Known 0)) ∷ loads 2 1 150 (Known 0) ∷ Plain (Copy 0 (Local 1)) ∷ Return 4 (Known 0) ∷ [])
component_field = refl

-- x = o.f; of one byte, where the first object that has it has the number 3
narrow_field : flattened_in layout 4 (procedure 2 (2 ∷ 1 ∷ []) (steps (Get 0 ∷ LoadAt Flash 1 3 ∷ SetLocal 1 ∷ []) Nothing))
    ≡ Some (
    Unless (is_zero (Local 0)) 2 ∷ Plain (Stop 1) ∷ loads 1 2 157 (Local 0) ∷ Plain (Copy 1 (Local 2)) ∷ Return 4 (Known 0) ∷ [])
narrow_field = refl

-- the same of four bytes, where it has the number 2
wide_field : flattened_in layout 4 (procedure 2 (2 ∷ 4 ∷ []) (steps (Get 0 ∷ LoadAt Flash 2 2 ∷ SetLocal 1 ∷ []) Nothing))
    ≡ Some (
    Unless (is_zero (Local 0)) 2 ∷ Plain (Stop 1) ∷ computes Product 2 2 (Local 0) (Known 4) ∷ loads 4 2 192 (Local 2) ∷ Plain (Copy 1 (Local 2))
    ∷ Return 4 (Known 0) ∷ [])
wide_field = refl

-- x = C.f; and x = o.f; in RAM
component_field_in_ram : flattened_in layout 4 (procedure 0 (1 ∷ []) (steps (LoadOne Ram 0 ∷ SetLocal 0 ∷ []) Nothing))
    ≡ Some (Plain (Copy 0 (Known 0)) ∷ Plain (LoadsBytes InRam 1 1 (record { base = 256; index = Known 0 })) ∷ Plain (Copy 0 (Local 1)) ∷ Return 4 (Known 0) ∷ [])
component_field_in_ram = refl

field_in_ram : flattened_in layout 4 (procedure 2 (2 ∷ 2 ∷ []) (steps (Get 0 ∷ LoadAt Ram 1 1 ∷ SetLocal 1 ∷ []) Nothing))
    ≡ Some (
    Unless (is_zero (Local 0)) 2 ∷ Plain (Stop 1) ∷ computes Product 2 2 (Local 0) (Known 2)
    ∷ Plain (LoadsBytes InRam 2 2 (record { base = 256; index = Local 2 })) ∷ Plain (Copy 1 (Local 2)) ∷ Return 4 (Known 0) ∷ [])
field_in_ram = refl

-- C.f = x; and o.f = x; of one byte and of two
store_component_field : flattened_in layout 4 (procedure 1 (1 ∷ []) (steps (Get 0 ∷ StoreOne 0 1 ∷ []) Nothing))
    ≡ Some (Plain (StoresBytes 1 (record { base = 256; index = Known 0 }) (Local 0)) ∷ Return 4 (Known 0) ∷ [])
store_component_field = refl

store_field : flattened_in layout 4 (procedure 2 (2 ∷ 2 ∷ []) (steps (Get 0 ∷ Get 1 ∷ StoreAt 1 1 2 ∷ []) Nothing))
    ≡ Some (
    Unless (is_zero (Local 0)) 2 ∷ Plain (Stop 1) ∷ computes Product 2 4 (Local 0) (Known 2)
    ∷ Plain (StoresBytes 2 (record { base = 256; index = Local 4 }) (Local 1)) ∷ Return 4 (Known 0) ∷ [])
store_field = refl

-- o.f = o.f + 1; of one byte
step_field : flattened_in layout 4 (procedure 1 (2 ∷ [])
    (steps (Get 0 ∷ Get 0 ∷ LoadAt Ram 0 1 ∷ Number 1 ∷ Operate Plus ∷ Apply (Cut 8) ∷ StoreAt 0 1 1 ∷ []) Nothing))
    ≡ Some (
    Unless (is_zero (Local 0)) 2 ∷ Plain (Stop 1) ∷ Plain (LoadsBytes InRam 1 2 (record { base = 255; index = Local 0 })) ∷ sum 4 2 (Local 2) (Known 1)
    ∷ sum 1 2 (Local 2) (Known 0) ∷ Unless (is_zero (Local 0)) 7 ∷ Plain (Stop 1)
    ∷ Plain (StoresBytes 1 (record { base = 255; index = Local 0 }) (Local 2)) ∷ Return 4 (Known 0) ∷ [])
step_field = refl

-- n = a.length;
array_length : flattened_in layout 4 (procedure 2 (2 ∷ 4 ∷ []) (steps (Get 0 ∷ Length 0 ∷ SetLocal 1 ∷ []) Nothing))
    ≡ Some (
    Unless (is_zero (Local 0)) 2 ∷ Plain (Stop 1) ∷ computes Product 2 2 (Local 0) (Known 4) ∷ loads 2 2 178 (Local 2) ∷ Plain (Copy 1 (Local 2))
    ∷ Return 4 (Known 0) ∷ [])
array_length = refl

-- the same of a type without a table, as no array of it is kept: the null check stays.
no_length : flattened_in layout 4 (procedure 2 (2 ∷ 4 ∷ []) (steps (Get 0 ∷ Length 1 ∷ SetLocal 1 ∷ []) Nothing))
    ≡ Some (Unless (is_zero (Local 0)) 2 ∷ Plain (Stop 1) ∷ Plain (Copy 1 (Known 0)) ∷ Return 4 (Known 0) ∷ [])
no_length = refl

-- ---- elements

abbrev pub bytes : Elements
bytes = record { home = Ram; column = 0; address = 256; table = 0; width = 1 }

-- x = a[i]; of bytes in RAM, by the table at 180: the length is checked before the address is read.
element : flattened_in layout 4 (procedure 3 (2 ∷ 4 ∷ 1 ∷ []) (steps (Get 0 ∷ Get 1 ∷ LoadItem bytes ∷ SetLocal 2 ∷ []) Nothing))
    ≡ Some (
    Unless (is_zero (Local 0)) 2 ∷ Plain (Stop 1) ∷ computes Product 2 5 (Local 0) (Known 4) ∷ loads 2 6 178 (Local 5)
    ∷ When (below (Local 1) (Local 6)) 6 ∷ Plain (Stop 2) ∷ loads 2 5 176 (Local 5) ∷ computes Product 2 6 (Local 1) (Known 1)
    ∷ sum 2 5 (Local 5) (Local 6) ∷ Plain (LoadsBytes InRam 1 3 (record { base = 0; index = Local 5 })) ∷ Plain (Copy 2 (Local 3)) ∷ Return 4 (Known 0) ∷ [])
element = refl

-- a[i] = b[i]; of bytes in RAM
copied_element : flattened_in layout 8 (procedure 3 (2 ∷ 2 ∷ 4 ∷ []) (steps (Get 0 ∷ Get 2 ∷ Get 1 ∷ Get 2 ∷ LoadItem bytes ∷ StoreItem bytes ∷ []) Nothing))
    ≡ Some (
    Unless (is_zero (Local 1)) 2 ∷ Plain (Stop 1) ∷ computes Product 2 7 (Local 1) (Known 4) ∷ loads 2 8 178 (Local 7)
    ∷ When (below (Local 2) (Local 8)) 6 ∷ Plain (Stop 2) ∷ loads 2 7 176 (Local 7) ∷ computes Product 2 8 (Local 2) (Known 1)
    ∷ sum 2 7 (Local 7) (Local 8) ∷ Plain (LoadsBytes InRam 1 5 (record { base = 0; index = Local 7 }))
    ∷ Unless (is_zero (Local 0)) 12 ∷ Plain (Stop 1) ∷ computes Product 2 6 (Local 0) (Known 4) ∷ loads 2 7 178 (Local 6)
    ∷ When (below (Local 2) (Local 7)) 16 ∷ Plain (Stop 2) ∷ loads 2 6 176 (Local 6) ∷ computes Product 2 7 (Local 2) (Known 1)
    ∷ sum 2 6 (Local 6) (Local 7) ∷ Plain (StoresBytes 1 (record { base = 0; index = Local 6 }) (Local 5)) ∷ Return 4 (Known 0) ∷ [])
copied_element = refl

abbrev pub missing : Elements
missing = record { home = Ram; column = 7; address = 0; table = 1; width = 4 }

-- i = a[i]; and a[i] = 7; of a type without a table and a column: the null checks stay.
no_element : flattened_in layout 4 (procedure 2 (2 ∷ 4 ∷ [])
    (steps (Get 0 ∷ Get 1 ∷ LoadItem missing ∷ SetLocal 1 ∷ Get 0 ∷ Get 1 ∷ Number 7 ∷ StoreItem missing ∷ []) Nothing))
    ≡ Some (
    Unless (is_zero (Local 0)) 2 ∷ Plain (Stop 1) ∷ Plain (Copy 1 (Known 0)) ∷ Unless (is_zero (Local 0)) 5 ∷ Plain (Stop 1) ∷ Return 4 (Known 0) ∷ [])
no_element = refl

abbrev pub emptied : Elements
emptied = record { home = Ram; column = 7; address = 0; table = 0; width = 4 }

-- the same of a type with a table and without a column, as its arrays have no elements: the checks stay, and behind them is a stop.
empty_element : flattened_in layout 4 (procedure 2 (2 ∷ 4 ∷ [])
    (steps (Get 0 ∷ Get 1 ∷ LoadItem emptied ∷ SetLocal 1 ∷ Get 0 ∷ Get 1 ∷ Number 7 ∷ StoreItem emptied ∷ []) Nothing))
    ≡ Some (
    Unless (is_zero (Local 0)) 2 ∷ Plain (Stop 1) ∷ computes Product 2 4 (Local 0) (Known 4) ∷ loads 2 5 178 (Local 4)
    ∷ When (below (Local 1) (Local 5)) 6 ∷ Plain (Stop 2) ∷ Plain (Stop 2) ∷ Plain (Copy 1 (Known 0))
    ∷ Unless (is_zero (Local 0)) 10 ∷ Plain (Stop 1) ∷ computes Product 2 4 (Local 0) (Known 4) ∷ loads 2 5 178 (Local 4)
    ∷ When (below (Local 1) (Local 5)) 14 ∷ Plain (Stop 2) ∷ Plain (Stop 2) ∷ Return 4 (Known 0) ∷ [])
empty_element = refl

-- for (i = 0; i < a.length; i = i + 1) M.PORTB = a[i];
array_loop : flattened_in layout 8 (procedure 1 (2 ∷ 4 ∷ [])
    (steps (Number 0 ∷ SetLocal 1 ∷ []) (Loop (steps (Get 1 ∷ Get 0 ∷ Length 0 ∷ Operate (Less Signed) ∷ []) Nothing)
    (steps (Get 0 ∷ Get 1 ∷ LoadItem bytes ∷ WriteDevice 0x38 ∷ []) Nothing) (steps (Get 1 ∷ Number 1 ∷ Operate Plus ∷ SetLocal 1 ∷ []) Nothing))))
    ≡ Some (
    Plain (Copy 1 (Known 0)) ∷ Plain (Copy 1 (Known 0)) ∷ Unless (is_zero (Local 0)) 4 ∷ Plain (Stop 1) ∷ computes Product 2 3 (Local 0) (Known 4)
    ∷ loads 2 3 178 (Local 3) ∷ Unless (less (Local 1) (Local 3)) 21 ∷ Unless (is_zero (Local 0)) 9 ∷ Plain (Stop 1)
    ∷ computes Product 2 4 (Local 0) (Known 4) ∷ loads 2 5 178 (Local 4) ∷ When (below (Local 1) (Local 5)) 13 ∷ Plain (Stop 2)
    ∷ loads 2 4 176 (Local 4) ∷ computes Product 2 5 (Local 1) (Known 1) ∷ sum 2 4 (Local 4) (Local 5)
    ∷ Plain (LoadsBytes InRam 1 2 (record { base = 0; index = Local 4 })) ∷ Plain (Writes 0x38 (Local 2)) ∷ sum 4 2 (Local 1) (Known 1)
    ∷ Plain (Copy 1 (Local 2)) ∷ Jump 2 ∷ Return 4 (Known 0) ∷ [])
array_loop = refl

-- x = o.f; and o.f = 7; where the first object that has it has so high a number that one of the number 0 would lie below all addresses
far_field : flattened_in layout 4 (procedure 2 (2 ∷ 2 ∷ []) (steps (Get 0 ∷ LoadAt Ram 1 200 ∷ SetLocal 1 ∷ []) Nothing))
    ≡ Some (
    Unless (is_zero (Local 0)) 2 ∷ Plain (Stop 1) ∷ computes Difference 4 2 (Local 0) (Known 200) ∷ computes Product 2 2 (Local 2) (Known 2)
    ∷ Plain (LoadsBytes InRam 2 2 (record { base = 258; index = Local 2 })) ∷ Plain (Copy 1 (Local 2)) ∷ Return 4 (Known 0) ∷ [])
far_field = refl

store_far_field : flattened_in layout 4 (procedure 1 (2 ∷ []) (steps (Get 0 ∷ Number 7 ∷ StoreAt 0 300 1 ∷ []) Nothing))
    ≡ Some (
    Unless (is_zero (Local 0)) 2 ∷ Plain (Stop 1) ∷ computes Difference 4 3 (Local 0) (Known 300)
    ∷ Plain (StoresBytes 1 (record { base = 256; index = Local 3 }) (Known 7)) ∷ Return 4 (Known 0) ∷ [])
store_far_field = refl

-- ---- one object and one array

abbrev pub array : (address length : ℕ) → ArrayPlace
array address length = record { address = address; length = length }

-- The elements of two types, each of which has one array, and a column of one entry.
abbrev pub alone : Layout
alone =
    record {
      ram = place 256 1 5 ∷ place 262 2 3 ∷ place 268 2 1 ∷ [];
      flash = [];
      tables = 180 ∷ 184 ∷ [];
      lone_arrays = Some (array 256 5) ∷ Some (array 262 3) ∷ [];
      passing = [];
    }

-- x = o.f; and o.f = x; where one object has the field: behind the null check its place is known.
sole_field : flattened_in alone 4 (procedure 2 (2 ∷ 2 ∷ []) (steps (Get 0 ∷ LoadAt Ram 2 7 ∷ SetLocal 1 ∷ []) Nothing))
    ≡ Some (
    Unless (is_zero (Local 0)) 2 ∷ Plain (Stop 1) ∷ Plain (LoadsBytes InRam 2 2 (record { base = 268; index = Known 0 })) ∷ Plain (Copy 1 (Local 2))
    ∷ Return 4 (Known 0) ∷ [])
sole_field = refl

store_sole_field : flattened_in alone 4 (procedure 2 (2 ∷ 2 ∷ []) (steps (Get 0 ∷ Get 1 ∷ StoreAt 2 7 2 ∷ []) Nothing))
    ≡ Some (
    Unless (is_zero (Local 0)) 2 ∷ Plain (Stop 1) ∷ Plain (StoresBytes 2 (record { base = 268; index = Known 0 }) (Local 1)) ∷ Return 4 (Known 0) ∷ [])
store_sole_field = refl

-- n = a.length; and x = a[i]; of the only array of bytes: its length and its place are known.
lone_length : flattened_in alone 4 (procedure 2 (2 ∷ 4 ∷ []) (steps (Get 0 ∷ Length 0 ∷ SetLocal 1 ∷ []) Nothing))
    ≡ Some (Unless (is_zero (Local 0)) 2 ∷ Plain (Stop 1) ∷ Plain (Copy 1 (Known 5)) ∷ Return 4 (Known 0) ∷ [])
lone_length = refl

lone_element : flattened_in alone 4 (procedure 3 (2 ∷ 4 ∷ 1 ∷ []) (steps (Get 0 ∷ Get 1 ∷ LoadItem bytes ∷ SetLocal 2 ∷ []) Nothing))
    ≡ Some (
    Unless (is_zero (Local 0)) 2 ∷ Plain (Stop 1) ∷ When (below (Local 1) (Known 5)) 4 ∷ Plain (Stop 2)
    ∷ Plain (LoadsBytes InRam 1 3 (record { base = 256; index = Local 1 })) ∷ Plain (Copy 2 (Local 3)) ∷ Return 4 (Known 0) ∷ [])
lone_element = refl

-- a[i] = x; of the only array of elements of two bytes
abbrev pub words : Elements
words = record { home = Ram; column = 1; address = 262; table = 1; width = 2 }

store_lone_element : flattened_in alone 4 (procedure 3 (2 ∷ 4 ∷ 2 ∷ []) (steps (Get 0 ∷ Get 1 ∷ Get 2 ∷ StoreItem words ∷ []) Nothing))
    ≡ Some (
    Unless (is_zero (Local 0)) 2 ∷ Plain (Stop 1) ∷ When (below (Local 1) (Known 3)) 4 ∷ Plain (Stop 2) ∷ computes Product 2 6 (Local 1) (Known 2)
    ∷ Plain (StoresBytes 2 (record { base = 262; index = Local 6 }) (Local 2)) ∷ Return 4 (Known 0) ∷ [])
store_lone_element = refl

-- ---- receivers, dispatch and delegates

abbrev pub calls_code : Operand → Registers → (to : ℕ) → Instr
calls_code code args to = Call (record { callee = ByCode code; pushed = 0; registers = args; to = four_to to })

-- return this; the receiver is the first local, and the parameters are behind it.
receiver : flattened 4 (method 0 [] (steps (This ∷ []) Returning)) ≡ Some (Return 4 (Local 0) ∷ Return 4 (Known 0) ∷ [])
receiver = refl

method_increment : flattened 4 (method 1 (4 ∷ []) (steps (Get 0 ∷ Number 1 ∷ Operate Plus ∷ SetLocal 0 ∷ []) Nothing))
    ≡ Some (sum 4 2 (Local 1) (Known 1) ∷ Plain (Copy 1 (Local 2)) ∷ Return 4 (Known 0) ∷ [])
method_increment = refl

-- x = this.f; and this.m(x); the receiver is an object, so there is no null check of it, as there is one of a parameter.
own_field : flattened_in layout 4 (method 1 (2 ∷ []) (steps (This ∷ LoadAt Ram 1 1 ∷ SetLocal 0 ∷ []) Nothing))
    ≡ Some (
    computes Product 2 2 (Local 0) (Known 2) ∷ Plain (LoadsBytes InRam 2 2 (record { base = 256; index = Local 2 })) ∷ Plain (Copy 1 (Local 2))
    ∷ Return 4 (Known 0) ∷ [])
own_field = refl

-- The same where one object has the field: all that is left is a load from its place, or a store to it.
own_sole_field : flattened_in alone 4 (method 1 (2 ∷ []) (steps (This ∷ LoadAt Ram 2 7 ∷ SetLocal 0 ∷ This ∷ Get 0 ∷ StoreAt 2 7 2 ∷ []) Nothing))
    ≡ Some (
    Plain (LoadsBytes InRam 2 2 (record { base = 268; index = Known 0 })) ∷ Plain (Copy 1 (Local 2))
    ∷ Plain (StoresBytes 2 (record { base = 268; index = Known 0 }) (Local 1)) ∷ Return 4 (Known 0) ∷ [])
own_sole_field = refl

own_call : flattened 4 (method 1 (4 ∷ []) (steps (This ∷ Get 0 ∷ CallFor 3 1 ∷ Forget ∷ []) Nothing))
    ≡ Some (Plain (Find 3 4 (Local 0)) ∷ calls_code (Local 4) (Two (two (Local 0)) (four (Local 1))) 2 ∷ Return 4 (Known 0) ∷ [])
own_call = refl

own_no_field : flattened 4 (method 1 (2 ∷ []) (steps (This ∷ Number 7 ∷ StoreNothing ∷ Get 0 ∷ Number 7 ∷ StoreNothing ∷ []) Nothing))
    ≡ Some (Unless (is_zero (Local 1)) 2 ∷ Plain (Stop 1) ∷ Return 4 (Known 0) ∷ [])
own_no_field = refl

-- o.m(5); by the dispatch 3: the receiver is the first argument, of two bytes.
dispatch_call : flattened 4 (procedure 1 (2 ∷ []) (steps (Get 0 ∷ Number 5 ∷ CallFor 3 1 ∷ Forget ∷ []) Nothing))
    ≡ Some (
    Unless (is_zero (Local 0)) 2 ∷ Plain (Stop 1) ∷ Plain (Find 3 3 (Local 0)) ∷ calls_code (Local 3) (Two (two (Local 0)) (four (Known 5))) 1 ∷ Return 4 (Known 0) ∷ [])
dispatch_call = refl

-- d(); of a delegate in a local: its receiver is in the upper two bytes.
delegate_call : flattened 4 (procedure 1 (4 ∷ []) (steps (Get 0 ∷ CallValue 0 ∷ Forget ∷ []) Nothing))
    ≡ Some (
    Unless (is_zero (Local 0)) 2 ∷ Plain (Stop 1) ∷ computes RightShift 4 2 (Local 0) (Known 16) ∷ calls_code (Local 0) (One (two (Local 2))) 1
    ∷ Return 4 (Known 0) ∷ [])
delegate_call = refl

-- d = C.m; of a component's method, which is procedure 2
bound_method : flattened 4 (procedure 1 (4 ∷ []) (steps (Bind 2 ∷ SetLocal 0 ∷ []) Nothing))
    ≡ Some (Plain (CodeOf 2 1) ∷ Plain (Copy 0 (Local 1)) ∷ Return 4 (Known 0) ∷ [])
bound_method = refl

-- d = o.m; by the dispatch 0
bound_for_object : flattened 4 (procedure 2 (2 ∷ 4 ∷ []) (steps (Get 0 ∷ BindFor 0 ∷ SetLocal 1 ∷ []) Nothing))
    ≡ Some (
    Unless (is_zero (Local 0)) 2 ∷ Plain (Stop 1) ∷ computes LeftShift 4 3 (Local 0) (Known 16) ∷ Plain (Find 0 2 (Local 0)) ∷ sum 4 2 (Local 2) (Local 3)
    ∷ Plain (Copy 1 (Local 2)) ∷ Return 4 (Known 0) ∷ [])
bound_for_object = refl

-- C.m(); of a component's method of which delegates are made, in this layout procedure 1: it gets a receiver that it does not use.
called_on_none : flattened_in layout 4 (procedure 0 [] (steps (CallOf 1 0 ∷ Forget ∷ []) Nothing))
    ≡ Some (calls 1 (One (two (Known 0))) 0 ∷ Return 4 (Known 0) ∷ [])
called_on_none = refl

-- f(1, 2, 3, 4, 5, 6); the arguments before the last four are pushed.
six_arguments : flattened 8 (procedure 0 []
    (steps (Number 1 ∷ Number 2 ∷ Number 3 ∷ Number 4 ∷ Number 5 ∷ Number 6 ∷ CallOf 3 6 ∷ Forget ∷ []) Nothing))
    ≡ Some (
    Plain (Push 4 (Known 1)) ∷ Plain (Push 4 (Known 2))
    ∷ Call (record { callee = ByNumber 3; pushed = 2; registers = Four (four (Known 3)) (four (Known 4)) (four (Known 5)) (four (Known 6)); to = four_to 0 }) ∷ Return 4 (Known 0) ∷ [])
six_arguments = refl

-- f(x, y); in as many bytes as they have, of a procedure that gives nothing back, in this layout procedure 4: 0 stands for its result.
narrow_arguments : flattened_in layout 4 (procedure 2 (1 ∷ 4 ∷ []) (steps (Get 0 ∷ Get 1 ∷ CallOf 4 2 ∷ Forget ∷ []) Nothing))
    ≡ Some (
    Call (record { callee = ByNumber 4; pushed = 0; registers = Two (record { width = 1; value = Local 0 }) (four (Local 1)); to = None })
    ∷ Return 4 (Known 0) ∷ [])
narrow_arguments = refl

-- ---- a high body

abbrev reads : ℕ → List Step
reads zero = []
reads (suc n) = ReadDevice 0x36 ∷ reads n

abbrev sums : ℕ → List Step
sums zero = []
sums (suc n) = Operate Plus ∷ sums n

-- 60 locals, and 48 values that wait: 60 zeroes, 48 reads, 47 sums and the end.
high : option_map length (flattened 48 (procedure 0 (replicate 60 4) (steps (reads 48 ++ (sums 47 ++ Forget ∷ [])) Nothing))) ≡ Some 156
high = refl

-- One more has no temporary.
too_high : flattened 48 (procedure 0 (replicate 60 4) (steps (reads 49 ++ (sums 48 ++ Forget ∷ [])) Nothing)) ≡ None
too_high = refl

-- f(a1, .., a50); of fifty arguments that are read: 50 reads, 46 pushes, the call and the end.
many_arguments : option_map length (flattened 50 (procedure 0 [] (steps (reads 50 ++ (CallOf 3 50 ∷ Forget ∷ [])) Nothing))) ≡ Some 98
many_arguments = refl
