-- What classes, components and devices declare for themselves.
use Rattle.std.specs.Prelude.{refl, [], ◌∷◌}
use Rattle.vg_syntax.specs.Tree.{ArrayType, BoolType, IntType, NoType, Nothing}
use Rattle.vg_rule_texts.specs.Writing.{IsBroken, IsLegal, cast, chain, class, constructor, constructor_with_super, device, dot, eval, field, function, in_main}
use Rattle.vg_rule_texts.specs.Writing.{local, method, name, new, new_array, null, number, of_class, param, raw, register, subclass, suffixed, test}
use Rattle.vg_rule_texts.specs.Writing.{with_declarations, with_members, with_more}

-- ---- rule 6

-- field x: int; field x: bool;
two_fields : IsBroken 6 13 (with_members (field "x" IntType Nothing ∷ field "x" BoolType Nothing ∷ []))
two_fields = refl

-- field x: int; method x() { }
field_then_method : IsBroken 6 13 (with_members (field "x" IntType Nothing ∷ method "x" [] NoType [] ∷ []))
field_then_method = refl

-- method x() { } field x: int;
method_then_field : IsBroken 6 14 (with_members (method "x" [] NoType [] ∷ field "x" IntType Nothing ∷ []))
method_then_field = refl

-- method x() { } method x(a: int) { }
two_methods : IsBroken 6 14 (with_members (method "x" [] NoType [] ∷ method "x" (param "a" IntType ∷ []) NoType [] ∷ []))
two_methods = refl

-- field main: int;
method_of_main : IsBroken 6 12 (with_members (field "main" IntType Nothing ∷ []))
method_of_main = refl

-- constructor() { } constructor() { }
two_constructors : IsBroken 6 14 (with_members (constructor [] [] ∷ constructor [] [] ∷ []))
two_constructors = refl

-- class C { field x: int; method y() { } field x: int; }
two_members_of_class : IsBroken 6 20 (with_declarations (class "C" (field "x" IntType Nothing ∷ method "y" [] NoType [] ∷ field "x" IntType Nothing ∷ []) ∷ []))
two_members_of_class = refl

-- class C { constructor() { } constructor(a: int) { } }
two_constructors_of_class : IsBroken 6 19 (with_declarations (class "C" (constructor [] [] ∷ constructor (param "a" IntType ∷ []) [] ∷ []) ∷ []))
two_constructors_of_class = refl

-- class C { field x: int; constructor() { } } class D { method x() { } constructor() { } }
members_of_two_classes : IsLegal (with_declarations (class "C" (field "x" IntType Nothing ∷ constructor [] [] ∷ []) ∷ class "D" (method "x" [] NoType []
    ∷ constructor [] [] ∷ []) ∷ []))
members_of_two_classes = refl

-- field A: int; field M: int; method Main() { } field P: int;
members_named_as_declarations : IsLegal (with_members (field "A" IntType Nothing ∷ field "M" IntType Nothing ∷ method "Main" [] NoType []
    ∷ field "P" IntType Nothing ∷ []))
members_named_as_declarations = refl

-- ---- rule 8

-- field x: C;
unknown_in_field : IsBroken 8 12 (with_members (field "x" (of_class "C") Nothing ∷ []))
unknown_in_field = refl

-- method x(a: int, b: C) { }
unknown_in_parameter : IsBroken 8 12 (with_members (method "x" (param "a" IntType ∷ param "b" (of_class "C") ∷ []) NoType [] ∷ []))
unknown_in_parameter = refl

-- method x(): C { }
unknown_in_result : IsBroken 8 12 (with_members (method "x" [] (of_class "C") [] ∷ []))
unknown_in_result = refl

-- class C { constructor(a: D) { } }
unknown_in_constructor : IsBroken 8 17 (with_declarations (class "C" (constructor (param "a" (of_class "D") ∷ []) [] ∷ []) ∷ []))
unknown_in_constructor = refl

-- local x: C;
unknown_in_local : IsBroken 8 12 (in_main (local "x" (of_class "C") Nothing ∷ []))
unknown_in_local = refl

-- null :: C;
unknown_in_cast : IsBroken 8 15 (in_main (eval (chain null (cast (of_class "C") ∷ [])) ∷ []))
unknown_in_cast = refl

-- new A() <: C;
unknown_in_test : IsBroken 8 15 (in_main (eval (chain (new "A" []) (test (of_class "C") ∷ [])) ∷ []))
unknown_in_test = refl

-- new C[1];
unknown_in_new : IsBroken 8 13 (in_main (eval (new_array (of_class "C") (number "1")) ∷ []))
unknown_in_new = refl

-- field x: C[];
unknown_in_array : IsBroken 8 12 (with_members (field "x" (ArrayType (of_class "C")) Nothing ∷ []))
unknown_in_array = refl

-- field x: function(int, C);
unknown_in_function : IsBroken 8 12 (with_members (field "x" (function (IntType ∷ of_class "C" ∷ []) NoType) Nothing ∷ []))
unknown_in_function = refl

-- field x: function(): C;
unknown_as_result_of_function : IsBroken 8 12 (with_members (field "x" (function [] (of_class "C")) Nothing ∷ []))
unknown_as_result_of_function = refl

-- field x: Main;
component_as_type : IsBroken 8 12 (with_members (field "x" (of_class "Main") Nothing ∷ []))
component_as_type = refl

-- field x: M;
device_as_type : IsBroken 8 12 (with_members (field "x" (of_class "M") Nothing ∷ []))
device_as_type = refl

-- field x: raw.0;
raw_of_none : IsBroken 8 12 (with_members (field "x" (raw "0") Nothing ∷ []))
raw_of_none = refl

-- field x: raw.33;
raw_of_33 : IsBroken 8 12 (with_members (field "x" (raw "33") Nothing ∷ []))
raw_of_33 = refl

-- field x: raw.0x8;
hexadecimal_width : IsBroken 8 12 (with_members (field "x" (raw "0x8") Nothing ∷ []))
hexadecimal_width = refl

-- 1 :: raw.33;
raw_of_33_in_cast : IsBroken 8 15 (in_main (eval (chain (number "1") (cast (raw "33") ∷ [])) ∷ []))
raw_of_33_in_cast = refl

-- field x: int[][][][][];
five_levels : IsBroken 8 12 (with_members (field "x" (ArrayType (ArrayType (ArrayType (ArrayType (ArrayType IntType))))) Nothing ∷ []))
five_levels = refl

-- field x: (int[][])[][][];
five_levels_by_parentheses : IsBroken 8 12 (with_members (field "x" (ArrayType (ArrayType (ArrayType (ArrayType (ArrayType IntType))))) Nothing ∷ []))
five_levels_by_parentheses = refl

-- field x: function(int[][][][][]);
five_levels_in_function : IsBroken 8 12 (with_members (field "x" (function (ArrayType (ArrayType (ArrayType (ArrayType (ArrayType IntType))))
    ∷ []) NoType) Nothing ∷ []))
five_levels_in_function = refl

-- new int[1][][][][];
five_levels_made : IsBroken 8 13 (in_main (eval (new_array (ArrayType (ArrayType (ArrayType (ArrayType IntType)))) (number "1")) ∷ []))
five_levels_made = refl

-- new (int[][][][])[1];
five_levels_made_by_parentheses : IsBroken 8 13 (in_main (eval (new_array (ArrayType (ArrayType (ArrayType (ArrayType IntType)))) (number "1")) ∷ []))
five_levels_made_by_parentheses = refl

-- field x: C; method y(a: C[]): function(C): C { }  .. class C { }
later_class : IsLegal (with_more (field "x" (of_class "C") Nothing ∷ method "y" (param "a" (ArrayType (of_class "C")) ∷ []) (function (of_class "C"
    ∷ []) (of_class "C")) [] ∷ []) [] (class "C" [] ∷ []))
later_class = refl

-- class C { field x: C; }
own_class : IsLegal (with_declarations (class "C" (field "x" (of_class "C") Nothing ∷ []) ∷ []))
own_class = refl

-- field x: raw.1;
raw_of_one : IsLegal (with_members (field "x" (raw "1") Nothing ∷ []))
raw_of_one = refl

-- field x: raw.32;
raw_of_32 : IsLegal (with_members (field "x" (raw "32") Nothing ∷ []))
raw_of_32 = refl

-- field x: raw.08; field y: raw.8 = Main.x;
width_with_zero : IsLegal (with_members (field "x" (raw "08") Nothing ∷ field "y" (raw "8") (suffixed (name "Main") (dot "x" ∷ [])) ∷ []))
width_with_zero = refl

-- field x: int[][][][];
four_levels : IsLegal (with_members (field "x" (ArrayType (ArrayType (ArrayType (ArrayType IntType)))) Nothing ∷ []))
four_levels = refl

-- new int[1][][][];
four_levels_made : IsLegal (in_main (eval (new_array (ArrayType (ArrayType (ArrayType IntType))) (number "1")) ∷ []))
four_levels_made = refl

-- field x: (function(int[][][][]): int)[][][][];
levels_in_and_around_function : IsLegal (with_members (field "x" (ArrayType (ArrayType (ArrayType (ArrayType (function (ArrayType (ArrayType (ArrayType
    (ArrayType IntType))) ∷ []) IntType))))) Nothing ∷ []))
levels_in_and_around_function = refl

-- ---- rule 9

-- constructor(a: int) { }
parameter_of_component : IsBroken 9 12 (with_members (constructor (param "a" IntType ∷ []) [] ∷ []))
parameter_of_component = refl

-- constructor(): super() { }
super_in_component : IsBroken 9 12 (with_members (constructor_with_super [] [] [] ∷ []))
super_in_component = refl

-- class C { constructor(): super() { } }
super_without_extends : IsBroken 9 17 (with_declarations (class "C" (constructor_with_super [] [] [] ∷ []) ∷ []))
super_without_extends = refl

-- constructor() { }
constructor_of_component : IsLegal (with_members (constructor [] [] ∷ []))
constructor_of_component = refl

-- class C { constructor(a: int) { } }
parameter_of_class : IsLegal (with_declarations (class "C" (constructor (param "a" IntType ∷ []) [] ∷ []) ∷ []))
parameter_of_class = refl

-- class C extends B { constructor(): super() { } }
super_with_extends : IsLegal (with_declarations (subclass "C" "B" (constructor_with_super [] [] [] ∷ []) ∷ []))
super_with_extends = refl

-- ---- rule 11

-- method x(a: int, a: bool) { }
two_parameters : IsBroken 11 12 (with_members (method "x" (param "a" IntType ∷ param "a" BoolType ∷ []) NoType [] ∷ []))
two_parameters = refl

-- method x(a: int, b: int, a: int) { }
first_and_last_parameter : IsBroken 11 12 (with_members (method "x" (param "a" IntType ∷ param "b" IntType ∷ param "a" IntType ∷ []) NoType [] ∷ []))
first_and_last_parameter = refl

-- class C { constructor(a: int, a: int) { } }
two_parameters_of_constructor : IsBroken 11 17 (with_declarations (class "C" (constructor (param "a" IntType ∷ param "a" IntType ∷ []) [] ∷ []) ∷ []))
two_parameters_of_constructor = refl

-- method x(a: int, A: int) { } method y(a: int) { }
parameters_of_two_methods : IsLegal (with_members (method "x" (param "a" IntType ∷ param "A" IntType ∷ []) NoType [] ∷ method "y" (param "a" IntType
    ∷ []) NoType [] ∷ []))
parameters_of_two_methods = refl

-- ---- rule 12

-- device N { register S = 56; }
decimal_address : IsBroken 12 17 (with_declarations (device "N" (register "S" "56" ∷ []) ∷ []))
decimal_address = refl

-- device N { register S = 0x1F; }
address_too_low : IsBroken 12 17 (with_declarations (device "N" (register "S" "0x1F" ∷ []) ∷ []))
address_too_low = refl

-- device N { register S = 0x100; }
address_too_high : IsBroken 12 17 (with_declarations (device "N" (register "S" "0x100" ∷ []) ∷ []))
address_too_high = refl

-- device N { register S = 0x5B; }
rampz : IsBroken 12 17 (with_declarations (device "N" (register "S" "0x5B" ∷ []) ∷ []))
rampz = refl

-- device N { register S = 0x5D; }
low_stack_pointer : IsBroken 12 17 (with_declarations (device "N" (register "S" "0x5D" ∷ []) ∷ []))
low_stack_pointer = refl

-- device N { register S = 0x5e; }
high_stack_pointer : IsBroken 12 17 (with_declarations (device "N" (register "S" "0x5e" ∷ []) ∷ []))
high_stack_pointer = refl

-- device N { register S = 0x05F; }
status_register : IsBroken 12 17 (with_declarations (device "N" (register "S" "0x05F" ∷ []) ∷ []))
status_register = refl

-- device N { register S = 0x20; register S = 0x21; }
two_registers : IsBroken 12 18 (with_declarations (device "N" (register "S" "0x20" ∷ register "S" "0x21" ∷ []) ∷ []))
two_registers = refl

-- device N { register S = 0x20; register T = 0xfF; register U = 0x5C; register V = 0x0038; }
first_and_last_address : IsLegal (with_declarations (device "N" (register "S" "0x20" ∷ register "T" "0xfF" ∷ register "U" "0x5C" ∷ register "V" "0x0038"
    ∷ []) ∷ []))
first_and_last_address = refl

-- device N { register S = 0x38; register s = 0x38; }
one_address_twice : IsLegal (with_declarations (device "N" (register "S" "0x38" ∷ register "s" "0x38" ∷ []) ∷ []))
one_address_twice = refl

-- device N { register R = 0x20; }
registers_of_two_devices : IsLegal (with_declarations (device "N" (register "R" "0x20" ∷ []) ∷ []))
registers_of_two_devices = refl
