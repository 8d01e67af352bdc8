-- Assignments, conditions, returns, jumps and `new`.
use Rattle.std.specs.Prelude.{refl, [], ◌∷◌}
use Rattle.vg_syntax.specs.declared.kind.Kind.TheVariants as kind
use Rattle.vg_syntax.specs.Tree.{ArrayType, BoolType, CharType, IntType, NoType, Nothing}
use Rattle.vg_rule_texts.specs.Writing.{IsBroken, IsLegal, arm, assign, block, call, cast, chain, character, choice, class, constructor, constructor_with_super}
use Rattle.vg_rule_texts.specs.Writing.{counting, dot, eval, field, function, gives, goes_on, in_main, index, leaves, local, loop, method, name, new, new_array}
use Rattle.vg_rule_texts.specs.Writing.{no, null, number, of_class, param, part, prefixed, raw, string, subclass, suffixed, this, with_declarations}
use Rattle.vg_rule_texts.specs.Writing.{with_members, yes}

-- ---- rule 21

-- 1 = 1;
number_assigned : IsBroken 21 12 (in_main (assign (number "1") (number "1") ∷ []))
number_assigned = refl

-- class C { method n() { this = null; } }
this_assigned : IsBroken 21 19 (with_declarations (class "C" (method "n" [] NoType (assign this null ∷ []) ∷ []) ∷ []))
this_assigned = refl

-- new A().m(1) = 1;
call_assigned : IsBroken 21 12 (in_main (assign (suffixed (new "A" []) (dot "m" ∷ call (number "1" ∷ []) ∷ [])) (number "1") ∷ []))
call_assigned = refl

-- main = main;
method_assigned : IsBroken 21 12 (in_main (assign (name "main") (name "main") ∷ []))
method_assigned = refl

-- new A().m = new A().m;
method_of_object_assigned : IsBroken 21 12 (in_main (assign (suffixed (new "A" []) (dot "m" ∷ [])) (suffixed (new "A" []) (dot "m" ∷ [])) ∷ []))
method_of_object_assigned = refl

-- new int[1].length = 1;
length_assigned : IsBroken 21 12 (in_main (assign (suffixed (new_array IntType (number "1")) (dot "length" ∷ [])) (number "1") ∷ []))
length_assigned = refl

-- new A() = new A();
new_assigned : IsBroken 21 12 (in_main (assign (new "A" []) (new "A" []) ∷ []))
new_assigned = refl

-- method n(x: int) { new int[x] = null; }
new_array_assigned : IsBroken 21 14 (with_members (method "n" (param "x" IntType ∷ []) NoType (assign (new_array IntType (name "x")) null ∷ []) ∷ []))
new_array_assigned = refl

-- local x: int; -x = 5;
minus_assigned : IsBroken 21 13 (in_main (local "x" IntType Nothing ∷ assign (prefixed (kind.Minus ∷ []) (name "x")) (number "5") ∷ []))
minus_assigned = refl

-- local x: int; 1 + x = 5;
sum_assigned : IsBroken 21 13 (in_main (local "x" IntType Nothing ∷ assign (chain (number "1") (part kind.Plus (name "x") ∷ [])) (number "5") ∷ []))
sum_assigned = refl

-- local x: int; x :: int = 5;
cast_assigned : IsBroken 21 13 (in_main (local "x" IntType Nothing ∷ assign (chain (name "x") (cast IntType ∷ [])) (number "5") ∷ []))
cast_assigned = refl

-- "ab" = "cd";
string_assigned : IsBroken 21 12 (in_main (assign (string "\"ab\"") (string "\"cd\"") ∷ []))
string_assigned = refl

-- M.R = 5;
int_to_register : IsBroken 21 12 (in_main (assign (suffixed (name "M") (dot "R" ∷ [])) (number "5") ∷ []))
int_to_register = refl

-- M.R = 0x005;
wider_to_register : IsBroken 21 12 (in_main (assign (suffixed (name "M") (dot "R" ∷ [])) (number "0x005") ∷ []))
wider_to_register = refl

-- local x: int; x = true;
bool_to_local : IsBroken 21 13 (in_main (local "x" IntType Nothing ∷ assign (name "x") yes ∷ []))
bool_to_local = refl

-- method n(x: bool) { x = 1; }
int_to_parameter : IsBroken 21 14 (with_members (method "n" (param "x" BoolType ∷ []) NoType (assign (name "x") (number "1") ∷ []) ∷ []))
int_to_parameter = refl

-- new A().f = 0x1;
raw_to_field : IsBroken 21 12 (in_main (assign (suffixed (new "A" []) (dot "f" ∷ [])) (number "0x1") ∷ []))
raw_to_field = refl

-- field x: int; method n() { x = 'a'; }
char_to_component_field : IsBroken 21 15 (with_members (field "x" IntType Nothing ∷ method "n" [] NoType (assign (name "x") (character "'a'") ∷ []) ∷ []))
char_to_component_field = refl

-- new int[1][0] = true;
bool_to_element : IsBroken 21 12 (in_main (assign (suffixed (new_array IntType (number "1")) (index (number "0") ∷ [])) yes ∷ []))
bool_to_element = refl

-- local x: int; x = null;
null_to_int_local : IsBroken 21 13 (in_main (local "x" IntType Nothing ∷ assign (name "x") null ∷ []))
null_to_int_local = refl

-- local x: B; x = new A();
above_to_below : IsBroken 21 13 (in_main (local "x" (of_class "B") Nothing ∷ assign (name "x") (new "A" []) ∷ []))
above_to_below = refl

-- local x: A[]; x = new B[1];
array_to_array_above : IsBroken 21 13 (in_main (local "x" (ArrayType (of_class "A")) Nothing ∷ assign (name "x") (new_array (of_class "B") (number "1")) ∷ []))
array_to_array_above = refl

-- local x: int; x = main();
no_value_to_local : IsBroken 21 13 (in_main (local "x" IntType Nothing ∷ assign (name "x") (suffixed (name "main") (call [] ∷ [])) ∷ []))
no_value_to_local = refl

-- local x: function(int); x = main;
method_of_other_type : IsBroken 21 13 (in_main (local "x" (function (IntType ∷ []) NoType) Nothing ∷ assign (name "x") (name "main") ∷ []))
method_of_other_type = refl

-- local x: bool = 1;
local_of_another_type : IsBroken 21 12 (in_main (local "x" BoolType (number "1") ∷ []))
local_of_another_type = refl

-- local x: B = new A();
local_of_class_below : IsBroken 21 12 (in_main (local "x" (of_class "B") (new "A" []) ∷ []))
local_of_class_below = refl

-- local x: int = null;
local_of_null : IsBroken 21 12 (in_main (local "x" IntType null ∷ []))
local_of_null = refl

-- local x: bool = main();
local_of_no_value : IsBroken 21 12 (in_main (local "x" BoolType (suffixed (name "main") (call [] ∷ [])) ∷ []))
local_of_no_value = refl

-- field x: bool = 1;
field_of_another_type : IsBroken 21 12 (with_members (field "x" BoolType (number "1") ∷ []))
field_of_another_type = refl

-- class C { field x: raw.8 = 5; }
field_of_class : IsBroken 21 17 (with_declarations (class "C" (field "x" (raw "8") (number "5") ∷ []) ∷ []))
field_of_class = refl

-- field x: int = Main.main();
field_of_no_value : IsBroken 21 12 (with_members (field "x" IntType (suffixed (name "Main") (dot "main" ∷ call [] ∷ [])) ∷ []))
field_of_no_value = refl

-- local x: int; for (x = true; true; x = 1) { }
in_front_of_loop : IsBroken 21 14 (in_main (local "x" IntType Nothing ∷ counting (assign (name "x") yes) yes (assign (name "x") (number "1")) [] ∷ []))
in_front_of_loop = refl

-- local x: int; for (x = 1; true; x = true) { }
behind_loop : IsBroken 21 18 (in_main (local "x" IntType Nothing ∷ counting (assign (name "x") (number "1")) yes (assign (name "x") yes) [] ∷ []))
behind_loop = refl

-- field x: int; method n(p: bool) { local y: char; y = 'a'; p = true; x = 1; Main.x = 1; M.R = 0x05; new A().f = 1; new int[1][0] = 1; new A().t[0] = 1; }
places : IsLegal (with_members (field "x" IntType Nothing ∷ method "n" (param "p" BoolType ∷ []) NoType (local "y" CharType Nothing
    ∷ assign (name "y") (character "'a'") ∷ assign (name "p") yes ∷ assign (name "x") (number "1") ∷ assign (suffixed (name "Main") (dot "x"
    ∷ [])) (number "1") ∷ assign (suffixed (name "M") (dot "R" ∷ [])) (number "0x05") ∷ assign (suffixed (new "A" []) (dot "f" ∷ [])) (number "1")
    ∷ assign (suffixed (new_array IntType (number "1")) (index (number "0") ∷ [])) (number "1") ∷ assign (suffixed (new "A" []) (dot "t"
    ∷ index (number "0") ∷ [])) (number "1") ∷ []) ∷ []))
places = refl

-- class C extends B { method n() { f = 1; this.f = 1; t[0] = 1; } }
fields_of_this : IsLegal (with_declarations (subclass "C" "B" (method "n" [] NoType (assign (name "f") (number "1") ∷ assign (suffixed this (dot "f"
    ∷ [])) (number "1") ∷ assign (suffixed (name "t") (index (number "0") ∷ [])) (number "1") ∷ []) ∷ []) ∷ []))
fields_of_this = refl

-- local x: int; (x) = 1; (M.R) = 0x05;
place_in_parentheses : IsLegal (in_main (local "x" IntType Nothing ∷ assign (name "x") (number "1") ∷ assign (suffixed (name "M") (dot "R"
    ∷ [])) (number "0x05") ∷ []))
place_in_parentheses = refl

-- local a: A = new B(); a = null; local t: int[] = null; local d: function() = null; d = main; local e: function(int): int = a.m;
what_fits : IsLegal (in_main (local "a" (of_class "A") (new "B" []) ∷ assign (name "a") null ∷ local "t" (ArrayType IntType) null
    ∷ local "d" (function [] NoType) null ∷ assign (name "d") (name "main") ∷ local "e" (function (IntType ∷ []) IntType) (suffixed (name "a") (dot "m"
    ∷ [])) ∷ []))
what_fits = refl

-- field a: A = new B(); field b: raw.4 = 0x5; field c: char[] = "ab"; field d: function() = Main.main; field e: B = null;
fields_that_fit : IsLegal (with_members (field "a" (of_class "A") (new "B" []) ∷ field "b" (raw "4") (number "0x5")
    ∷ field "c" (ArrayType CharType) (string "\"ab\"") ∷ field "d" (function [] NoType) (suffixed (name "Main") (dot "main" ∷ []))
    ∷ field "e" (of_class "B") null ∷ []))
fields_that_fit = refl

-- ---- rule 22

-- if (1) { }
if_int : IsBroken 22 12 (in_main (choice (arm (number "1") [] Nothing) Nothing ∷ []))
if_int = refl

-- if (null) { }
if_null : IsBroken 22 12 (in_main (choice (arm null [] Nothing) Nothing ∷ []))
if_null = refl

-- if (main()) { }
if_no_value : IsBroken 22 12 (in_main (choice (arm (suffixed (name "main") (call [] ∷ [])) [] Nothing) Nothing ∷ []))
if_no_value = refl

-- method n(): bool { if (n) { } }
if_method : IsBroken 22 14 (with_members (method "n" [] BoolType (choice (arm (name "n") [] Nothing) Nothing ∷ []) ∷ []))
if_method = refl

-- if (true) { } else if (1) { } else { }
else_if_int : IsBroken 22 12 (in_main (choice (arm yes [] (arm (number "1") [] Nothing)) (block []) ∷ []))
else_if_int = refl

-- if (true) { } else if (false) { } else if (0x1) { }
third_arm : IsBroken 22 12 (in_main (choice (arm yes [] (arm no [] (arm (number "0x1") [] Nothing))) Nothing ∷ []))
third_arm = refl

-- while (0x1) { }
while_raw : IsBroken 22 12 (in_main (loop (number "0x1") [] ∷ []))
while_raw = refl

-- for (; 1; ) { }
for_int : IsBroken 22 12 (in_main (counting Nothing (number "1") Nothing [] ∷ []))
for_int = refl

-- if (true) { if (1) { } }
inner_if : IsBroken 22 15 (in_main (choice (arm yes (choice (arm (number "1") [] Nothing) Nothing ∷ []) Nothing) Nothing ∷ []))
inner_if = refl

-- if (true) { } else if (1 < 2) { } else { } while (false) { } for (; true; ) { }
conditions : IsLegal (in_main (choice (arm yes [] (arm (chain (number "1") (part kind.Less (number "2") ∷ [])) [] Nothing)) (block []) ∷ loop no []
    ∷ counting Nothing yes Nothing [] ∷ []))
conditions = refl

-- ---- rule 23

-- method n(): int { return; }
no_value : IsBroken 23 14 (with_members (method "n" [] IntType (gives Nothing ∷ []) ∷ []))
no_value = refl

-- return 1;
value_without_result : IsBroken 23 12 (in_main (gives (number "1") ∷ []))
value_without_result = refl

-- return main();
no_value_as_value : IsBroken 23 12 (in_main (gives (suffixed (name "main") (call [] ∷ [])) ∷ []))
no_value_as_value = refl

-- class C { constructor() { return this; } }
value_in_constructor : IsBroken 23 19 (with_declarations (class "C" (constructor [] (gives this ∷ []) ∷ []) ∷ []))
value_in_constructor = refl

-- constructor() { return 1; }
value_in_constructor_of_component : IsBroken 23 14 (with_members (constructor [] (gives (number "1") ∷ []) ∷ []))
value_in_constructor_of_component = refl

-- method n(): int { return true; }
other_type : IsBroken 23 14 (with_members (method "n" [] IntType (gives yes ∷ []) ∷ []))
other_type = refl

-- method n(): B { return new A(); }
above : IsBroken 23 14 (with_members (method "n" [] (of_class "B") (gives (new "A" []) ∷ []) ∷ []))
above = refl

-- method n(): int { return main(); }
no_value_for_result : IsBroken 23 14 (with_members (method "n" [] IntType (gives (suffixed (name "main") (call [] ∷ [])) ∷ []) ∷ []))
no_value_for_result = refl

-- method n(): int { return null; }
null_for_int : IsBroken 23 14 (with_members (method "n" [] IntType (gives null ∷ []) ∷ []))
null_for_int = refl

-- method n(): int { if (true) { return 1; } else { return; } }
in_a_block : IsBroken 23 20 (with_members (method "n" [] IntType (choice (arm yes (gives (number "1") ∷ []) Nothing) (block (gives Nothing ∷ [])) ∷ []) ∷ []))
in_a_block = refl

-- method n(): A { return new B(); } method o(): int[] { return null; } method p() { return; } method q(): int { }
returns : IsLegal (with_members (method "n" [] (of_class "A") (gives (new "B" []) ∷ []) ∷ method "o" [] (ArrayType IntType) (gives null ∷ [])
    ∷ method "p" [] NoType (gives Nothing ∷ []) ∷ method "q" [] IntType [] ∷ []))
returns = refl

-- constructor() { return; }
return_in_constructor : IsLegal (with_members (constructor [] (gives Nothing ∷ []) ∷ []))
return_in_constructor = refl

-- method n(): function() { return main; }
returns_delegate : IsLegal (with_members (method "n" [] (function [] NoType) (gives (name "main") ∷ []) ∷ []))
returns_delegate = refl

-- ---- rule 24

-- break;
break_alone : IsBroken 24 12 (in_main (leaves ∷ []))
break_alone = refl

-- continue;
continue_alone : IsBroken 24 12 (in_main (goes_on ∷ []))
continue_alone = refl

-- if (true) { break; }
break_in_if : IsBroken 24 15 (in_main (choice (arm yes (leaves ∷ []) Nothing) Nothing ∷ []))
break_in_if = refl

-- while (true) { } break;
break_behind_loop : IsBroken 24 15 (in_main (loop yes [] ∷ leaves ∷ []))
break_behind_loop = refl

-- for (; true; ) { } { continue; }
continue_behind_loop : IsBroken 24 16 (in_main (counting Nothing yes Nothing [] ∷ block (goes_on ∷ []) ∷ []))
continue_behind_loop = refl

-- constructor() { break; }
break_in_constructor : IsBroken 24 14 (with_members (constructor [] (leaves ∷ []) ∷ []))
break_in_constructor = refl

-- while (true) { break; continue; } for (; true; ) { if (true) { { break; } } else { continue; } }
jumps : IsLegal (in_main (loop yes (leaves ∷ goes_on ∷ []) ∷ counting Nothing yes Nothing (choice (arm yes (block (leaves ∷ [])
    ∷ []) Nothing) (block (goes_on ∷ [])) ∷ []) ∷ []))
jumps = refl

-- while (true) { while (false) { } break; }
jump_in_inner_loop : IsLegal (in_main (loop yes (loop no [] ∷ leaves ∷ []) ∷ []))
jump_in_inner_loop = refl

-- ---- rule 25

-- new C();
unknown_class : IsBroken 25 13 (in_main (eval (new "C" []) ∷ []))
unknown_class = refl

-- new Main();
component_made : IsBroken 25 13 (in_main (eval (new "Main" []) ∷ []))
component_made = refl

-- new M();
device_made : IsBroken 25 13 (in_main (eval (new "M" []) ∷ []))
device_made = refl

-- new A(1);
too_many_arguments : IsBroken 25 13 (in_main (eval (new "A" (number "1" ∷ [])) ∷ []))
too_many_arguments = refl

-- class C { constructor(a: int, b: int) { } method n() { new C(1); } }
too_few_arguments : IsBroken 25 22 (with_declarations (class "C" (constructor (param "a" IntType ∷ param "b" IntType ∷ []) []
    ∷ method "n" [] NoType (eval (new "C" (number "1" ∷ [])) ∷ []) ∷ []) ∷ []))
too_few_arguments = refl

-- class C { constructor(a: int) { } method n() { new C(true); } }
other_argument : IsBroken 25 22 (with_declarations (class "C" (constructor (param "a" IntType ∷ []) [] ∷ method "n" [] NoType (eval (new "C" (yes ∷ []))
    ∷ []) ∷ []) ∷ []))
other_argument = refl

-- class C { constructor(b: B) { } method n() { new C(new A()); } }
argument_above_the_class : IsBroken 25 22 (with_declarations (class "C" (constructor (param "b" (of_class "B") ∷ []) []
    ∷ method "n" [] NoType (eval (new "C" (new "A" [] ∷ [])) ∷ []) ∷ []) ∷ []))
argument_above_the_class = refl

-- class C { constructor(b: B) { } method n() { new C(n()); } }
argument_of_no_value : IsBroken 25 22 (with_declarations (class "C" (constructor (param "b" (of_class "B") ∷ []) []
    ∷ method "n" [] NoType (eval (new "C" (suffixed (name "n") (call [] ∷ []) ∷ [])) ∷ []) ∷ []) ∷ []))
argument_of_no_value = refl

-- class C { constructor(a: int) { } } class D extends C { constructor(): super(1) { } method n() { new D(1); } }
arguments_of_the_class_above : IsBroken 25 26 (with_declarations (class "C" (constructor (param "a" IntType ∷ []) [] ∷ [])
    ∷ subclass "D" "C" (constructor_with_super [] (number "1" ∷ []) [] ∷ method "n" [] NoType (eval (new "D" (number "1" ∷ [])) ∷ []) ∷ []) ∷ []))
arguments_of_the_class_above = refl

-- new int[true];
size_of_bool : IsBroken 25 13 (in_main (eval (new_array IntType yes) ∷ []))
size_of_bool = refl

-- new int[0x5];
size_of_raw : IsBroken 25 13 (in_main (eval (new_array IntType (number "0x5")) ∷ []))
size_of_raw = refl

-- new A[main()];
size_of_no_value : IsBroken 25 13 (in_main (eval (new_array (of_class "A") (suffixed (name "main") (call [] ∷ []))) ∷ []))
size_of_no_value = refl

-- class C { constructor(b: A, t: int[]) { } method n(): C { new A(); new B(); new int[1]; new A[-1]; return new C(new B(), null); } }
making : IsLegal (with_declarations (class "C" (constructor (param "b" (of_class "A") ∷ param "t" (ArrayType IntType) ∷ []) []
    ∷ method "n" [] (of_class "C") (eval (new "A" []) ∷ eval (new "B" []) ∷ eval (new_array IntType (number "1"))
    ∷ eval (new_array (of_class "A") (prefixed (kind.Minus ∷ []) (number "1"))) ∷ gives (new "C" (new "B" [] ∷ null ∷ [])) ∷ []) ∷ []) ∷ []))
making = refl
