-- What names, numbers and `this` stand for.
use Rattle.std.specs.Prelude.{refl, [], ◌∷◌}
use Rattle.vg_syntax.specs.declared.kind.Kind.TheVariants as kind
use Rattle.vg_syntax.specs.Tree.{BoolType, IntType, NoType, Nothing}
use Rattle.vg_rule_texts.specs.Writing.{IsBroken, IsLegal, arm, assign, block, call, chain, choice, class, component, constructor, constructor_with_super, dot}
use Rattle.vg_rule_texts.specs.Writing.{eval, field, gives, in_main, index, local, loop, method, name, no, number, of_class, param, part, prefixed, subclass}
use Rattle.vg_rule_texts.specs.Writing.{suffixed, this, with_declarations, with_members, yes}

-- ---- rule 11

-- local x: int; local x: bool;
local_twice : IsBroken 11 13 (in_main (local "x" IntType Nothing ∷ local "x" BoolType Nothing ∷ []))
local_twice = refl

-- method n(x: int) { local x: int; }
local_as_parameter : IsBroken 11 14 (with_members (method "n" (param "x" IntType ∷ []) NoType (local "x" IntType Nothing ∷ []) ∷ []))
local_as_parameter = refl

-- class C { constructor(x: int) { local x: int; } }
local_as_parameter_of_constructor : IsBroken 11 19 (with_declarations (class "C" (constructor (param "x" IntType ∷ []) (local "x" IntType Nothing ∷ [])
    ∷ []) ∷ []))
local_as_parameter_of_constructor = refl

-- local x: int; { { local x: int; } }
local_of_outer_block : IsBroken 11 15 (in_main (local "x" IntType Nothing ∷ block (block (local "x" IntType Nothing ∷ []) ∷ []) ∷ []))
local_of_outer_block = refl

-- method n(x: int) { if (true) { local x: int; } }
local_as_parameter_in_block : IsBroken 11 17 (with_members (method "n" (param "x" IntType ∷ []) NoType (choice (arm yes (local "x" IntType Nothing
    ∷ []) Nothing) Nothing ∷ []) ∷ []))
local_as_parameter_in_block = refl

-- { local x: int; } { local x: bool; }
locals_of_two_blocks : IsLegal (in_main (block (local "x" IntType Nothing ∷ []) ∷ block (local "x" BoolType Nothing ∷ []) ∷ []))
locals_of_two_blocks = refl

-- { local x: int; } local x: bool;
local_of_inner_block : IsLegal (in_main (block (local "x" IntType Nothing ∷ []) ∷ local "x" BoolType Nothing ∷ []))
local_of_inner_block = refl

-- if (true) { local x: int; } else if (true) { local x: int; } else { local x: int; } local x: int;
locals_of_two_arms : IsLegal (in_main (choice (arm yes (local "x" IntType Nothing ∷ []) (arm yes (local "x" IntType Nothing
    ∷ []) Nothing)) (block (local "x" IntType Nothing ∷ [])) ∷ local "x" IntType Nothing ∷ []))
locals_of_two_arms = refl

-- local main: int; local Main: int; local M: int; local A: int; local P: int;
local_hides : IsLegal (in_main (local "main" IntType Nothing ∷ local "Main" IntType Nothing ∷ local "M" IntType Nothing ∷ local "A" IntType Nothing
    ∷ local "P" IntType Nothing ∷ []))
local_hides = refl

-- ---- rule 13

-- 2147483649;
number_too_large : IsBroken 13 13 (in_main (eval (number "2147483649") ∷ []))
number_too_large = refl

-- 0x123456789;
nine_digits : IsBroken 13 13 (in_main (eval (number "0x123456789") ∷ []))
nine_digits = refl

-- 0x000000001;
nine_digits_with_zeros : IsBroken 13 13 (in_main (eval (number "0x000000001") ∷ []))
nine_digits_with_zeros = refl

-- -4294967296;
large_operand : IsBroken 13 14 (in_main (eval (prefixed (kind.Minus ∷ []) (number "4294967296")) ∷ []))
large_operand = refl

-- 2147483648;
largest_number : IsLegal (in_main (eval (number "2147483648") ∷ []))
largest_number = refl

-- 0xFFFFFFFF;
eight_digits : IsLegal (in_main (eval (number "0xFFFFFFFF") ∷ []))
eight_digits = refl

-- 000000000000000000001;
decimal_with_zeros : IsLegal (in_main (eval (number "000000000000000000001") ∷ []))
decimal_with_zeros = refl

-- ---- rule 14

-- x;
unknown : IsBroken 14 13 (in_main (eval (name "x") ∷ []))
unknown = refl

-- x = 1;
unknown_target : IsBroken 14 13 (in_main (assign (name "x") (number "1") ∷ []))
unknown_target = refl

-- local x: int; X = 1;
other_case : IsBroken 14 14 (in_main (local "x" IntType Nothing ∷ assign (name "X") (number "1") ∷ []))
other_case = refl

-- if (false) { x; }
unknown_where_nothing_runs : IsBroken 14 16 (in_main (choice (arm no (eval (name "x") ∷ []) Nothing) Nothing ∷ []))
unknown_where_nothing_runs = refl

-- Main;
component_alone : IsBroken 14 13 (in_main (eval (name "Main") ∷ []))
component_alone = refl

-- M = 0x05;
device_alone : IsBroken 14 13 (in_main (assign (name "M") (number "0x05") ∷ []))
device_alone = refl

-- Main();
component_called : IsBroken 14 14 (in_main (eval (suffixed (name "Main") (call [] ∷ [])) ∷ []))
component_called = refl

-- Main[0];
component_indexed : IsBroken 14 14 (in_main (eval (suffixed (name "Main") (index (number "0") ∷ [])) ∷ []))
component_indexed = refl

-- A;
class_alone : IsBroken 14 13 (in_main (eval (name "A") ∷ []))
class_alone = refl

-- A.f;
class_in_front : IsBroken 14 14 (in_main (eval (suffixed (name "A") (dot "f" ∷ [])) ∷ []))
class_in_front = refl

-- P.main;
program_in_front : IsBroken 14 14 (in_main (eval (suffixed (name "P") (dot "main" ∷ [])) ∷ []))
program_in_front = refl

-- x = 1; local x: int;
before_its_local : IsBroken 14 13 (in_main (assign (name "x") (number "1") ∷ local "x" IntType Nothing ∷ []))
before_its_local = refl

-- local x: int = x;
in_its_local : IsBroken 14 13 (in_main (local "x" IntType (name "x") ∷ []))
in_its_local = refl

-- { local x: int; } x;
behind_its_block : IsBroken 14 15 (in_main (block (local "x" IntType Nothing ∷ []) ∷ eval (name "x") ∷ []))
behind_its_block = refl

-- if (true) { local x: int; } else { x; }
in_another_arm : IsBroken 14 18 (in_main (choice (arm yes (local "x" IntType Nothing ∷ []) Nothing) (block (eval (name "x") ∷ [])) ∷ []))
in_another_arm = refl

-- if (true) { local x: int; } else if (x == 0) { }
in_another_condition : IsBroken 14 17 (in_main (choice (arm yes (local "x" IntType Nothing ∷ []) (arm (chain (name "x") (part kind.EqualEqual (number "0")
    ∷ [])) [] Nothing)) Nothing ∷ []))
in_another_condition = refl

-- while (x) { local x: bool; }
local_of_loop : IsBroken 14 13 (in_main (loop (name "x") (local "x" BoolType Nothing ∷ []) ∷ []))
local_of_loop = refl

-- method n(x: int) { } method o() { x; }
parameter_of_another : IsBroken 14 17 (with_members (method "n" (param "x" IntType ∷ []) NoType [] ∷ method "o" [] NoType (eval (name "x") ∷ []) ∷ []))
parameter_of_another = refl

-- field x: int = 1; field y: int = x;
member_in_initialiser : IsBroken 14 15 (with_members (field "x" IntType (number "1") ∷ field "y" IntType (name "x") ∷ []))
member_in_initialiser = refl

-- class C { field x: int = 1; field y: int = x; }
member_in_initialiser_of_class : IsBroken 14 20 (with_declarations (class "C" (field "x" IntType (number "1") ∷ field "y" IntType (name "x") ∷ []) ∷ []))
member_in_initialiser_of_class = refl

-- class C extends A { field y: int = f; }
inherited_in_initialiser : IsBroken 14 18 (with_declarations (subclass "C" "A" (field "y" IntType (name "f") ∷ []) ∷ []))
inherited_in_initialiser = refl

-- class C { field y: int = x; constructor(x: int) { } }
parameter_in_initialiser : IsBroken 14 18 (with_declarations (class "C" (field "y" IntType (name "x") ∷ constructor (param "x" IntType ∷ []) [] ∷ []) ∷ []))
parameter_in_initialiser = refl

-- class C { constructor(a: int) { } } class D extends C { field x: int; constructor(): super(x) { } }
member_in_super : IsBroken 14 22 (with_declarations (class "C" (constructor (param "a" IntType ∷ []) [] ∷ [])
    ∷ subclass "D" "C" (field "x" IntType Nothing ∷ constructor_with_super [] (name "x" ∷ []) [] ∷ []) ∷ []))
member_in_super = refl

-- class C { field x: int; constructor(a: int) { } } class D extends C { constructor(): super(x) { } }
inherited_in_super : IsBroken 14 22 (with_declarations (class "C" (field "x" IntType Nothing ∷ constructor (param "a" IntType ∷ []) [] ∷ [])
    ∷ subclass "D" "C" (constructor_with_super [] (name "x" ∷ []) [] ∷ []) ∷ []))
inherited_in_super = refl

-- class C { method n() { x; } } class D extends C { field x: int; }
member_of_class_below : IsBroken 14 20 (with_declarations (class "C" (method "n" [] NoType (eval (name "x") ∷ []) ∷ [])
    ∷ subclass "D" "C" (field "x" IntType Nothing ∷ []) ∷ []))
member_of_class_below = refl

-- component N { method n() { main(); } }
member_of_other_component : IsBroken 14 21 (with_declarations (component "N" (method "n" [] NoType (eval (suffixed (name "main") (call [] ∷ [])) ∷ [])
    ∷ []) ∷ []))
member_of_other_component = refl

-- field y: int; method n(x: int) { local z: int = x + y; { local w: int = z; z = w; } n(z); }
names_in_scope : IsLegal (with_members (field "y" IntType Nothing ∷ method "n" (param "x" IntType
    ∷ []) NoType (local "z" IntType (chain (name "x") (part kind.Plus (name "y") ∷ [])) ∷ block (local "w" IntType (name "z")
    ∷ assign (name "z") (name "w") ∷ []) ∷ eval (suffixed (name "n") (call (name "z" ∷ []) ∷ [])) ∷ []) ∷ []))
names_in_scope = refl

-- class C extends B { method n() { f = m(f); } }
inherited_name : IsLegal (with_declarations (subclass "C" "B" (method "n" [] NoType (assign (name "f") (suffixed (name "m") (call (name "f" ∷ []) ∷ []))
    ∷ []) ∷ []) ∷ []))
inherited_name = refl

-- M.R = 0x05; Main.main();
in_front_of_member : IsLegal (in_main (assign (suffixed (name "M") (dot "R" ∷ [])) (number "0x05") ∷ eval (suffixed (name "Main") (dot "main" ∷ call []
    ∷ [])) ∷ []))
in_front_of_member = refl

-- (M).R = 0x05; (Main).main();
in_front_of_member_in_parentheses : IsLegal (in_main (assign (suffixed (name "M") (dot "R" ∷ [])) (number "0x05")
    ∷ eval (suffixed (name "Main") (dot "main" ∷ call [] ∷ [])) ∷ []))
in_front_of_member_in_parentheses = refl

-- field x: int = 1; field y: int = Main.x;
component_in_initialiser : IsLegal (with_members (field "x" IntType (number "1") ∷ field "y" IntType (suffixed (name "Main") (dot "x" ∷ [])) ∷ []))
component_in_initialiser = refl

-- class C { constructor(a: int) { } } class D extends C { constructor(x: int): super(x) { } }
parameter_in_super : IsLegal (with_declarations (class "C" (constructor (param "a" IntType ∷ []) [] ∷ [])
    ∷ subclass "D" "C" (constructor_with_super (param "x" IntType ∷ []) (name "x" ∷ []) [] ∷ []) ∷ []))
parameter_in_super = refl

-- field x: bool; method n() { local x: int = 1; x = x + 1; }
local_that_hides : IsLegal (with_members (field "x" BoolType Nothing ∷ method "n" [] NoType (local "x" IntType (number "1")
    ∷ assign (name "x") (chain (name "x") (part kind.Plus (number "1") ∷ [])) ∷ []) ∷ []))
local_that_hides = refl

-- field x: int; method n() { local x: int = x; }
member_in_local_that_hides : IsLegal (with_members (field "x" IntType Nothing ∷ method "n" [] NoType (local "x" IntType (name "x") ∷ []) ∷ []))
member_in_local_that_hides = refl

-- class C { field Main: A; field M: int; method n() { Main.f = M; } }
member_that_hides : IsLegal (with_declarations (class "C" (field "Main" (of_class "A") Nothing ∷ field "M" IntType Nothing
    ∷ method "n" [] NoType (assign (suffixed (name "Main") (dot "f" ∷ [])) (name "M") ∷ []) ∷ []) ∷ []))
member_that_hides = refl

-- ---- rule 15

-- this;
this_in_method_of_component : IsBroken 15 13 (in_main (eval this ∷ []))
this_in_method_of_component = refl

-- constructor() { this; }
this_in_constructor_of_component : IsBroken 15 15 (with_members (constructor [] (eval this ∷ []) ∷ []))
this_in_constructor_of_component = refl

-- this.main();
this_in_front : IsBroken 15 14 (in_main (eval (suffixed this (dot "main" ∷ call [] ∷ [])) ∷ []))
this_in_front = refl

-- class C { field x: C = this; }
this_in_initialiser : IsBroken 15 18 (with_declarations (class "C" (field "x" (of_class "C") this ∷ []) ∷ []))
this_in_initialiser = refl

-- class C { constructor(a: A) { } } class D extends C { constructor(): super(this) { } }
this_in_super : IsBroken 15 21 (with_declarations (class "C" (constructor (param "a" (of_class "A") ∷ []) [] ∷ [])
    ∷ subclass "D" "C" (constructor_with_super [] (this ∷ []) [] ∷ []) ∷ []))
this_in_super = refl

-- class C extends B { field x: A; constructor() { x = this; } method n(): int { return this.m(this.f); } }
this_in_class : IsLegal (with_declarations (subclass "C" "B" (field "x" (of_class "A") Nothing ∷ constructor [] (assign (name "x") this ∷ [])
    ∷ method "n" [] IntType (gives (suffixed this (dot "m" ∷ call (suffixed this (dot "f" ∷ []) ∷ []) ∷ [])) ∷ []) ∷ []) ∷ []))
this_in_class = refl
