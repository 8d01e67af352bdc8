-- Members, calls and elements.
use Rattle.std.specs.Prelude.{refl, [], ◌∷◌}
use Rattle.vg_syntax.specs.declared.kind.Kind.TheVariants as kind
use Rattle.vg_syntax.specs.Tree.{ArrayType, BoolType, IntType, NoType, Nothing}
use Rattle.vg_rule_texts.specs.Writing.{IsBroken, IsLegal, assign, call, character, class, component, dot, eval, field, function, gives, in_main, index, local}
use Rattle.vg_rule_texts.specs.Writing.{method, name, new, new_array, null, number, of_class, param, prefixed, string, subclass, suffixed, this}
use Rattle.vg_rule_texts.specs.Writing.{with_declarations, with_members, yes}

-- ---- rule 16

-- new A().gone;
no_member_of_object : IsBroken 16 15 (in_main (eval (suffixed (new "A" []) (dot "gone" ∷ [])) ∷ []))
no_member_of_object = refl

-- class C extends B { field g: int; } component N { method n(b: B) { b.g; } }
member_of_class_below : IsBroken 16 24 (with_declarations (subclass "C" "B" (field "g" IntType Nothing ∷ [])
    ∷ component "N" (method "n" (param "b" (of_class "B") ∷ []) NoType (eval (suffixed (name "b") (dot "g" ∷ [])) ∷ []) ∷ []) ∷ []))
member_of_class_below = refl

-- Main.gone;
no_member_of_component : IsBroken 16 15 (in_main (eval (suffixed (name "Main") (dot "gone" ∷ [])) ∷ []))
no_member_of_component = refl

-- M.S = 0x05;
register_not_declared : IsBroken 16 15 (in_main (assign (suffixed (name "M") (dot "S" ∷ [])) (number "0x05") ∷ []))
register_not_declared = refl

-- M.r = 0x05;
other_case_of_register : IsBroken 16 15 (in_main (assign (suffixed (name "M") (dot "r" ∷ [])) (number "0x05") ∷ []))
other_case_of_register = refl

-- 1.f;
member_of_number : IsBroken 16 15 (in_main (eval (suffixed (number "1") (dot "f" ∷ [])) ∷ []))
member_of_number = refl

-- null.f;
member_of_null : IsBroken 16 15 (in_main (eval (suffixed null (dot "f" ∷ [])) ∷ []))
member_of_null = refl

-- Main.main().f;
member_of_no_value : IsBroken 16 17 (in_main (eval (suffixed (name "Main") (dot "main" ∷ call [] ∷ dot "f" ∷ [])) ∷ []))
member_of_no_value = refl

-- new A().m.f;
member_of_method : IsBroken 16 16 (in_main (eval (suffixed (new "A" []) (dot "m" ∷ dot "f" ∷ [])) ∷ []))
member_of_method = refl

-- M.R.f;
member_of_register : IsBroken 16 16 (in_main (eval (suffixed (name "M") (dot "R" ∷ dot "f" ∷ [])) ∷ []))
member_of_register = refl

-- new A().length;
length_of_object : IsBroken 16 15 (in_main (eval (suffixed (new "A" []) (dot "length" ∷ [])) ∷ []))
length_of_object = refl

-- 0x05.length;
length_of_number : IsBroken 16 15 (in_main (eval (suffixed (number "0x05") (dot "length" ∷ [])) ∷ []))
length_of_number = refl

-- new int[1].size;
other_member_of_array : IsBroken 16 16 (in_main (eval (suffixed (new_array IntType (number "1")) (dot "size" ∷ [])) ∷ []))
other_member_of_array = refl

-- new int[1].length.length;
length_of_length : IsBroken 16 17 (in_main (eval (suffixed (new_array IntType (number "1")) (dot "length" ∷ dot "length" ∷ [])) ∷ []))
length_of_length = refl

-- local M: int; M.R = 0x05;
member_behind_local : IsBroken 16 16 (in_main (local "M" IntType Nothing ∷ assign (suffixed (name "M") (dot "R" ∷ [])) (number "0x05") ∷ []))
member_behind_local = refl

-- new B().f; new B().m; Main.main; M.R;
members : IsLegal (in_main (eval (suffixed (new "B" []) (dot "f" ∷ [])) ∷ eval (suffixed (new "B" []) (dot "m" ∷ []))
    ∷ eval (suffixed (name "Main") (dot "main" ∷ [])) ∷ eval (suffixed (name "M") (dot "R" ∷ [])) ∷ []))
members = refl

-- new int[1].length; "ab".length; new A().t.length;
lengths : IsLegal (in_main (eval (suffixed (new_array IntType (number "1")) (dot "length" ∷ [])) ∷ eval (suffixed (string "\"ab\"") (dot "length" ∷ []))
    ∷ eval (suffixed (new "A" []) (dot "t" ∷ dot "length" ∷ [])) ∷ []))
lengths = refl

-- class C { field length: bool; method n(): bool { return this.length; } }
field_named_length : IsLegal (with_declarations (class "C" (field "length" BoolType Nothing ∷ method "n" [] BoolType (gives (suffixed this (dot "length"
    ∷ [])) ∷ []) ∷ []) ∷ []))
field_named_length = refl

-- ---- rule 17

-- 1();
number_called : IsBroken 17 15 (in_main (eval (suffixed (number "1") (call [] ∷ [])) ∷ []))
number_called = refl

-- null();
null_called : IsBroken 17 15 (in_main (eval (suffixed null (call [] ∷ [])) ∷ []))
null_called = refl

-- new A().f(1);
field_called : IsBroken 17 16 (in_main (eval (suffixed (new "A" []) (dot "f" ∷ call (number "1" ∷ []) ∷ [])) ∷ []))
field_called = refl

-- new A()();
object_called : IsBroken 17 15 (in_main (eval (suffixed (new "A" []) (call [] ∷ [])) ∷ []))
object_called = refl

-- main()();
no_value_called : IsBroken 17 16 (in_main (eval (suffixed (name "main") (call [] ∷ call [] ∷ [])) ∷ []))
no_value_called = refl

-- new A().m(1)(1);
result_called : IsBroken 17 18 (in_main (eval (suffixed (new "A" []) (dot "m" ∷ call (number "1" ∷ []) ∷ call (number "1" ∷ []) ∷ [])) ∷ []))
result_called = refl

-- new A().m();
argument_missing : IsBroken 17 16 (in_main (eval (suffixed (new "A" []) (dot "m" ∷ call [] ∷ [])) ∷ []))
argument_missing = refl

-- new A().m(1, 2);
argument_too_many : IsBroken 17 16 (in_main (eval (suffixed (new "A" []) (dot "m" ∷ call (number "1" ∷ number "2" ∷ []) ∷ [])) ∷ []))
argument_too_many = refl

-- new A().m(true);
argument_of_another_type : IsBroken 17 16 (in_main (eval (suffixed (new "A" []) (dot "m" ∷ call (yes ∷ []) ∷ [])) ∷ []))
argument_of_another_type = refl

-- new A().m(main());
argument_without_value : IsBroken 17 16 (in_main (eval (suffixed (new "A" []) (dot "m" ∷ call (suffixed (name "main") (call [] ∷ []) ∷ []) ∷ [])) ∷ []))
argument_without_value = refl

-- Main.main(1);
argument_of_component_method : IsBroken 17 16 (in_main (eval (suffixed (name "Main") (dot "main" ∷ call (number "1" ∷ []) ∷ [])) ∷ []))
argument_of_component_method = refl

-- main(1);
argument_of_own_method : IsBroken 17 15 (in_main (eval (suffixed (name "main") (call (number "1" ∷ []) ∷ [])) ∷ []))
argument_of_own_method = refl

-- method n(b: B) { n(new A()); }
argument_above : IsBroken 17 17 (with_members (method "n" (param "b" (of_class "B") ∷ []) NoType (eval (suffixed (name "n") (call (new "A" [] ∷ []) ∷ []))
    ∷ []) ∷ []))
argument_above = refl

-- method n(d: function(int)) { d(true); }
argument_of_delegate : IsBroken 17 17 (with_members (method "n" (param "d" (function (IntType ∷ []) NoType)
    ∷ []) NoType (eval (suffixed (name "d") (call (yes ∷ []) ∷ [])) ∷ []) ∷ []))
argument_of_delegate = refl

-- method n(d: function(int, int)) { d(1); }
too_few_for_delegate : IsBroken 17 17 (with_members (method "n" (param "d" (function (IntType ∷ IntType ∷ []) NoType)
    ∷ []) NoType (eval (suffixed (name "d") (call (number "1" ∷ []) ∷ [])) ∷ []) ∷ []))
too_few_for_delegate = refl

-- new B().m(1); Main.main(); main(); (new A().m)(1); (main)();
calls : IsLegal (in_main (eval (suffixed (new "B" []) (dot "m" ∷ call (number "1" ∷ []) ∷ [])) ∷ eval (suffixed (name "Main") (dot "main" ∷ call [] ∷ []))
    ∷ eval (suffixed (name "main") (call [] ∷ [])) ∷ eval (suffixed (suffixed (new "A" []) (dot "m" ∷ [])) (call (number "1" ∷ []) ∷ []))
    ∷ eval (suffixed (name "main") (call [] ∷ [])) ∷ []))
calls = refl

-- method n(a: A, b: int[], c: function(), d: A) { n(new B(), null, null, null); }
argument_below : IsLegal (with_members (method "n" (param "a" (of_class "A") ∷ param "b" (ArrayType IntType) ∷ param "c" (function [] NoType)
    ∷ param "d" (of_class "A") ∷ []) NoType (eval (suffixed (name "n") (call (new "B" [] ∷ null ∷ null ∷ null ∷ []) ∷ [])) ∷ []) ∷ []))
argument_below = refl

-- method n(d: function(int): int) { n(new A().m); }
method_as_argument : IsLegal (with_members (method "n" (param "d" (function (IntType ∷ []) IntType)
    ∷ []) NoType (eval (suffixed (name "n") (call (suffixed (new "A" []) (dot "m" ∷ []) ∷ []) ∷ [])) ∷ []) ∷ []))
method_as_argument = refl

-- method n(d: function(int), e: (function())[], f: function(): (function())) { d(1); e[0](); f()(); }
delegates_called : IsLegal (with_members (method "n" (param "d" (function (IntType ∷ []) NoType) ∷ param "e" (ArrayType (function [] NoType))
    ∷ param "f" (function [] (function [] NoType)) ∷ []) NoType (eval (suffixed (name "d") (call (number "1" ∷ []) ∷ []))
    ∷ eval (suffixed (name "e") (index (number "0") ∷ call [] ∷ [])) ∷ eval (suffixed (name "f") (call [] ∷ call [] ∷ [])) ∷ []) ∷ []))
delegates_called = refl

-- ---- rule 20

-- 1[0];
number_indexed : IsBroken 20 15 (in_main (eval (suffixed (number "1") (index (number "0") ∷ [])) ∷ []))
number_indexed = refl

-- null[0];
null_indexed : IsBroken 20 15 (in_main (eval (suffixed null (index (number "0") ∷ [])) ∷ []))
null_indexed = refl

-- new A()[0];
object_indexed : IsBroken 20 15 (in_main (eval (suffixed (new "A" []) (index (number "0") ∷ [])) ∷ []))
object_indexed = refl

-- main[0];
method_indexed : IsBroken 20 15 (in_main (eval (suffixed (name "main") (index (number "0") ∷ [])) ∷ []))
method_indexed = refl

-- main()[0];
no_value_indexed : IsBroken 20 16 (in_main (eval (suffixed (name "main") (call [] ∷ index (number "0") ∷ [])) ∷ []))
no_value_indexed = refl

-- new int[1][0x0];
index_of_raw : IsBroken 20 16 (in_main (eval (suffixed (new_array IntType (number "1")) (index (number "0x0") ∷ [])) ∷ []))
index_of_raw = refl

-- new int[1]['a'];
index_of_char : IsBroken 20 16 (in_main (eval (suffixed (new_array IntType (number "1")) (index (character "'a'") ∷ [])) ∷ []))
index_of_char = refl

-- new int[1][true];
index_of_bool : IsBroken 20 16 (in_main (eval (suffixed (new_array IntType (number "1")) (index yes ∷ [])) ∷ []))
index_of_bool = refl

-- new int[1][main()];
index_of_no_value : IsBroken 20 16 (in_main (eval (suffixed (new_array IntType (number "1")) (index (suffixed (name "main") (call [] ∷ [])) ∷ [])) ∷ []))
index_of_no_value = refl

-- new int[1][0][0];
too_many_indexes : IsBroken 20 18 (in_main (eval (suffixed (new_array IntType (number "1")) (index (number "0") ∷ index (number "0") ∷ [])) ∷ []))
too_many_indexes = refl

-- new int[1][0]; "ab"[-1]; new int[1][][0][0]; new A().t[new A().f];
elements : IsLegal (in_main (eval (suffixed (new_array IntType (number "1")) (index (number "0") ∷ []))
    ∷ eval (suffixed (string "\"ab\"") (index (prefixed (kind.Minus ∷ []) (number "1")) ∷ []))
    ∷ eval (suffixed (new_array (ArrayType IntType) (number "1")) (index (number "0") ∷ index (number "0") ∷ [])) ∷ eval (suffixed (new "A" []) (dot "t"
    ∷ index (suffixed (new "A" []) (dot "f" ∷ [])) ∷ [])) ∷ []))
elements = refl
