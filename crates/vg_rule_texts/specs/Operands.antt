-- What operators, casts and class tests take.
use Rattle.std.specs.Prelude.{refl, [], ◌∷◌}
use Rattle.vg_syntax.specs.declared.kind.Kind.TheVariants as kind
use Rattle.vg_syntax.specs.Tree.{ArrayType, BoolType, CharType, IntType, NoType}
use Rattle.vg_rule_texts.specs.Writing.{IsBroken, IsLegal, call, cast, chain, character, class, eval, function, in_main, method, name, new, new_array, no, null}
use Rattle.vg_rule_texts.specs.Writing.{number, of_class, param, part, prefixed, raw, subclass, suffixed, test, this, with_declarations, with_members, yes}

-- ---- rule 18

-- 0x1 + 0x2;
sum_of_raws : IsBroken 18 15 (in_main (eval (chain (number "0x1") (part kind.Plus (number "0x2") ∷ [])) ∷ []))
sum_of_raws = refl

-- 'a' + 'b';
sum_of_chars : IsBroken 18 15 (in_main (eval (chain (character "'a'") (part kind.Plus (character "'b'") ∷ [])) ∷ []))
sum_of_chars = refl

-- 1 - true;
difference_of_bool : IsBroken 18 15 (in_main (eval (chain (number "1") (part kind.Minus yes ∷ [])) ∷ []))
difference_of_bool = refl

-- null * 1;
product_of_null : IsBroken 18 15 (in_main (eval (chain null (part kind.Star (number "1") ∷ [])) ∷ []))
product_of_null = refl

-- 1 / 0x1;
quotient_of_raw : IsBroken 18 15 (in_main (eval (chain (number "1") (part kind.Slash (number "0x1") ∷ [])) ∷ []))
quotient_of_raw = refl

-- 0x1 % 1;
remainder_of_raw : IsBroken 18 15 (in_main (eval (chain (number "0x1") (part kind.Percent (number "1") ∷ [])) ∷ []))
remainder_of_raw = refl

-- main() + 1;
sum_of_no_value : IsBroken 18 17 (in_main (eval (chain (suffixed (name "main") (call [] ∷ [])) (part kind.Plus (number "1") ∷ [])) ∷ []))
sum_of_no_value = refl

-- 1 + main;
sum_of_method : IsBroken 18 15 (in_main (eval (chain (number "1") (part kind.Plus (name "main") ∷ [])) ∷ []))
sum_of_method = refl

-- 1 + 2 + true;
second_operator : IsBroken 18 17 (in_main (eval (chain (number "1") (part kind.Plus (number "2") ∷ part kind.Plus yes ∷ [])) ∷ []))
second_operator = refl

-- true < false;
order_of_bools : IsBroken 18 15 (in_main (eval (chain yes (part kind.Less no ∷ [])) ∷ []))
order_of_bools = refl

-- 0x1 <= 0x2;
order_of_raws : IsBroken 18 15 (in_main (eval (chain (number "0x1") (part kind.LessEqual (number "0x2") ∷ [])) ∷ []))
order_of_raws = refl

-- 1 > 'a';
order_of_int_and_char : IsBroken 18 15 (in_main (eval (chain (number "1") (part kind.Greater (character "'a'") ∷ [])) ∷ []))
order_of_int_and_char = refl

-- new A() >= new A();
order_of_objects : IsBroken 18 15 (in_main (eval (chain (new "A" []) (part kind.GreaterEqual (new "A" []) ∷ [])) ∷ []))
order_of_objects = refl

-- 1 < 2 < 3;
order_of_order : IsBroken 18 17 (in_main (eval (chain (number "1") (part kind.Less (number "2") ∷ part kind.Less (number "3") ∷ [])) ∷ []))
order_of_order = refl

-- 1 == 'a';
equal_int_and_char : IsBroken 18 15 (in_main (eval (chain (number "1") (part kind.EqualEqual (character "'a'") ∷ [])) ∷ []))
equal_int_and_char = refl

-- 0x1 != 0x01;
equal_widths : IsBroken 18 15 (in_main (eval (chain (number "0x1") (part kind.NotEqual (number "0x01") ∷ [])) ∷ []))
equal_widths = refl

-- true == 1;
equal_bool_and_int : IsBroken 18 15 (in_main (eval (chain yes (part kind.EqualEqual (number "1") ∷ [])) ∷ []))
equal_bool_and_int = refl

-- class C { method n(a: A) { a == new C(); } }
equal_classes_apart : IsBroken 18 22 (with_declarations (class "C" (method "n" (param "a" (of_class "A")
    ∷ []) NoType (eval (chain (name "a") (part kind.EqualEqual (new "C" []) ∷ [])) ∷ []) ∷ []) ∷ []))
equal_classes_apart = refl

-- new A() == new int[1];
equal_object_and_array : IsBroken 18 15 (in_main (eval (chain (new "A" []) (part kind.EqualEqual (new_array IntType (number "1")) ∷ [])) ∷ []))
equal_object_and_array = refl

-- new int[1] == new char[1];
equal_arrays_apart : IsBroken 18 16 (in_main (eval (chain (new_array IntType (number "1")) (part kind.EqualEqual (new_array CharType (number "1")) ∷ [])) ∷ []))
equal_arrays_apart = refl

-- new A[1] == new B[1];
equal_arrays_of_classes : IsBroken 18 16 (in_main (eval (chain (new_array (of_class "A") (number "1")) (part kind.EqualEqual (new_array (of_class "B")
    (number "1")) ∷ [])) ∷ []))
equal_arrays_of_classes = refl

-- main == main;
equal_delegates : IsBroken 18 15 (in_main (eval (chain (name "main") (part kind.EqualEqual (name "main") ∷ [])) ∷ []))
equal_delegates = refl

-- method n(d: function()) { d == null; }
equal_delegate_and_null : IsBroken 18 17 (with_members (method "n" (param "d" (function [] NoType)
    ∷ []) NoType (eval (chain (name "d") (part kind.EqualEqual null ∷ [])) ∷ []) ∷ []))
equal_delegate_and_null = refl

-- null != main;
equal_null_and_delegate : IsBroken 18 15 (in_main (eval (chain null (part kind.NotEqual (name "main") ∷ [])) ∷ []))
equal_null_and_delegate = refl

-- null == 1;
equal_null_and_int : IsBroken 18 15 (in_main (eval (chain null (part kind.EqualEqual (number "1") ∷ [])) ∷ []))
equal_null_and_int = refl

-- main() == main();
equal_no_values : IsBroken 18 17 (in_main (eval (chain (suffixed (name "main") (call [] ∷ [])) (part kind.EqualEqual (suffixed (name "main") (call []
    ∷ [])) ∷ [])) ∷ []))
equal_no_values = refl

-- 1 & 2;
and_of_ints : IsBroken 18 15 (in_main (eval (chain (number "1") (part kind.And (number "2") ∷ [])) ∷ []))
and_of_ints = refl

-- true | false;
or_of_bools : IsBroken 18 15 (in_main (eval (chain yes (part kind.Or no ∷ [])) ∷ []))
or_of_bools = refl

-- 0x1 ^ 0x01;
xor_of_widths : IsBroken 18 15 (in_main (eval (chain (number "0x1") (part kind.Xor (number "0x01") ∷ [])) ∷ []))
xor_of_widths = refl

-- 0x1 << 0x1;
shift_by_raw : IsBroken 18 15 (in_main (eval (chain (number "0x1") (part kind.ShiftLeft (number "0x1") ∷ [])) ∷ []))
shift_by_raw = refl

-- 1 >> 1;
shift_of_int : IsBroken 18 15 (in_main (eval (chain (number "1") (part kind.ShiftRight (number "1") ∷ [])) ∷ []))
shift_of_int = refl

-- 'a' << 1;
shift_of_char : IsBroken 18 15 (in_main (eval (chain (character "'a'") (part kind.ShiftLeft (number "1") ∷ [])) ∷ []))
shift_of_char = refl

-- 0x1 # 1;
side_by_side_with_int : IsBroken 18 15 (in_main (eval (chain (number "0x1") (part kind.Concat (number "1") ∷ [])) ∷ []))
side_by_side_with_int = refl

-- 0x0000000 # 0x0 # (0x0 :: raw.1);
side_by_side_33_bits : IsBroken 18 17 (in_main (eval (chain (number "0x0000000") (part kind.Concat (number "0x0")
    ∷ part kind.Concat (chain (number "0x0") (cast (raw "1") ∷ [])) ∷ [])) ∷ []))
side_by_side_33_bits = refl

-- true && 1;
both_of_int : IsBroken 18 15 (in_main (eval (chain yes (part kind.AndAnd (number "1") ∷ [])) ∷ []))
both_of_int = refl

-- 0x1 || true;
one_of_raw : IsBroken 18 15 (in_main (eval (chain (number "0x1") (part kind.OrOr yes ∷ [])) ∷ []))
one_of_raw = refl

-- -0x1;
minus_of_raw : IsBroken 18 13 (in_main (eval (prefixed (kind.Minus ∷ []) (number "0x1")) ∷ []))
minus_of_raw = refl

-- -'a';
minus_of_char : IsBroken 18 13 (in_main (eval (prefixed (kind.Minus ∷ []) (character "'a'")) ∷ []))
minus_of_char = refl

-- -main();
minus_of_no_value : IsBroken 18 13 (in_main (eval (prefixed (kind.Minus ∷ []) (suffixed (name "main") (call [] ∷ []))) ∷ []))
minus_of_no_value = refl

-- !1;
not_of_int : IsBroken 18 13 (in_main (eval (prefixed (kind.Not ∷ []) (number "1")) ∷ []))
not_of_int = refl

-- !0x1;
not_of_raw : IsBroken 18 13 (in_main (eval (prefixed (kind.Not ∷ []) (number "0x1")) ∷ []))
not_of_raw = refl

-- ~1;
complement_of_int : IsBroken 18 13 (in_main (eval (prefixed (kind.Complement ∷ []) (number "1")) ∷ []))
complement_of_int = refl

-- ~true;
complement_of_bool : IsBroken 18 13 (in_main (eval (prefixed (kind.Complement ∷ []) yes) ∷ []))
complement_of_bool = refl

-- -!true;
minus_of_not : IsBroken 18 13 (in_main (eval (prefixed (kind.Minus ∷ kind.Not ∷ []) yes) ∷ []))
minus_of_not = refl

-- !-1;
not_of_minus : IsBroken 18 13 (in_main (eval (prefixed (kind.Not ∷ kind.Minus ∷ []) (number "1")) ∷ []))
not_of_minus = refl

-- 1 + 2 - 3 * 4 / 5 % 6; --1; 1 < 2; 1 <= 2; 1 > 2; 1 >= 2; 1 == 2; 1 != 2;
numbers : IsLegal (in_main (eval (chain (number "1") (part kind.Plus (number "2") ∷ part kind.Minus (chain (number "3") (part kind.Star (number "4")
    ∷ part kind.Slash (number "5") ∷ part kind.Percent (number "6") ∷ [])) ∷ [])) ∷ eval (prefixed (kind.Minus ∷ kind.Minus ∷ []) (number "1"))
    ∷ eval (chain (number "1") (part kind.Less (number "2") ∷ [])) ∷ eval (chain (number "1") (part kind.LessEqual (number "2") ∷ []))
    ∷ eval (chain (number "1") (part kind.Greater (number "2") ∷ [])) ∷ eval (chain (number "1") (part kind.GreaterEqual (number "2") ∷ []))
    ∷ eval (chain (number "1") (part kind.EqualEqual (number "2") ∷ [])) ∷ eval (chain (number "1") (part kind.NotEqual (number "2") ∷ [])) ∷ []))
numbers = refl

-- 'a' < 'b'; 'a' <= 'b'; 'a' > 'b'; 'a' >= 'b'; 'a' == 'b'; 'a' != 'b';
chars : IsLegal (in_main (eval (chain (character "'a'") (part kind.Less (character "'b'") ∷ []))
    ∷ eval (chain (character "'a'") (part kind.LessEqual (character "'b'") ∷ [])) ∷ eval (chain (character "'a'") (part kind.Greater (character "'b'")
    ∷ [])) ∷ eval (chain (character "'a'") (part kind.GreaterEqual (character "'b'") ∷ []))
    ∷ eval (chain (character "'a'") (part kind.EqualEqual (character "'b'") ∷ [])) ∷ eval (chain (character "'a'") (part kind.NotEqual (character "'b'")
    ∷ [])) ∷ []))
chars = refl

-- true && false || true; !!true; true == false; true != false; 1 < 2 == 3 < 4;
bools : IsLegal (in_main (eval (chain (chain yes (part kind.AndAnd no ∷ [])) (part kind.OrOr yes ∷ [])) ∷ eval (prefixed (kind.Not ∷ kind.Not ∷ []) yes)
    ∷ eval (chain yes (part kind.EqualEqual no ∷ [])) ∷ eval (chain yes (part kind.NotEqual no ∷ []))
    ∷ eval (chain (chain (number "1") (part kind.Less (number "2") ∷ [])) (part kind.EqualEqual (chain (number "3") (part kind.Less (number "4") ∷ []))
    ∷ [])) ∷ []))
bools = refl

-- 0x1 & 0x2 | 0x3 ^ 0x4; ~~0x1; 0x1 << 1; 0x1 >> -1; 0x1 # 0x02; 0x1 == 0x2; 0x0000000 # 0x0;
raws : IsLegal (in_main (eval (chain (chain (number "0x1") (part kind.And (number "0x2")
    ∷ [])) (part kind.Or (chain (number "0x3") (part kind.Xor (number "0x4") ∷ [])) ∷ [])) ∷ eval (prefixed (kind.Complement ∷ kind.Complement
    ∷ []) (number "0x1")) ∷ eval (chain (number "0x1") (part kind.ShiftLeft (number "1") ∷ []))
    ∷ eval (chain (number "0x1") (part kind.ShiftRight (prefixed (kind.Minus ∷ []) (number "1")) ∷ []))
    ∷ eval (chain (number "0x1") (part kind.Concat (number "0x02") ∷ [])) ∷ eval (chain (number "0x1") (part kind.EqualEqual (number "0x2") ∷ []))
    ∷ eval (chain (number "0x0000000") (part kind.Concat (number "0x0") ∷ [])) ∷ []))
raws = refl

-- new A() == new B(); new B() != new A(); new A() == null; null == new int[1]; null == null; new int[1] != new int[2];
references : IsLegal (in_main (eval (chain (new "A" []) (part kind.EqualEqual (new "B" []) ∷ []))
    ∷ eval (chain (new "B" []) (part kind.NotEqual (new "A" []) ∷ [])) ∷ eval (chain (new "A" []) (part kind.EqualEqual null ∷ []))
    ∷ eval (chain null (part kind.EqualEqual (new_array IntType (number "1")) ∷ [])) ∷ eval (chain null (part kind.EqualEqual null ∷ []))
    ∷ eval (chain (new_array IntType (number "1")) (part kind.NotEqual (new_array IntType (number "2")) ∷ [])) ∷ []))
references = refl

-- new (function())[1] == null;
arrays_of_delegates : IsLegal (in_main (eval (chain (new_array (function [] NoType) (number "1")) (part kind.EqualEqual null ∷ [])) ∷ []))
arrays_of_delegates = refl

-- ---- rule 19

-- true :: int;
bool_to_int : IsBroken 19 15 (in_main (eval (chain yes (cast IntType ∷ [])) ∷ []))
bool_to_int = refl

-- 1 :: bool;
int_to_bool : IsBroken 19 15 (in_main (eval (chain (number "1") (cast BoolType ∷ [])) ∷ []))
int_to_bool = refl

-- true :: raw.1;
bool_to_raw : IsBroken 19 15 (in_main (eval (chain yes (cast (raw "1") ∷ [])) ∷ []))
bool_to_raw = refl

-- 0x1 :: bool;
raw_to_bool : IsBroken 19 15 (in_main (eval (chain (number "0x1") (cast BoolType ∷ [])) ∷ []))
raw_to_bool = refl

-- class C { method n(c: C) { c :: A; } }
classes_apart : IsBroken 19 22 (with_declarations (class "C" (method "n" (param "c" (of_class "C")
    ∷ []) NoType (eval (chain (name "c") (cast (of_class "A") ∷ [])) ∷ []) ∷ []) ∷ []))
classes_apart = refl

-- class C extends A { method n(c: C) { c :: B; } }
beside_one_another : IsBroken 19 22 (with_declarations (subclass "C" "A" (method "n" (param "c" (of_class "C")
    ∷ []) NoType (eval (chain (name "c") (cast (of_class "B") ∷ [])) ∷ []) ∷ []) ∷ []))
beside_one_another = refl

-- new A() :: int;
object_to_int : IsBroken 19 15 (in_main (eval (chain (new "A" []) (cast IntType ∷ [])) ∷ []))
object_to_int = refl

-- 1 :: A;
int_to_class : IsBroken 19 15 (in_main (eval (chain (number "1") (cast (of_class "A") ∷ [])) ∷ []))
int_to_class = refl

-- null :: char[];
null_to_array : IsBroken 19 15 (in_main (eval (chain null (cast (ArrayType CharType) ∷ [])) ∷ []))
null_to_array = refl

-- null :: function();
null_to_function : IsBroken 19 15 (in_main (eval (chain null (cast (function [] NoType) ∷ [])) ∷ []))
null_to_function = refl

-- null :: int;
null_to_int : IsBroken 19 15 (in_main (eval (chain null (cast IntType ∷ [])) ∷ []))
null_to_int = refl

-- new int[1] :: char[];
array_to_array : IsBroken 19 16 (in_main (eval (chain (new_array IntType (number "1")) (cast (ArrayType CharType) ∷ [])) ∷ []))
array_to_array = refl

-- new B[1] :: A[];
array_of_class_to_array : IsBroken 19 16 (in_main (eval (chain (new_array (of_class "B") (number "1")) (cast (ArrayType (of_class "A")) ∷ [])) ∷ []))
array_of_class_to_array = refl

-- new int[1] :: A;
array_to_class : IsBroken 19 16 (in_main (eval (chain (new_array IntType (number "1")) (cast (of_class "A") ∷ [])) ∷ []))
array_to_class = refl

-- main :: function(int);
delegate_to_delegate : IsBroken 19 15 (in_main (eval (chain (name "main") (cast (function (IntType ∷ []) NoType) ∷ [])) ∷ []))
delegate_to_delegate = refl

-- main() :: int;
no_value_to_int : IsBroken 19 17 (in_main (eval (chain (suffixed (name "main") (call [] ∷ [])) (cast IntType ∷ [])) ∷ []))
no_value_to_int = refl

-- 1 :: char :: bool;
second_cast : IsBroken 19 16 (in_main (eval (chain (number "1") (cast CharType ∷ cast BoolType ∷ [])) ∷ []))
second_cast = refl

-- null <: A;
test_of_null : IsBroken 19 15 (in_main (eval (chain null (test (of_class "A") ∷ [])) ∷ []))
test_of_null = refl

-- 1 <: A;
test_of_int : IsBroken 19 15 (in_main (eval (chain (number "1") (test (of_class "A") ∷ [])) ∷ []))
test_of_int = refl

-- new A[1] <: A;
test_of_array : IsBroken 19 16 (in_main (eval (chain (new_array (of_class "A") (number "1")) (test (of_class "A") ∷ [])) ∷ []))
test_of_array = refl

-- new A() <: int;
test_against_int : IsBroken 19 15 (in_main (eval (chain (new "A" []) (test IntType ∷ [])) ∷ []))
test_against_int = refl

-- new A() <: A[];
test_against_array : IsBroken 19 15 (in_main (eval (chain (new "A" []) (test (ArrayType (of_class "A")) ∷ [])) ∷ []))
test_against_array = refl

-- class C { method n(c: C) { c <: A; } }
test_of_classes_apart : IsBroken 19 22 (with_declarations (class "C" (method "n" (param "c" (of_class "C")
    ∷ []) NoType (eval (chain (name "c") (test (of_class "A") ∷ [])) ∷ []) ∷ []) ∷ []))
test_of_classes_apart = refl

-- main() <: A;
test_of_no_value : IsBroken 19 17 (in_main (eval (chain (suffixed (name "main") (call [] ∷ [])) (test (of_class "A") ∷ [])) ∷ []))
test_of_no_value = refl

-- new A() <: B <: B;
test_of_test : IsBroken 19 16 (in_main (eval (chain (new "A" []) (test (of_class "B") ∷ test (of_class "B") ∷ [])) ∷ []))
test_of_test = refl

-- 1 :: char :: raw.8 :: int; 'a' :: int; 'a' :: raw.3; 0x05 :: raw.32; 0x05 :: char;
bits : IsLegal (in_main (eval (chain (number "1") (cast CharType ∷ cast (raw "8") ∷ cast IntType ∷ [])) ∷ eval (chain (character "'a'") (cast IntType
    ∷ [])) ∷ eval (chain (character "'a'") (cast (raw "3") ∷ [])) ∷ eval (chain (number "0x05") (cast (raw "32") ∷ []))
    ∷ eval (chain (number "0x05") (cast CharType ∷ [])) ∷ []))
bits = refl

-- 1 :: int; true :: bool; 'a' :: char; 0x05 :: raw.8; main :: function(); new int[1] :: int[]; new A() :: A;
to_itself : IsLegal (in_main (eval (chain (number "1") (cast IntType ∷ [])) ∷ eval (chain yes (cast BoolType ∷ []))
    ∷ eval (chain (character "'a'") (cast CharType ∷ [])) ∷ eval (chain (number "0x05") (cast (raw "8") ∷ []))
    ∷ eval (chain (name "main") (cast (function [] NoType) ∷ [])) ∷ eval (chain (new_array IntType (number "1")) (cast (ArrayType IntType) ∷ []))
    ∷ eval (chain (new "A" []) (cast (of_class "A") ∷ [])) ∷ []))
to_itself = refl

-- new B() :: A :: B; null :: A;
up_and_down : IsLegal (in_main (eval (chain (new "B" []) (cast (of_class "A") ∷ cast (of_class "B") ∷ [])) ∷ eval (chain null (cast (of_class "A") ∷ [])) ∷ []))
up_and_down = refl

-- new A() <: A; new A() <: B; new B() <: A;
class_tests : IsLegal (in_main (eval (chain (new "A" []) (test (of_class "A") ∷ [])) ∷ eval (chain (new "A" []) (test (of_class "B") ∷ []))
    ∷ eval (chain (new "B" []) (test (of_class "A") ∷ [])) ∷ []))
class_tests = refl

-- class C extends B { method n(a: A) { a :: C; a <: C; this <: A; this :: A; } }
two_levels_up_and_down : IsLegal (with_declarations (subclass "C" "B" (method "n" (param "a" (of_class "A")
    ∷ []) NoType (eval (chain (name "a") (cast (of_class "C") ∷ [])) ∷ eval (chain (name "a") (test (of_class "C") ∷ []))
    ∷ eval (chain this (test (of_class "A") ∷ [])) ∷ eval (chain this (cast (of_class "A") ∷ [])) ∷ []) ∷ []) ∷ []))
two_levels_up_and_down = refl
