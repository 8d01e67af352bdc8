-- What a class declares beside what it inherits.
use Rattle.std.specs.Prelude.{refl, [], ◌∷◌}
use Rattle.vg_syntax.specs.declared.kind.Kind.TheVariants as kind
use Rattle.vg_syntax.specs.Tree.{BoolType, IntType, NoType, Nothing}
use Rattle.vg_rule_texts.specs.Writing.{IsBroken, IsLegal, call, chain, class, constructor, constructor_with_super, dot, field, function, method, name, new}
use Rattle.vg_rule_texts.specs.Writing.{null, number, of_class, param, part, raw, subclass, suffixed, with_declarations, yes}

-- ---- rule 6

-- class C extends B { field f: int; }
field_over_field : IsBroken 6 17 (with_declarations (subclass "C" "B" (field "f" IntType Nothing ∷ []) ∷ []))
field_over_field = refl

-- class C extends B { field m: int; }
field_over_method : IsBroken 6 17 (with_declarations (subclass "C" "B" (field "m" IntType Nothing ∷ []) ∷ []))
field_over_method = refl

-- class C extends B { method f(): int { } }
method_over_field : IsBroken 6 17 (with_declarations (subclass "C" "B" (method "f" [] IntType [] ∷ []) ∷ []))
method_over_field = refl

-- class C extends D { field x: int; } class D { field x: int; }
field_over_later_class : IsBroken 6 17 (with_declarations (subclass "C" "D" (field "x" IntType Nothing ∷ []) ∷ class "D" (field "x" IntType Nothing ∷ []) ∷ []))
field_over_later_class = refl

-- class C extends B { field g: int; } class D extends B { field g: int; }
same_field_beside : IsLegal (with_declarations (subclass "C" "B" (field "g" IntType Nothing ∷ []) ∷ subclass "D" "B" (field "g" IntType Nothing ∷ []) ∷ []))
same_field_beside = refl

-- class C extends B { field F: int; }
other_case_of_field : IsLegal (with_declarations (subclass "C" "B" (field "F" IntType Nothing ∷ []) ∷ []))
other_case_of_field = refl

-- ---- rule 7

-- class C extends B { method m(): int { } }
fewer_parameters : IsBroken 7 17 (with_declarations (subclass "C" "B" (method "m" [] IntType [] ∷ []) ∷ []))
fewer_parameters = refl

-- class C extends B { method m(x: int, y: int): int { } }
more_parameters : IsBroken 7 17 (with_declarations (subclass "C" "B" (method "m" (param "x" IntType ∷ param "y" IntType ∷ []) IntType [] ∷ []) ∷ []))
more_parameters = refl

-- class C extends B { method m(x: bool): int { } }
other_parameter : IsBroken 7 17 (with_declarations (subclass "C" "B" (method "m" (param "x" BoolType ∷ []) IntType [] ∷ []) ∷ []))
other_parameter = refl

-- class C extends B { method m(x: int): bool { } }
other_result : IsBroken 7 17 (with_declarations (subclass "C" "B" (method "m" (param "x" IntType ∷ []) BoolType [] ∷ []) ∷ []))
other_result = refl

-- class C extends B { method m(x: int) { } }
no_result : IsBroken 7 17 (with_declarations (subclass "C" "B" (method "m" (param "x" IntType ∷ []) NoType [] ∷ []) ∷ []))
no_result = refl

-- class C { method n() { } } class D extends C { method n(): int { } }
result_where_none_is : IsBroken 7 20 (with_declarations (class "C" (method "n" [] NoType [] ∷ []) ∷ subclass "D" "C" (method "n" [] IntType [] ∷ []) ∷ []))
result_where_none_is = refl

-- class C { method n(a: A) { } } class D extends C { method n(a: B) { } }
parameter_below : IsBroken 7 20 (with_declarations (class "C" (method "n" (param "a" (of_class "A") ∷ []) NoType [] ∷ [])
    ∷ subclass "D" "C" (method "n" (param "a" (of_class "B") ∷ []) NoType [] ∷ []) ∷ []))
parameter_below = refl

-- class C { method n(): A { } } class D extends C { method n(): B { } }
result_below : IsBroken 7 20 (with_declarations (class "C" (method "n" [] (of_class "A") [] ∷ []) ∷ subclass "D" "C" (method "n" [] (of_class "B") []
    ∷ []) ∷ []))
result_below = refl

-- class C { method n(a: int, b: bool) { } } class D extends C { method n(a: bool, b: int) { } }
other_order : IsBroken 7 20 (with_declarations (class "C" (method "n" (param "a" IntType ∷ param "b" BoolType ∷ []) NoType [] ∷ [])
    ∷ subclass "D" "C" (method "n" (param "a" BoolType ∷ param "b" IntType ∷ []) NoType [] ∷ []) ∷ []))
other_order = refl

-- class C { method n(): function(int) { } } class D extends C { method n(): function(bool) { } }
other_function_type : IsBroken 7 20 (with_declarations (class "C" (method "n" [] (function (IntType ∷ []) NoType) [] ∷ [])
    ∷ subclass "D" "C" (method "n" [] (function (BoolType ∷ []) NoType) [] ∷ []) ∷ []))
other_function_type = refl

-- class C { method n(a: raw.8) { } } class D extends C { method n(a: raw.9) { } }
other_width : IsBroken 7 20 (with_declarations (class "C" (method "n" (param "a" (raw "8") ∷ []) NoType [] ∷ [])
    ∷ subclass "D" "C" (method "n" (param "a" (raw "9") ∷ []) NoType [] ∷ []) ∷ []))
other_width = refl

-- class C extends B { method m(other: int): int { } }
overrides : IsLegal (with_declarations (subclass "C" "B" (method "m" (param "other" IntType ∷ []) IntType [] ∷ []) ∷ []))
overrides = refl

-- class C { method n(a: raw.8): C { } } class D extends C { method n(a: raw.08): C { } }
overrides_width_with_zero : IsLegal (with_declarations (class "C" (method "n" (param "a" (raw "8") ∷ []) (of_class "C") [] ∷ [])
    ∷ subclass "D" "C" (method "n" (param "a" (raw "08") ∷ []) (of_class "C") [] ∷ []) ∷ []))
overrides_width_with_zero = refl

-- class C { method n() { } } class D { method n(a: int): int { } }
same_method_beside : IsLegal (with_declarations (class "C" (method "n" [] NoType [] ∷ []) ∷ class "D" (method "n" (param "a" IntType ∷ []) IntType []
    ∷ []) ∷ []))
same_method_beside = refl

-- ---- rule 10

-- class C { constructor(a: int) { } } class D extends C { }
no_constructor : IsBroken 10 19 (with_declarations (class "C" (constructor (param "a" IntType ∷ []) [] ∷ []) ∷ subclass "D" "C" [] ∷ []))
no_constructor = refl

-- class C { constructor(a: int) { } } class D extends C { constructor(a: int) { } }
no_super : IsBroken 10 20 (with_declarations (class "C" (constructor (param "a" IntType ∷ []) [] ∷ []) ∷ subclass "D" "C" (constructor (param "a" IntType
    ∷ []) [] ∷ []) ∷ []))
no_super = refl

-- class C { constructor(a: int) { } } class D extends C { constructor(): super() { } }
super_of_none : IsBroken 10 20 (with_declarations (class "C" (constructor (param "a" IntType ∷ []) [] ∷ [])
    ∷ subclass "D" "C" (constructor_with_super [] [] [] ∷ []) ∷ []))
super_of_none = refl

-- class C { constructor(a: int) { } } class D extends C { constructor(): super(1, 2) { } }
super_of_too_many : IsBroken 10 20 (with_declarations (class "C" (constructor (param "a" IntType ∷ []) [] ∷ [])
    ∷ subclass "D" "C" (constructor_with_super [] (number "1" ∷ number "2" ∷ []) [] ∷ []) ∷ []))
super_of_too_many = refl

-- class C { constructor(a: int) { } } class D extends C { constructor(): super(true) { } }
super_of_another_type : IsBroken 10 20 (with_declarations (class "C" (constructor (param "a" IntType ∷ []) [] ∷ [])
    ∷ subclass "D" "C" (constructor_with_super [] (yes ∷ []) [] ∷ []) ∷ []))
super_of_another_type = refl

-- class D extends B { constructor(): super(1) { } }
super_for_none : IsBroken 10 17 (with_declarations (subclass "D" "B" (constructor_with_super [] (number "1" ∷ []) [] ∷ []) ∷ []))
super_for_none = refl

-- class C { constructor(a: int) { } } class D extends C { constructor(): super(Main.main()) { } }
super_of_no_value : IsBroken 10 20 (with_declarations (class "C" (constructor (param "a" IntType ∷ []) [] ∷ [])
    ∷ subclass "D" "C" (constructor_with_super [] (suffixed (name "Main") (dot "main" ∷ call [] ∷ []) ∷ []) [] ∷ []) ∷ []))
super_of_no_value = refl

-- class C { constructor(a: int, b: A) { } } class D extends C { constructor(x: int): super(x + 1, new B()) { } }
super_fits : IsLegal (with_declarations (class "C" (constructor (param "a" IntType ∷ param "b" (of_class "A") ∷ []) [] ∷ [])
    ∷ subclass "D" "C" (constructor_with_super (param "x" IntType ∷ []) (chain (name "x") (part kind.Plus (number "1") ∷ []) ∷ new "B" [] ∷ []) [] ∷ []) ∷ []))
super_fits = refl

-- class C { constructor(b: A) { } } class D extends C { constructor(): super(null) { } }
super_of_null : IsLegal (with_declarations (class "C" (constructor (param "b" (of_class "A") ∷ []) [] ∷ [])
    ∷ subclass "D" "C" (constructor_with_super [] (null ∷ []) [] ∷ []) ∷ []))
super_of_null = refl

-- class C { constructor() { } } class D extends C { } class E extends D { constructor() { } }
none_above_takes_any : IsLegal (with_declarations (class "C" (constructor [] [] ∷ []) ∷ subclass "D" "C" [] ∷ subclass "E" "D" (constructor [] [] ∷ []) ∷ []))
none_above_takes_any = refl

-- class C { constructor(a: int) { } } class D extends C { constructor(): super(1) { } } class E extends D { }
above_the_class_above : IsLegal (with_declarations (class "C" (constructor (param "a" IntType ∷ []) [] ∷ [])
    ∷ subclass "D" "C" (constructor_with_super [] (number "1" ∷ []) [] ∷ []) ∷ subclass "E" "D" [] ∷ []))
above_the_class_above = refl
