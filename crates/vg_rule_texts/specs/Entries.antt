-- The entries of the program declaration.
use Rattle.std.specs.Prelude.{refl, [], ◌∷◌}
use Rattle.vg_syntax.specs.Tree.{IntType, NoType, Nothing}
use Rattle.vg_rule_texts.specs.Writing.{IsBroken, IsLegal, component, entry, field, function, method, param, program, text, with_entries, with_more}

-- ---- rule 3

-- component Main { method main() { } } program P { }
no_main : IsBroken 3 4 (text (component "Main" (method "main" [] NoType [] ∷ []) ∷ program "P" [] ∷ []))
no_main = refl

-- component Main { method main() { } } program P { entry 1 = Main.main; }
no_main_but_others : IsBroken 3 4 (text (component "Main" (method "main" [] NoType [] ∷ []) ∷ program "P" (entry "1" "Main" "main" ∷ []) ∷ []))
no_main_but_others = refl

-- component Main { method main() { } } program P { entry main = Main.main; entry main = Main.main; }
two_mains : IsBroken 3 4 (text (component "Main" (method "main" [] NoType [] ∷ []) ∷ program "P" (entry "main" "Main" "main" ∷ entry "main" "Main" "main"
    ∷ []) ∷ []))
two_mains = refl

-- component Main { method main() { } } program P { entry main = Main.main; entry tick = Main.main; }
other_name : IsBroken 3 4 (text (component "Main" (method "main" [] NoType [] ∷ []) ∷ program "P" (entry "main" "Main" "main" ∷ entry "tick" "Main" "main"
    ∷ []) ∷ []))
other_name = refl

-- component Main { method main() { } } program P { entry Main = Main.main; }
other_case_of_main : IsBroken 3 4 (text (component "Main" (method "main" [] NoType [] ∷ []) ∷ program "P" (entry "Main" "Main" "main" ∷ []) ∷ []))
other_case_of_main = refl

-- component Main { method main() { } } program P { entry main = Main.main; entry 0 = Main.main; }
key_0 : IsBroken 3 4 (text (component "Main" (method "main" [] NoType [] ∷ []) ∷ program "P" (entry "main" "Main" "main" ∷ entry "0" "Main" "main" ∷ []) ∷ []))
key_0 = refl

-- component Main { method main() { } } program P { entry main = Main.main; entry 35 = Main.main; }
key_35 : IsBroken 3 4 (text (component "Main" (method "main" [] NoType [] ∷ []) ∷ program "P" (entry "main" "Main" "main" ∷ entry "35" "Main" "main" ∷ [])
    ∷ []))
key_35 = refl

-- component Main { method main() { } } program P { entry main = Main.main; entry 0x7 = Main.main; }
hexadecimal_key : IsBroken 3 4 (text (component "Main" (method "main" [] NoType [] ∷ []) ∷ program "P" (entry "main" "Main" "main"
    ∷ entry "0x7" "Main" "main" ∷ []) ∷ []))
hexadecimal_key = refl

-- component Main { method main() { } } program P { entry main = Main.main; entry 7 = Main.main; entry 8 = Main.main; entry 7 = Main.main; }
key_twice : IsBroken 3 4 (text (component "Main" (method "main" [] NoType [] ∷ []) ∷ program "P" (entry "main" "Main" "main" ∷ entry "7" "Main" "main"
    ∷ entry "8" "Main" "main" ∷ entry "7" "Main" "main" ∷ []) ∷ []))
key_twice = refl

-- component Main { method main() { } } program P { entry 07 = Main.main; entry main = Main.main; entry 7 = Main.main; }
key_twice_with_zero : IsBroken 3 4 (text (component "Main" (method "main" [] NoType [] ∷ []) ∷ program "P" (entry "07" "Main" "main"
    ∷ entry "main" "Main" "main" ∷ entry "7" "Main" "main" ∷ []) ∷ []))
key_twice_with_zero = refl

-- entry 1 = Main.main; entry 34 = Main.main;
first_and_last_key : IsLegal (with_entries (entry "1" "Main" "main" ∷ entry "34" "Main" "main" ∷ []))
first_and_last_key = refl

-- entry 007 = Main.main; entry 8 = Main.main;
key_with_zero : IsLegal (with_entries (entry "007" "Main" "main" ∷ entry "8" "Main" "main" ∷ []))
key_with_zero = refl

-- component Main { method main() { } } program P { entry 7 = Main.main; entry main = Main.main; }
main_is_last : IsLegal (text (component "Main" (method "main" [] NoType [] ∷ []) ∷ program "P" (entry "7" "Main" "main" ∷ entry "main" "Main" "main" ∷ [])
    ∷ []))
main_is_last = refl

-- ---- rule 4

-- entry 7 = N.main;
unknown_component : IsBroken 4 16 (with_entries (entry "7" "N" "main" ∷ []))
unknown_component = refl

-- entry 7 = Main.gone;
unknown_method : IsBroken 4 16 (with_entries (entry "7" "Main" "gone" ∷ []))
unknown_method = refl

-- entry 7 = A.m;
method_of_class : IsBroken 4 16 (with_entries (entry "7" "A" "m" ∷ []))
method_of_class = refl

-- entry 7 = M.R;
register_of_device : IsBroken 4 16 (with_entries (entry "7" "M" "R" ∷ []))
register_of_device = refl

-- entry 7 = N.f; .. component N { field f: function(); }
field_entered : IsBroken 4 16 (with_more [] (entry "7" "N" "f" ∷ []) (component "N" (field "f" (function [] NoType) Nothing ∷ []) ∷ []))
field_entered = refl

-- entry 7 = N.f; .. component N { method f(a: int) { } }
method_with_parameter : IsBroken 4 16 (with_more [] (entry "7" "N" "f" ∷ []) (component "N" (method "f" (param "a" IntType ∷ []) NoType [] ∷ []) ∷ []))
method_with_parameter = refl

-- entry 7 = N.f; .. component N { method f(): int { } }
method_with_result : IsBroken 4 16 (with_more [] (entry "7" "N" "f" ∷ []) (component "N" (method "f" [] IntType [] ∷ []) ∷ []))
method_with_result = refl

-- component Main { method main(): int { } } program P { entry main = Main.main; }
main_with_result : IsBroken 4 5 (text (component "Main" (method "main" [] IntType [] ∷ []) ∷ program "P" (entry "main" "Main" "main" ∷ []) ∷ []))
main_with_result = refl

-- entry 7 = N.f; .. component N { method f() { } }
method_of_another : IsLegal (with_more [] (entry "7" "N" "f" ∷ []) (component "N" (method "f" [] NoType [] ∷ []) ∷ []))
method_of_another = refl

-- entry 7 = Main.main; entry 8 = Main.main;
method_twice : IsLegal (with_entries (entry "7" "Main" "main" ∷ entry "8" "Main" "main" ∷ []))
method_twice = refl
