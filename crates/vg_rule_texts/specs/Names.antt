-- The names of declarations, and classes above one another.
use Rattle.std.specs.Prelude.{refl, [], ◌∷◌}
use Rattle.vg_syntax.specs.Tree.{IntType, NoType, Nothing}
use Rattle.vg_rule_texts.specs.Writing.{IsBroken, IsLegal, class, component, device, entry, field, method, program, subclass, text, with_declarations}

-- ---- rule 1

-- class C { } class C { }
two_classes : IsBroken 1 17 (with_declarations (class "C" [] ∷ class "C" [] ∷ []))
two_classes = refl

-- class C { } component C { }
class_and_component : IsBroken 1 17 (with_declarations (class "C" [] ∷ component "C" [] ∷ []))
class_and_component = refl

-- device Main { }
component_and_device : IsBroken 1 16 (with_declarations (device "Main" [] ∷ []))
component_and_device = refl

-- class M { }
device_and_class : IsBroken 1 16 (with_declarations (class "M" [] ∷ []))
device_and_class = refl

-- component P { }
class_and_program : IsBroken 1 16 (with_declarations (component "P" [] ∷ []))
class_and_program = refl

-- class C { } class C { } class C { }
three_of_one_name : IsBroken 1 17 (with_declarations (class "C" [] ∷ class "C" [] ∷ class "C" [] ∷ []))
three_of_one_name = refl

-- class C { } class c { } component main { }
other_case : IsLegal (with_declarations (class "C" [] ∷ class "c" [] ∷ component "main" [] ∷ []))
other_case = refl

-- class m { field P: int; method Main() { } }
names_of_members : IsLegal (with_declarations (class "m" (field "P" IntType Nothing ∷ method "Main" [] NoType [] ∷ []) ∷ []))
names_of_members = refl

-- class C extends D { field f: int; } component D { } class D { field f: int; }
same_name_wins : IsBroken 1 19 (with_declarations (subclass "C" "D" (field "f" IntType Nothing ∷ []) ∷ component "D" []
    ∷ class "D" (field "f" IntType Nothing ∷ []) ∷ []))
same_name_wins = refl

-- ---- rule 2

-- component Main { method main() { } }
no_program : IsBroken 2 0 (text (component "Main" (method "main" [] NoType [] ∷ []) ∷ []))
no_program = refl

-- program Q { entry main = Main.main; }
two_programs : IsBroken 2 0 (with_declarations (program "Q" (entry "main" "Main" "main" ∷ []) ∷ []))
two_programs = refl

-- program Q { entry main = Main.main; } component Main { method main() { } }  program P { entry main = Main.main; }
two_programs_in_front : IsBroken 2 0 (text (program "Q" (entry "main" "Main" "main" ∷ []) ∷ component "Main" (method "main" [] NoType [] ∷ [])
    ∷ program "P" (entry "main" "Main" "main" ∷ []) ∷ []))
two_programs_in_front = refl

-- program P { entry main = Main.main; } component Main { method main() { } }
one_program : IsLegal (text (program "P" (entry "main" "Main" "main" ∷ []) ∷ component "Main" (method "main" [] NoType [] ∷ []) ∷ []))
one_program = refl

-- ---- rule 5

-- class C extends D { }
extends_unknown : IsBroken 5 16 (with_declarations (subclass "C" "D" [] ∷ []))
extends_unknown = refl

-- class C extends Main { }
extends_component : IsBroken 5 16 (with_declarations (subclass "C" "Main" [] ∷ []))
extends_component = refl

-- class C extends M { }
extends_device : IsBroken 5 16 (with_declarations (subclass "C" "M" [] ∷ []))
extends_device = refl

-- class C extends C { }
extends_itself : IsBroken 5 16 (with_declarations (subclass "C" "C" [] ∷ []))
extends_itself = refl

-- class C extends D { } class D extends C { }
two_above_each_other : IsBroken 5 16 (with_declarations (subclass "C" "D" [] ∷ subclass "D" "C" [] ∷ []))
two_above_each_other = refl

-- class C extends D { } class D extends E { } class E extends C { }
three_above_each_other : IsBroken 5 16 (with_declarations (subclass "C" "D" [] ∷ subclass "D" "E" [] ∷ subclass "E" "C" [] ∷ []))
three_above_each_other = refl

-- class C extends D { } class D extends E { } class E extends D { }
below_a_cycle : IsBroken 5 17 (with_declarations (subclass "C" "D" [] ∷ subclass "D" "E" [] ∷ subclass "E" "D" [] ∷ []))
below_a_cycle = refl

-- class C extends D { } class D extends B { }
above_is_later : IsLegal (with_declarations (subclass "C" "D" [] ∷ subclass "D" "B" [] ∷ []))
above_is_later = refl
