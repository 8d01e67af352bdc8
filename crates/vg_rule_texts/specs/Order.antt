-- Of several breaches, which is the first.
use Rattle.std.specs.Prelude.{refl, [], ◌∷◌}
use Rattle.vg_syntax.specs.declared.kind.Kind.TheVariants as kind
use Rattle.vg_syntax.specs.Tree.{IntType, NoType, Nothing}
use Rattle.vg_rule_texts.specs.Writing.{IsBroken, arm, assign, block, call, chain, choice, class, component, constructor_with_super, counting, dot, entry, eval}
use Rattle.vg_rule_texts.specs.Writing.{field, gives, in_main, index, local, loop, method, name, new, new_array, number, of_class, part, program, subclass}
use Rattle.vg_rule_texts.specs.Writing.{suffixed, text, with_declarations, with_members, yes}

-- ---- rule 1

-- class A extends Gone { field f: Gone; } component Main { method main() { } } class A { } program P { entry main = Main.main; }
names_before_all : IsBroken 1 6 (text (subclass "A" "Gone" (field "f" (of_class "Gone") Nothing ∷ []) ∷ component "Main" (method "main" [] NoType [] ∷ [])
    ∷ class "A" [] ∷ program "P" (entry "main" "Main" "main" ∷ []) ∷ []))
names_before_all = refl

-- ---- rule 2

-- component Main { method main() { } } program P { } program Q { }
program_before_its_entries : IsBroken 2 0 (text (component "Main" (method "main" [] NoType [] ∷ []) ∷ program "P" [] ∷ program "Q" [] ∷ []))
program_before_its_entries = refl

-- ---- rule 5

-- class C { field x: int; field x: int; } class D extends Gone { }
classes_before_members : IsBroken 5 19 (with_declarations (class "C" (field "x" IntType Nothing ∷ field "x" IntType Nothing ∷ []) ∷ subclass "D" "Gone" []
    ∷ []))
classes_before_members = refl

-- ---- rule 6

-- class C { method n() { gone; } field x: int; field x: int; }
declarations_before_bodies : IsBroken 6 22 (with_declarations (class "C" (method "n" [] NoType (eval (name "gone") ∷ []) ∷ field "x" IntType Nothing
    ∷ field "x" IntType Nothing ∷ []) ∷ []))
declarations_before_bodies = refl

-- ---- rule 8

-- class C extends B { method m(): int { } } class D { field x: Gone; }
types_before_overriding : IsBroken 8 20 (with_declarations (subclass "C" "B" (method "m" [] IntType [] ∷ [])
    ∷ class "D" (field "x" (of_class "Gone") Nothing ∷ []) ∷ []))
types_before_overriding = refl

-- program P { entry main = Main.gone; } component Main { field x: Gone; }
types_before_entries : IsBroken 8 4 (text (program "P" (entry "main" "Main" "gone" ∷ []) ∷ component "Main" (field "x" (of_class "Gone") Nothing ∷ []) ∷ []))
types_before_entries = refl

-- ---- rule 9

-- constructor(): super(gone) { }
constructor_before_its_super : IsBroken 9 12 (with_members (constructor_with_super [] (name "gone" ∷ []) [] ∷ []))
constructor_before_its_super = refl

-- ---- rule 7

-- program P { } class A { method n() { } } class B extends A { method n(): int { } }
overriding_before_entries : IsBroken 7 6 (text (program "P" [] ∷ class "A" (method "n" [] NoType [] ∷ []) ∷ subclass "B" "A" (method "n" [] IntType []
    ∷ []) ∷ []))
overriding_before_entries = refl

-- ---- rule 4

-- component Main { method main() { } } program P { entry main = Main.gone; entry main = Main.main; }
entries_before_program : IsBroken 4 5 (text (component "Main" (method "main" [] NoType [] ∷ []) ∷ program "P" (entry "main" "Main" "gone"
    ∷ entry "main" "Main" "main" ∷ []) ∷ []))
entries_before_program = refl

-- ---- rule 3

-- component Main { method main() { gone; } } program P { entry main = Main.main; entry 0 = Main.main; }
entries_before_bodies : IsBroken 3 6 (text (component "Main" (method "main" [] NoType (eval (name "gone") ∷ []) ∷ [])
    ∷ program "P" (entry "main" "Main" "main" ∷ entry "0" "Main" "main" ∷ []) ∷ []))
entries_before_bodies = refl

-- ---- rule 11

-- local x: int; local x: Gone = true;
name_of_local_first : IsBroken 11 13 (in_main (local "x" IntType Nothing ∷ local "x" (of_class "Gone") yes ∷ []))
name_of_local_first = refl

-- ---- rule 14

-- local x: int; local x: Gone = gone;
value_of_local_first : IsBroken 14 14 (in_main (local "x" IntType Nothing ∷ local "x" (of_class "Gone") (name "gone") ∷ []))
value_of_local_first = refl

-- gone = other;
target_first : IsBroken 14 13 (in_main (assign (name "gone") (name "other") ∷ []))
target_first = refl

-- 1 = gone;
right_side_before_assignment : IsBroken 14 14 (in_main (assign (number "1") (name "gone") ∷ []))
right_side_before_assignment = refl

-- gone + other;
first_operand : IsBroken 14 14 (in_main (eval (chain (name "gone") (part kind.Plus (name "other") ∷ [])) ∷ []))
first_operand = refl

-- 1 + gone;
second_operand_before_operator : IsBroken 14 16 (in_main (eval (chain (number "1") (part kind.Plus (name "gone") ∷ [])) ∷ []))
second_operand_before_operator = refl

-- main(1, gone);
arguments_before_call : IsBroken 14 17 (in_main (eval (suffixed (name "main") (call (number "1" ∷ name "gone" ∷ []) ∷ [])) ∷ []))
arguments_before_call = refl

-- gone.gone;
primary_before_suffix : IsBroken 14 14 (in_main (eval (suffixed (name "gone") (dot "gone" ∷ [])) ∷ []))
primary_before_suffix = refl

-- 1[gone];
index_before_element : IsBroken 14 16 (in_main (eval (suffixed (number "1") (index (name "gone") ∷ [])) ∷ []))
index_before_element = refl

-- new Gone(gone);
arguments_before_new : IsBroken 14 14 (in_main (eval (new "Gone" (name "gone" ∷ [])) ∷ []))
arguments_before_new = refl

-- new Gone[gone];
size_before_new : IsBroken 14 14 (in_main (eval (new_array (of_class "Gone") (name "gone")) ∷ []))
size_before_new = refl

-- return gone;
value_before_return : IsBroken 14 13 (in_main (gives (name "gone") ∷ []))
value_before_return = refl

-- while (gone) { other; }
condition_before_body : IsBroken 14 13 (in_main (loop (name "gone") (eval (name "other") ∷ []) ∷ []))
condition_before_body = refl

-- while (1) { gone; }
body_before_loop : IsBroken 14 16 (in_main (loop (number "1") (eval (name "gone") ∷ []) ∷ []))
body_before_loop = refl

-- for (gone; other; third) { fourth; }
parts_of_for : IsBroken 14 14 (in_main (counting (eval (name "gone")) (name "other") (eval (name "third")) (eval (name "fourth") ∷ []) ∷ []))
parts_of_for = refl

-- for (; gone; third) { fourth; }
condition_of_for : IsBroken 14 13 (in_main (counting Nothing (name "gone") (eval (name "third")) (eval (name "fourth") ∷ []) ∷ []))
condition_of_for = refl

-- for (; 1; gone) { fourth; }
last_part_of_for : IsBroken 14 15 (in_main (counting Nothing (number "1") (eval (name "gone")) (eval (name "fourth") ∷ []) ∷ []))
last_part_of_for = refl

-- if (1) { gone; } else if (other) { } else { third; }
arms_in_order : IsBroken 14 16 (in_main (choice (arm (number "1") (eval (name "gone") ∷ []) (arm (name "other") [] Nothing)) (block (eval (name "third")
    ∷ [])) ∷ []))
arms_in_order = refl

-- if (1) { } else if (gone) { } else { third; }
arms_before_else : IsBroken 14 15 (in_main (choice (arm (number "1") [] (arm (name "gone") [] Nothing)) (block (eval (name "third") ∷ [])) ∷ []))
arms_before_else = refl

-- if (1) { } else { gone; }
else_before_if : IsBroken 14 17 (in_main (choice (arm (number "1") [] Nothing) (block (eval (name "gone") ∷ [])) ∷ []))
else_before_if = refl

-- class C extends B { constructor(): super(gone) { other; } }
super_before_body : IsBroken 14 18 (with_declarations (subclass "C" "B" (constructor_with_super [] (name "gone" ∷ []) (eval (name "other") ∷ []) ∷ []) ∷ []))
super_before_body = refl

-- ---- rule 10

-- class C extends B { constructor(): super(1) { other; } }
super_before_its_body : IsBroken 10 17 (with_declarations (subclass "C" "B" (constructor_with_super [] (number "1" ∷ []) (eval (name "other") ∷ []) ∷ []) ∷ []))
super_before_its_body = refl

-- ---- rule 18

-- M.R = 1 + true;
operator_before_assignment : IsBroken 18 18 (in_main (assign (suffixed (name "M") (dot "R" ∷ [])) (chain (number "1") (part kind.Plus yes ∷ [])) ∷ []))
operator_before_assignment = refl

-- ---- rule 21

-- M.R = 5; gone;
statements_in_order : IsBroken 21 12 (in_main (assign (suffixed (name "M") (dot "R" ∷ [])) (number "5") ∷ eval (name "gone") ∷ []))
statements_in_order = refl
