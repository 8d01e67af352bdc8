-- Ticks and active calls of initialisation.
use Rattle.std.specs.Prelude.{◌≡◌, refl, [], ◌∷◌, codes, Some, None, false}
use Rattle.vg_meaning.specs.Ending.{Idle}
use Rattle.vg_syntax.specs.declared.kind.Kind.TheVariants as kind
use Rattle.vg_syntax.specs.Tree.{Arm, Block, Call, Chain, ClassDecl, ClassType, ComponentDecl, ConstructorDecl, DeviceDecl, EntryDecl, Eval, FieldDecl, If}
use Rattle.vg_syntax.specs.Tree.{IntType, MethodDecl, Name, NewObject, NoType, Node, Nothing, Number, Part, Postfix, ProgramDecl, RegisterDecl, Text}
use Rattle.vg_meaning.specs.Answer.{OutOfClock, OutOfDepth}
use Rattle.vg_source.specs.Program.{source_of}
use Rattle.vg_source.specs.Session.{started, Failed}
use Rattle.vg_examples.specs.Writing.{at, row, param, outcome_of, cells_of}

-- A component ticks, and so does each class of a chain, with or without a constructor.
--   class A { }
--   class B extends A { }
--   component Empty { }
--   component Main { field b: B = new B(); method main() { } }
--   device M { register PINB = 0x36; register PORTB = 0x38; register INA = 0x39; }
--   program P { entry main = Main.main; }
abbrev pub constructions : Node
constructions = Text (at 0 1 1) (row (
    (ClassDecl (at 1 1 1) (codes "A") None Nothing)
    ∷ (ClassDecl (at 2 2 1) (codes "B") (Some (codes "A")) Nothing)
    ∷ (ComponentDecl (at 3 3 1) (codes "Empty") Nothing)
    ∷ (ComponentDecl (at 4 4 1) (codes "Main") (row (
    (FieldDecl (at 5 4 18) (codes "b") (ClassType (codes "B")) (NewObject (at 6 4 31) (codes "B") Nothing))
    ∷ (MethodDecl (at 7 4 40) (codes "main") [] NoType (Block (at 8 4 54) Nothing))
    ∷ [])))
    ∷ (DeviceDecl (at 9 5 1) (codes "M") (row (
    (RegisterDecl (at 10 5 12) (codes "PINB") (codes "0x36"))
    ∷ (RegisterDecl (at 11 5 34) (codes "PORTB") (codes "0x38"))
    ∷ (RegisterDecl (at 12 5 57) (codes "INA") (codes "0x39"))
    ∷ [])))
    ∷ (ProgramDecl (at 13 6 1) (codes "P") (row ((EntryDecl (at 14 6 13) (codes "main") (codes "Main") (codes "main")) ∷ [])))
    ∷ []))

-- The component and 399 calls are 400 active calls.
--   component Main { constructor() { down(398); } method down(n: int) { if (n > 0) { down(n - 1); } } method main() { } }
--   device M { register PINB = 0x36; register PORTB = 0x38; register INA = 0x39; }
--   program P { entry main = Main.main; }
abbrev pub deep_start : Node
deep_start = Text (at 0 1 1) (row (
    (ComponentDecl (at 1 1 1) (codes "Main") (row (
    (ConstructorDecl (at 2 1 18) [] false Nothing (Block (at 3 1 32) (row (
    (Eval (at 4 1 34) (Postfix (at 5 1 34) (Name (at 6 1 34) (codes "down")) (row ((Call (at 7 1 38) (row ((Number (at 8 1 39) (codes "398")) ∷ []))) ∷ []))))
    ∷ []))))
    ∷ (MethodDecl (at 9 1 47) (codes "down") (param (codes "n") IntType ∷ []) NoType (Block (at 10 1 67) (row (
    (If (at 11 1 69) (Arm (Chain (at 12 1 73) (Name (at 13 1 73) (codes "n")) (row ((Part (at 14 1 75) kind.Greater (Number (at 15 1 77) (codes "0"))) ∷ [])))
    (Block (at 16 1 80) (row (
    (Eval (at 17 1 82) (Postfix (at 18 1 82) (Name (at 19 1 82) (codes "down")) (row (
    (Call (at 20 1 86) (row (
    (Chain (at 21 1 87) (Name (at 22 1 87) (codes "n")) (row ((Part (at 23 1 89) kind.Minus (Number (at 24 1 91) (codes "1"))) ∷ [])))
    ∷ [])))
    ∷ []))))
    ∷ []))) Nothing) Nothing)
    ∷ []))))
    ∷ (MethodDecl (at 25 1 99) (codes "main") [] NoType (Block (at 26 1 113) Nothing))
    ∷ [])))
    ∷ (DeviceDecl (at 27 2 1) (codes "M") (row (
    (RegisterDecl (at 28 2 12) (codes "PINB") (codes "0x36"))
    ∷ (RegisterDecl (at 29 2 34) (codes "PORTB") (codes "0x38"))
    ∷ (RegisterDecl (at 30 2 57) (codes "INA") (codes "0x39"))
    ∷ [])))
    ∷ (ProgramDecl (at 31 3 1) (codes "P") (row ((EntryDecl (at 32 3 13) (codes "main") (codes "Main") (codes "main")) ∷ [])))
    ∷ []))

-- One call more is one too many.
--   component Main { constructor() { down(399); } method down(n: int) { if (n > 0) { down(n - 1); } } method main() { } }
--   device M { register PINB = 0x36; register PORTB = 0x38; register INA = 0x39; }
--   program P { entry main = Main.main; }
abbrev pub too_deep_start : Node
too_deep_start = Text (at 0 1 1) (row (
    (ComponentDecl (at 1 1 1) (codes "Main") (row (
    (ConstructorDecl (at 2 1 18) [] false Nothing (Block (at 3 1 32) (row (
    (Eval (at 4 1 34) (Postfix (at 5 1 34) (Name (at 6 1 34) (codes "down")) (row ((Call (at 7 1 38) (row ((Number (at 8 1 39) (codes "399")) ∷ []))) ∷ []))))
    ∷ []))))
    ∷ (MethodDecl (at 9 1 47) (codes "down") (param (codes "n") IntType ∷ []) NoType (Block (at 10 1 67) (row (
    (If (at 11 1 69) (Arm (Chain (at 12 1 73) (Name (at 13 1 73) (codes "n")) (row ((Part (at 14 1 75) kind.Greater (Number (at 15 1 77) (codes "0"))) ∷ [])))
    (Block (at 16 1 80) (row (
    (Eval (at 17 1 82) (Postfix (at 18 1 82) (Name (at 19 1 82) (codes "down")) (row (
    (Call (at 20 1 86) (row (
    (Chain (at 21 1 87) (Name (at 22 1 87) (codes "n")) (row ((Part (at 23 1 89) kind.Minus (Number (at 24 1 91) (codes "1"))) ∷ [])))
    ∷ [])))
    ∷ []))))
    ∷ []))) Nothing) Nothing)
    ∷ []))))
    ∷ (MethodDecl (at 25 1 99) (codes "main") [] NoType (Block (at 26 1 113) Nothing))
    ∷ [])))
    ∷ (DeviceDecl (at 27 2 1) (codes "M") (row (
    (RegisterDecl (at 28 2 12) (codes "PINB") (codes "0x36"))
    ∷ (RegisterDecl (at 29 2 34) (codes "PORTB") (codes "0x38"))
    ∷ (RegisterDecl (at 30 2 57) (codes "INA") (codes "0x39"))
    ∷ [])))
    ∷ (ProgramDecl (at 31 3 1) (codes "P") (row ((EntryDecl (at 32 3 13) (codes "main") (codes "Main") (codes "main")) ∷ [])))
    ∷ []))

constructions_in_four : cells_of (started (source_of constructions) 4) ≡ 1
constructions_in_four = refl

constructions_in_three : started (source_of constructions) 3 ≡ Failed (OutOfClock)
constructions_in_three = refl

deep_start_runs : outcome_of (source_of deep_start) 1000 None [] [] 1000
    ≡ Some (record { trace = []; ending = Idle })
deep_start_runs = refl

too_deep_start_fails : started (source_of too_deep_start) 1000 ≡ Failed (OutOfDepth)
too_deep_start_fails = refl
