-- Parentheses leave no node, but a parenthesised member is a value.
use Rattle.std.specs.Prelude.{◌≡◌, refl, [], ◌∷◌, codes, Some, None}
use Rattle.vg_meaning.specs.declared.event.Event.TheVariants.{Read, Write}
use Rattle.vg_meaning.specs.Ending.{Idle, Stop}
use Rattle.vg_syntax.specs.declared.kind.Kind.TheVariants as kind
use Rattle.vg_syntax.specs.Tree.{Arm, Assign, Block, Call, Chain, ClassDecl, ClassType, ComponentDecl, DeviceDecl, EntryDecl, Eval, FieldDecl, If, IntType}
use Rattle.vg_syntax.specs.Tree.{Local, Member, MethodDecl, Name, NoType, Node, Nothing, Null, Number, Part, Postfix, ProgramDecl, RawType, RegisterDecl}
use Rattle.vg_syntax.specs.Tree.{Text, TypePart}
use Rattle.vg_source.specs.Program.{source_of}
use Rattle.vg_examples.specs.Writing.{at, row, param, outcome_of}

-- The argument comes before the null check of a method call.
--   class A { method m(v: raw.8) { M.PORTB = v; } }
--   component Main { field a: A; method main() { a.m(M.PINB); } }
--   device M { register PINB = 0x36; register PORTB = 0x38; register INA = 0x39; }
--   program P { entry main = Main.main; }
abbrev pub called_method : Node
called_method = Text (at 0 1 1) (row (
    (ClassDecl (at 1 1 1) (codes "A") None (row (
    (MethodDecl (at 2 1 11) (codes "m") (param (codes "v") (RawType (codes "8")) ∷ []) NoType (Block (at 3 1 30) (row (
    (Assign (at 4 1 32) (Postfix (at 5 1 32) (Name (at 6 1 32) (codes "M")) (row ((Member (at 7 1 33) (codes "PORTB")) ∷ []))) (Name (at 8 1 42) (codes "v")))
    ∷ []))))
    ∷ [])))
    ∷ (ComponentDecl (at 9 2 1) (codes "Main") (row (
    (FieldDecl (at 10 2 18) (codes "a") (ClassType (codes "A")) Nothing)
    ∷ (MethodDecl (at 11 2 30) (codes "main") [] NoType (Block (at 12 2 44) (row (
    (Eval (at 13 2 46) (Postfix (at 14 2 46) (Name (at 15 2 46) (codes "a")) (row (
    (Member (at 16 2 47) (codes "m"))
    ∷ (Call (at 17 2 49) (row (
    (Postfix (at 18 2 50) (Name (at 19 2 50) (codes "M")) (row ((Member (at 20 2 51) (codes "PINB")) ∷ [])))
    ∷ [])))
    ∷ []))))
    ∷ []))))
    ∷ [])))
    ∷ (DeviceDecl (at 21 3 1) (codes "M") (row (
    (RegisterDecl (at 22 3 12) (codes "PINB") (codes "0x36"))
    ∷ (RegisterDecl (at 23 3 34) (codes "PORTB") (codes "0x38"))
    ∷ (RegisterDecl (at 24 3 57) (codes "INA") (codes "0x39"))
    ∷ [])))
    ∷ (ProgramDecl (at 25 4 1) (codes "P") (row ((EntryDecl (at 26 4 13) (codes "main") (codes "Main") (codes "main")) ∷ [])))
    ∷ []))

-- Here the method is named first, with its null check.
--   class A { method m(v: raw.8) { M.PORTB = v; } }
--   component Main { field a: A; method main() { (a.m)(M.PINB); } }
--   device M { register PINB = 0x36; register PORTB = 0x38; register INA = 0x39; }
--   program P { entry main = Main.main; }
abbrev pub called_value : Node
called_value = Text (at 0 1 1) (row (
    (ClassDecl (at 1 1 1) (codes "A") None (row (
    (MethodDecl (at 2 1 11) (codes "m") (param (codes "v") (RawType (codes "8")) ∷ []) NoType (Block (at 3 1 30) (row (
    (Assign (at 4 1 32) (Postfix (at 5 1 32) (Name (at 6 1 32) (codes "M")) (row ((Member (at 7 1 33) (codes "PORTB")) ∷ []))) (Name (at 8 1 42) (codes "v")))
    ∷ []))))
    ∷ [])))
    ∷ (ComponentDecl (at 9 2 1) (codes "Main") (row (
    (FieldDecl (at 10 2 18) (codes "a") (ClassType (codes "A")) Nothing)
    ∷ (MethodDecl (at 11 2 30) (codes "main") [] NoType (Block (at 12 2 44) (row (
    (Eval (at 13 2 46) (Postfix (at 14 2 46) (Postfix (at 15 2 47) (Name (at 16 2 47) (codes "a")) (row ((Member (at 17 2 48) (codes "m")) ∷ []))) (row (
    (Call (at 18 2 51) (row (
    (Postfix (at 19 2 52) (Name (at 20 2 52) (codes "M")) (row ((Member (at 21 2 53) (codes "PINB")) ∷ [])))
    ∷ [])))
    ∷ []))))
    ∷ []))))
    ∷ [])))
    ∷ (DeviceDecl (at 22 3 1) (codes "M") (row (
    (RegisterDecl (at 23 3 12) (codes "PINB") (codes "0x36"))
    ∷ (RegisterDecl (at 24 3 34) (codes "PORTB") (codes "0x38"))
    ∷ (RegisterDecl (at 25 3 57) (codes "INA") (codes "0x39"))
    ∷ [])))
    ∷ (ProgramDecl (at 26 4 1) (codes "P") (row ((EntryDecl (at 27 4 13) (codes "main") (codes "Main") (codes "main")) ∷ [])))
    ∷ []))

-- A component, a device, a local and a name in parentheses; and null is null.
--   component Main {
--     method f() { M.PORTB = 0x06; }
--     method main() {
--       local x: int; (M).PORTB = 0x05; (Main).f(); (f)(); (x) = 7; M.PORTB = (x) :: raw.8;
--       if (null == null) { M.PORTB = 0x08; }
--     }
--   }
--   device M { register PINB = 0x36; register PORTB = 0x38; register INA = 0x39; }
--   program P { entry main = Main.main; }
abbrev pub in_parentheses : Node
in_parentheses = Text (at 0 1 1) (row (
    (ComponentDecl (at 1 1 1) (codes "Main") (row (
    (MethodDecl (at 2 2 3) (codes "f") [] NoType (Block (at 3 2 14) (row (
    (Assign (at 4 2 16) (Postfix (at 5 2 16) (Name (at 6 2 16) (codes "M")) (row ((Member (at 7 2 17) (codes "PORTB")) ∷ [])))
    (Number (at 8 2 26) (codes "0x06")))
    ∷ []))))
    ∷ (MethodDecl (at 9 3 3) (codes "main") [] NoType (Block (at 10 3 17) (row (
    (Local (at 11 4 5) (codes "x") IntType Nothing)
    ∷ (Assign (at 12 4 19) (Postfix (at 13 4 19) (Name (at 14 4 20) (codes "M")) (row ((Member (at 15 4 22) (codes "PORTB")) ∷ [])))
    (Number (at 16 4 31) (codes "0x05")))
    ∷ (Eval (at 17 4 37) (Postfix (at 18 4 37) (Name (at 19 4 38) (codes "Main")) (row ((Member (at 20 4 43) (codes "f")) ∷ (Call (at 21 4 45) Nothing) ∷ []))))
    ∷ (Eval (at 22 4 49) (Postfix (at 23 4 49) (Name (at 24 4 50) (codes "f")) (row ((Call (at 25 4 52) Nothing) ∷ []))))
    ∷ (Assign (at 26 4 56) (Name (at 27 4 57) (codes "x")) (Number (at 28 4 62) (codes "7")))
    ∷ (Assign (at 29 4 65) (Postfix (at 30 4 65) (Name (at 31 4 65) (codes "M")) (row ((Member (at 32 4 66) (codes "PORTB")) ∷ [])))
    (Chain (at 33 4 75) (Name (at 34 4 76) (codes "x")) (row ((TypePart (at 35 4 79) kind.Cast (RawType (codes "8"))) ∷ []))))
    ∷ (If (at 36 5 5) (Arm (Chain (at 37 5 9) (Null (at 38 5 9)) (row ((Part (at 39 5 14) kind.EqualEqual (Null (at 40 5 17))) ∷ [])))
    (Block (at 41 5 23) (row (
    (Assign (at 42 5 25) (Postfix (at 43 5 25) (Name (at 44 5 25) (codes "M")) (row ((Member (at 45 5 26) (codes "PORTB")) ∷ [])))
    (Number (at 46 5 35) (codes "0x08")))
    ∷ []))) Nothing) Nothing)
    ∷ []))))
    ∷ [])))
    ∷ (DeviceDecl (at 47 8 1) (codes "M") (row (
    (RegisterDecl (at 48 8 12) (codes "PINB") (codes "0x36"))
    ∷ (RegisterDecl (at 49 8 34) (codes "PORTB") (codes "0x38"))
    ∷ (RegisterDecl (at 50 8 57) (codes "INA") (codes "0x39"))
    ∷ [])))
    ∷ (ProgramDecl (at 51 9 1) (codes "P") (row ((EntryDecl (at 52 9 13) (codes "main") (codes "Main") (codes "main")) ∷ [])))
    ∷ []))

called_method_runs : outcome_of (source_of called_method) 1000 None (9 ∷ []) [] 1000
    ≡ Some (record { trace = Read 0x36 0x09 ∷ []; ending = Stop 1 })
called_method_runs = refl

called_value_runs : outcome_of (source_of called_value) 1000 None (9 ∷ []) [] 1000
    ≡ Some (record { trace = []; ending = Stop 1 })
called_value_runs = refl

in_parentheses_run : outcome_of (source_of in_parentheses) 1000 None [] [] 1000
    ≡ Some (record { trace = Write 0x38 0x05 ∷ Write 0x38 0x06 ∷ Write 0x38 0x06 ∷ Write 0x38 0x07 ∷ Write 0x38 0x08 ∷ []; ending = Idle })
in_parentheses_run = refl
