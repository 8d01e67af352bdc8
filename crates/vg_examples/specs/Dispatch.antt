-- A method is found from the class of the object upward.
use Rattle.std.specs.Prelude.{◌≡◌, refl, [], ◌∷◌, codes, Some, None}
use Rattle.vg_meaning.specs.declared.event.Event.TheVariants.{Write}
use Rattle.vg_meaning.specs.Ending.{Idle}
use Rattle.vg_syntax.specs.declared.kind.Kind.TheVariants as kind
use Rattle.vg_syntax.specs.Tree.{Arm, Assign, Block, Call, Chain, ClassDecl, ClassType, ComponentDecl, DeviceDecl, EntryDecl, FieldDecl, FunctionType, If}
use Rattle.vg_syntax.specs.Tree.{IntType, Local, Member, MethodDecl, Name, NewObject, NoType, Node, Nothing, Number, Part, Postfix, ProgramDecl, RawType}
use Rattle.vg_syntax.specs.Tree.{RegisterDecl, Return, Text, TypePart}
use Rattle.vg_source.specs.Program.{source_of}
use Rattle.vg_examples.specs.Writing.{at, row, outcome_of}

-- B has its own m and the n of A; a delegate keeps the method that the object has.
--   class A { method m(): int { return 1; } method n(): int { return m() + 10; } }
--   class B extends A { method m(): int { return 2; } }
--   component Main {
--     field a: A = new B();
--     field c: A = new A();
--     method main() {
--       local f: function(): int = a.m; M.PORTB = a.m() :: raw.8; M.PORTB = a.n() :: raw.8; M.PORTB = f() :: raw.8;
--       M.PORTB = c.n() :: raw.8;
--       if (a <: B) { M.PORTB = (a :: B).m() :: raw.8; }
--     }
--   }
--   device M { register PINB = 0x36; register PORTB = 0x38; register INA = 0x39; }
--   program P { entry main = Main.main; }
abbrev pub dispatch : Node
dispatch = Text (at 0 1 1) (row (
    (ClassDecl (at 1 1 1) (codes "A") None (row (
    (MethodDecl (at 2 1 11) (codes "m") [] IntType (Block (at 3 1 27) (row ((Return (at 4 1 29) (Number (at 5 1 36) (codes "1"))) ∷ []))))
    ∷ (MethodDecl (at 6 1 41) (codes "n") [] IntType (Block (at 7 1 57) (row (
    (Return (at 8 1 59) (Chain (at 9 1 66) (Postfix (at 10 1 66) (Name (at 11 1 66) (codes "m")) (row ((Call (at 12 1 67) Nothing) ∷ [])))
    (row ((Part (at 13 1 70) kind.Plus (Number (at 14 1 72) (codes "10"))) ∷ []))))
    ∷ []))))
    ∷ [])))
    ∷ (ClassDecl (at 15 2 1) (codes "B") (Some (codes "A")) (row (
    (MethodDecl (at 16 2 21) (codes "m") [] IntType (Block (at 17 2 37) (row ((Return (at 18 2 39) (Number (at 19 2 46) (codes "2"))) ∷ []))))
    ∷ [])))
    ∷ (ComponentDecl (at 20 3 1) (codes "Main") (row (
    (FieldDecl (at 21 4 3) (codes "a") (ClassType (codes "A")) (NewObject (at 22 4 16) (codes "B") Nothing))
    ∷ (FieldDecl (at 23 5 3) (codes "c") (ClassType (codes "A")) (NewObject (at 24 5 16) (codes "A") Nothing))
    ∷ (MethodDecl (at 25 6 3) (codes "main") [] NoType (Block (at 26 6 17) (row (
    (Local (at 27 7 5) (codes "f") (FunctionType NoType IntType)
    (Postfix (at 28 7 32) (Name (at 29 7 32) (codes "a")) (row ((Member (at 30 7 33) (codes "m")) ∷ []))))
    ∷ (Assign (at 31 7 37) (Postfix (at 32 7 37) (Name (at 33 7 37) (codes "M")) (row ((Member (at 34 7 38) (codes "PORTB")) ∷ [])))
    (Chain (at 35 7 47) (Postfix (at 36 7 47) (Name (at 37 7 47) (codes "a")) (row ((Member (at 38 7 48) (codes "m")) ∷ (Call (at 39 7 50) Nothing) ∷ [])))
    (row ((TypePart (at 40 7 53) kind.Cast (RawType (codes "8"))) ∷ []))))
    ∷ (Assign (at 41 7 63) (Postfix (at 42 7 63) (Name (at 43 7 63) (codes "M")) (row ((Member (at 44 7 64) (codes "PORTB")) ∷ [])))
    (Chain (at 45 7 73) (Postfix (at 46 7 73) (Name (at 47 7 73) (codes "a")) (row ((Member (at 48 7 74) (codes "n")) ∷ (Call (at 49 7 76) Nothing) ∷ [])))
    (row ((TypePart (at 50 7 79) kind.Cast (RawType (codes "8"))) ∷ []))))
    ∷ (Assign (at 51 7 89) (Postfix (at 52 7 89) (Name (at 53 7 89) (codes "M")) (row ((Member (at 54 7 90) (codes "PORTB")) ∷ [])))
    (Chain (at 55 7 99) (Postfix (at 56 7 99) (Name (at 57 7 99) (codes "f")) (row ((Call (at 58 7 100) Nothing) ∷ [])))
    (row ((TypePart (at 59 7 103) kind.Cast (RawType (codes "8"))) ∷ []))))
    ∷ (Assign (at 60 8 5) (Postfix (at 61 8 5) (Name (at 62 8 5) (codes "M")) (row ((Member (at 63 8 6) (codes "PORTB")) ∷ [])))
    (Chain (at 64 8 15) (Postfix (at 65 8 15) (Name (at 66 8 15) (codes "c")) (row ((Member (at 67 8 16) (codes "n")) ∷ (Call (at 68 8 18) Nothing) ∷ [])))
    (row ((TypePart (at 69 8 21) kind.Cast (RawType (codes "8"))) ∷ []))))
    ∷ (If (at 70 9 5) (Arm (Chain (at 71 9 9) (Name (at 72 9 9) (codes "a")) (row ((TypePart (at 73 9 11) kind.Below (ClassType (codes "B"))) ∷ [])))
    (Block (at 74 9 17) (row (
    (Assign (at 75 9 19) (Postfix (at 76 9 19) (Name (at 77 9 19) (codes "M")) (row ((Member (at 78 9 20) (codes "PORTB")) ∷ [])))
    (Chain (at 79 9 29) (Postfix (at 80 9 29)
    (Chain (at 81 9 30) (Name (at 82 9 30) (codes "a")) (row ((TypePart (at 83 9 32) kind.Cast (ClassType (codes "B"))) ∷ [])))
    (row ((Member (at 84 9 37) (codes "m")) ∷ (Call (at 85 9 39) Nothing) ∷ []))) (row ((TypePart (at 86 9 42) kind.Cast (RawType (codes "8"))) ∷ []))))
    ∷ []))) Nothing) Nothing)
    ∷ []))))
    ∷ [])))
    ∷ (DeviceDecl (at 87 12 1) (codes "M") (row (
    (RegisterDecl (at 88 12 12) (codes "PINB") (codes "0x36"))
    ∷ (RegisterDecl (at 89 12 34) (codes "PORTB") (codes "0x38"))
    ∷ (RegisterDecl (at 90 12 57) (codes "INA") (codes "0x39"))
    ∷ [])))
    ∷ (ProgramDecl (at 91 13 1) (codes "P") (row ((EntryDecl (at 92 13 13) (codes "main") (codes "Main") (codes "main")) ∷ [])))
    ∷ []))

dispatch_runs : outcome_of (source_of dispatch) 1000 None [] [] 1000
    ≡ Some (record { trace = Write 0x38 0x02 ∷ Write 0x38 0x0c ∷ Write 0x38 0x02 ∷ Write 0x38 0x0b ∷ Write 0x38 0x02 ∷ []; ending = Idle })
dispatch_runs = refl
