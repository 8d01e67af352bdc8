-- Fields of one name: each step says which class declares its field.
use Rattle.std.specs.Prelude.{◌≡◌, refl, [], ◌∷◌, codes, option_map, Some, None}
use Rattle.vg_meaning.specs.declared.event.Event.TheVariants.{Write}
use Rattle.vg_meaning.specs.Ending.{Idle}
use Rattle.vg_meaning.specs.Code as code
use Rattle.vg_syntax.specs.declared.kind.Kind.TheVariants as kind
use Rattle.vg_syntax.specs.Tree.{Assign, Block, Call, Chain, ClassDecl, ClassType, ComponentDecl, DeviceDecl, EntryDecl, FieldDecl, FunctionType, IntType}
use Rattle.vg_syntax.specs.Tree.{Local, Member, MethodDecl, Name, NewObject, NoType, Node, Nothing, Number, Part, Postfix, ProgramDecl, RawType}
use Rattle.vg_syntax.specs.Tree.{RegisterDecl, Return, Text, TypePart}
use Rattle.vg_source.specs.Operators.{Plus}
use Rattle.vg_source.specs.Steps.{This, Field, Operate, Method}
use Rattle.vg_source.specs.State.{find_routine}
use Rattle.vg_source.specs.Program.{source_of}
use Rattle.vg_examples.specs.Writing.{at, row, outcome_of}

-- The field x is declared by A, by C and by Main; an object of B has that of A, also where it is seen as an A.
--   class A { field x: int = 1; method get(): int { return x; } }
--   class B extends A { field y: int = 2; method get(): int { return x + y; } }
--   class C { field x: int = 50; field y: int = 60; }
--   component Main {
--     field x: int = 9;
--     field b: B = new B();
--     field c: C = new C();
--     method main() {
--       b.x = 20; b.y = 3; c.x = 7; M.PORTB = b.get() :: raw.8; M.PORTB = (c.x + c.y) :: raw.8; x = x + b.x;
--       M.PORTB = Main.x :: raw.8; local a: A = b; a.x = 4; M.PORTB = b.get() :: raw.8; local g: function(): int = a.get;
--       M.PORTB = g() :: raw.8;
--     }
--   }
--   device M { register PINB = 0x36; register PORTB = 0x38; register INA = 0x39; }
--   program P { entry main = Main.main; }
abbrev pub fields : Node
fields = Text (at 0 1 1) (row (
    (ClassDecl (at 1 1 1) (codes "A") None (row (
    (FieldDecl (at 2 1 11) (codes "x") IntType (Number (at 3 1 26) (codes "1")))
    ∷ (MethodDecl (at 4 1 29) (codes "get") [] IntType (Block (at 5 1 47) (row ((Return (at 6 1 49) (Name (at 7 1 56) (codes "x"))) ∷ []))))
    ∷ [])))
    ∷ (ClassDecl (at 8 2 1) (codes "B") (Some (codes "A")) (row (
    (FieldDecl (at 9 2 21) (codes "y") IntType (Number (at 10 2 36) (codes "2")))
    ∷ (MethodDecl (at 11 2 39) (codes "get") [] IntType (Block (at 12 2 57) (row (
    (Return (at 13 2 59) (Chain (at 14 2 66) (Name (at 15 2 66) (codes "x")) (row ((Part (at 16 2 68) kind.Plus (Name (at 17 2 70) (codes "y"))) ∷ []))))
    ∷ []))))
    ∷ [])))
    ∷ (ClassDecl (at 18 3 1) (codes "C") None (row (
    (FieldDecl (at 19 3 11) (codes "x") IntType (Number (at 20 3 26) (codes "50")))
    ∷ (FieldDecl (at 21 3 30) (codes "y") IntType (Number (at 22 3 45) (codes "60")))
    ∷ [])))
    ∷ (ComponentDecl (at 23 4 1) (codes "Main") (row (
    (FieldDecl (at 24 5 3) (codes "x") IntType (Number (at 25 5 18) (codes "9")))
    ∷ (FieldDecl (at 26 6 3) (codes "b") (ClassType (codes "B")) (NewObject (at 27 6 16) (codes "B") Nothing))
    ∷ (FieldDecl (at 28 7 3) (codes "c") (ClassType (codes "C")) (NewObject (at 29 7 16) (codes "C") Nothing))
    ∷ (MethodDecl (at 30 8 3) (codes "main") [] NoType (Block (at 31 8 17) (row (
    (Assign (at 32 9 5) (Postfix (at 33 9 5) (Name (at 34 9 5) (codes "b")) (row ((Member (at 35 9 6) (codes "x")) ∷ []))) (Number (at 36 9 11) (codes "20")))
    ∷ (Assign (at 37 9 15) (Postfix (at 38 9 15) (Name (at 39 9 15) (codes "b")) (row ((Member (at 40 9 16) (codes "y")) ∷ [])))
    (Number (at 41 9 21) (codes "3")))
    ∷ (Assign (at 42 9 24) (Postfix (at 43 9 24) (Name (at 44 9 24) (codes "c")) (row ((Member (at 45 9 25) (codes "x")) ∷ [])))
    (Number (at 46 9 30) (codes "7")))
    ∷ (Assign (at 47 9 33) (Postfix (at 48 9 33) (Name (at 49 9 33) (codes "M")) (row ((Member (at 50 9 34) (codes "PORTB")) ∷ [])))
    (Chain (at 51 9 43) (Postfix (at 52 9 43) (Name (at 53 9 43) (codes "b")) (row ((Member (at 54 9 44) (codes "get")) ∷ (Call (at 55 9 48) Nothing) ∷ [])))
    (row ((TypePart (at 56 9 51) kind.Cast (RawType (codes "8"))) ∷ []))))
    ∷ (Assign (at 57 9 61) (Postfix (at 58 9 61) (Name (at 59 9 61) (codes "M")) (row ((Member (at 60 9 62) (codes "PORTB")) ∷ [])))
    (Chain (at 61 9 71) (Chain (at 62 9 72) (Postfix (at 63 9 72) (Name (at 64 9 72) (codes "c")) (row ((Member (at 65 9 73) (codes "x")) ∷ []))) (row (
    (Part (at 66 9 76) kind.Plus (Postfix (at 67 9 78) (Name (at 68 9 78) (codes "c")) (row ((Member (at 69 9 79) (codes "y")) ∷ []))))
    ∷ []))) (row ((TypePart (at 70 9 83) kind.Cast (RawType (codes "8"))) ∷ []))))
    ∷ (Assign (at 71 9 93) (Name (at 72 9 93) (codes "x")) (Chain (at 73 9 97) (Name (at 74 9 97) (codes "x")) (row (
    (Part (at 75 9 99) kind.Plus (Postfix (at 76 9 101) (Name (at 77 9 101) (codes "b")) (row ((Member (at 78 9 102) (codes "x")) ∷ []))))
    ∷ []))))
    ∷ (Assign (at 79 10 5) (Postfix (at 80 10 5) (Name (at 81 10 5) (codes "M")) (row ((Member (at 82 10 6) (codes "PORTB")) ∷ [])))
    (Chain (at 83 10 15) (Postfix (at 84 10 15) (Name (at 85 10 15) (codes "Main")) (row ((Member (at 86 10 19) (codes "x")) ∷ [])))
    (row ((TypePart (at 87 10 22) kind.Cast (RawType (codes "8"))) ∷ []))))
    ∷ (Local (at 88 10 32) (codes "a") (ClassType (codes "A")) (Name (at 89 10 45) (codes "b")))
    ∷ (Assign (at 90 10 48) (Postfix (at 91 10 48) (Name (at 92 10 48) (codes "a")) (row ((Member (at 93 10 49) (codes "x")) ∷ [])))
    (Number (at 94 10 54) (codes "4")))
    ∷ (Assign (at 95 10 57) (Postfix (at 96 10 57) (Name (at 97 10 57) (codes "M")) (row ((Member (at 98 10 58) (codes "PORTB")) ∷ [])))
    (Chain (at 99 10 67) (Postfix (at 100 10 67) (Name (at 101 10 67) (codes "b"))
    (row ((Member (at 102 10 68) (codes "get")) ∷ (Call (at 103 10 72) Nothing) ∷ []))) (row ((TypePart (at 104 10 75) kind.Cast (RawType (codes "8"))) ∷ []))))
    ∷ (Local (at 105 10 85) (codes "g") (FunctionType NoType IntType)
    (Postfix (at 106 10 112) (Name (at 107 10 112) (codes "a")) (row ((Member (at 108 10 113) (codes "get")) ∷ []))))
    ∷ (Assign (at 109 11 5) (Postfix (at 110 11 5) (Name (at 111 11 5) (codes "M")) (row ((Member (at 112 11 6) (codes "PORTB")) ∷ [])))
    (Chain (at 113 11 15) (Postfix (at 114 11 15) (Name (at 115 11 15) (codes "g")) (row ((Call (at 116 11 16) Nothing) ∷ [])))
    (row ((TypePart (at 117 11 19) kind.Cast (RawType (codes "8"))) ∷ []))))
    ∷ []))))
    ∷ [])))
    ∷ (DeviceDecl (at 118 14 1) (codes "M") (row (
    (RegisterDecl (at 119 14 12) (codes "PINB") (codes "0x36"))
    ∷ (RegisterDecl (at 120 14 34) (codes "PORTB") (codes "0x38"))
    ∷ (RegisterDecl (at 121 14 57) (codes "INA") (codes "0x39"))
    ∷ [])))
    ∷ (ProgramDecl (at 122 15 1) (codes "P") (row ((EntryDecl (at 123 15 13) (codes "main") (codes "Main") (codes "main")) ∷ [])))
    ∷ []))

-- 20 + 3, 7 + 60, 9 + 20, and twice 4 + 3.
fields_run : outcome_of (source_of fields) 1000 None [] [] 1000
    ≡ Some (record { trace = Write 0x38 0x17 ∷ Write 0x38 0x43 ∷ Write 0x38 0x1d ∷ Write 0x38 0x07 ∷ Write 0x38 0x07 ∷ []; ending = Idle })
fields_run = refl

-- In the method of B, x is the field of A and y that of B.
body_of_get : option_map (λ r. r.body) (find_routine (source_of fields).routines (Method (codes "B") (codes "get")))
    ≡ Some (code.Then (code.Then
    (code.Then (code.Then (code.Do This) (code.Do (Field 15 (codes "A") (codes "x"))))
    (code.Then (code.Then (code.Do This) (code.Do (Field 17 (codes "B") (codes "y")))) (code.Do (Operate 16 Plus))))
    code.Return) code.Nothing)
body_of_get = refl
