-- Arrays of arrays.
use Rattle.std.specs.Prelude.{◌≡◌, refl, [], ◌∷◌, codes, Some, None}
use Rattle.vg_meaning.specs.declared.event.Event.TheVariants.{Write}
use Rattle.vg_meaning.specs.Ending.{Idle}
use Rattle.vg_syntax.specs.declared.kind.Kind.TheVariants as kind
use Rattle.vg_syntax.specs.Tree.{Arm, ArrayType, Assign, Block, Chain, ComponentDecl, DeviceDecl, EntryDecl, FieldDecl, If, Index, IntType, Member}
use Rattle.vg_syntax.specs.Tree.{MethodDecl, Name, NewArray, NoType, Node, Nothing, Null, Number, Part, Postfix, ProgramDecl, RawType, RegisterDecl, Text}
use Rattle.vg_syntax.specs.Tree.{TypePart}
use Rattle.vg_source.specs.Program.{source_of}
use Rattle.vg_source.specs.Session.{started}
use Rattle.vg_examples.specs.Writing.{at, row, outcome_of, cells_of}

-- `new int[3][]` makes three elements of type int[], all null; `new int[3][0]` is an element of an array of ints.
--   component Main {
--     field a: int[][] = new int[3][];
--     field x: int = new int[3][0];
--     method main() { M.PORTB = a.length :: raw.8; if (a[2] == null) { M.PORTB = 0x01; } M.PORTB = x :: raw.8; }
--   }
--   device M { register PINB = 0x36; register PORTB = 0x38; register INA = 0x39; }
--   program P { entry main = Main.main; }
abbrev pub arrays : Node
arrays = Text (at 0 1 1) (row (
    (ComponentDecl (at 1 1 1) (codes "Main") (row (
    (FieldDecl (at 2 2 3) (codes "a") (ArrayType (ArrayType IntType)) (NewArray (at 3 2 22) (ArrayType IntType) (Number (at 4 2 30) (codes "3"))))
    ∷ (FieldDecl (at 5 3 3) (codes "x") IntType
    (Postfix (at 6 3 18) (NewArray (at 7 3 18) IntType (Number (at 8 3 26) (codes "3"))) (row ((Index (at 9 3 28) (Number (at 10 3 29) (codes "0"))) ∷ []))))
    ∷ (MethodDecl (at 11 4 3) (codes "main") [] NoType (Block (at 12 4 17) (row (
    (Assign (at 13 4 19) (Postfix (at 14 4 19) (Name (at 15 4 19) (codes "M")) (row ((Member (at 16 4 20) (codes "PORTB")) ∷ [])))
    (Chain (at 17 4 29) (Postfix (at 18 4 29) (Name (at 19 4 29) (codes "a")) (row ((Member (at 20 4 30) (codes "length")) ∷ [])))
    (row ((TypePart (at 21 4 38) kind.Cast (RawType (codes "8"))) ∷ []))))
    ∷ (If (at 22 4 48) (Arm (Chain (at 23 4 52)
    (Postfix (at 24 4 52) (Name (at 25 4 52) (codes "a")) (row ((Index (at 26 4 53) (Number (at 27 4 54) (codes "2"))) ∷ [])))
    (row ((Part (at 28 4 57) kind.EqualEqual (Null (at 29 4 60))) ∷ []))) (Block (at 30 4 66) (row (
    (Assign (at 31 4 68) (Postfix (at 32 4 68) (Name (at 33 4 68) (codes "M")) (row ((Member (at 34 4 69) (codes "PORTB")) ∷ [])))
    (Number (at 35 4 78) (codes "0x01")))
    ∷ []))) Nothing) Nothing)
    ∷ (Assign (at 36 4 86) (Postfix (at 37 4 86) (Name (at 38 4 86) (codes "M")) (row ((Member (at 39 4 87) (codes "PORTB")) ∷ [])))
    (Chain (at 40 4 96) (Name (at 41 4 96) (codes "x")) (row ((TypePart (at 42 4 98) kind.Cast (RawType (codes "8"))) ∷ []))))
    ∷ []))))
    ∷ [])))
    ∷ (DeviceDecl (at 43 6 1) (codes "M") (row (
    (RegisterDecl (at 44 6 12) (codes "PINB") (codes "0x36"))
    ∷ (RegisterDecl (at 45 6 34) (codes "PORTB") (codes "0x38"))
    ∷ (RegisterDecl (at 46 6 57) (codes "INA") (codes "0x39"))
    ∷ [])))
    ∷ (ProgramDecl (at 47 7 1) (codes "P") (row ((EntryDecl (at 48 7 13) (codes "main") (codes "Main") (codes "main")) ∷ [])))
    ∷ []))

arrays_run : outcome_of (source_of arrays) 1000 None [] [] 1000
    ≡ Some (record { trace = Write 0x38 0x03 ∷ Write 0x38 0x01 ∷ Write 0x38 0x00 ∷ []; ending = Idle })
arrays_run = refl

-- The array of arrays, and that of ints.
arrays_cells : cells_of (started (source_of arrays) 9) ≡ 2
arrays_cells = refl
