-- Casts among ints, chars and bit strings: the high bits are cut, or zeros fill them.
use Rattle.std.specs.Prelude.{◌≡◌, refl, [], ◌∷◌, codes, Some, None}
use Rattle.vg_meaning.specs.declared.event.Event.TheVariants.{Write}
use Rattle.vg_meaning.specs.Ending.{Idle}
use Rattle.vg_syntax.specs.declared.kind.Kind.TheVariants as kind
use Rattle.vg_syntax.specs.Tree.{Arm, Assign, Block, Chain, CharLit, CharType, ComponentDecl, DeviceDecl, EntryDecl, If, IntType, Member, MethodDecl, Name}
use Rattle.vg_syntax.specs.Tree.{NoType, Node, Nothing, Number, Part, Postfix, ProgramDecl, RawType, RegisterDecl, Text, TypePart, Unary}
use Rattle.vg_source.specs.Program.{source_of}
use Rattle.vg_examples.specs.Writing.{at, row, outcome_of}

-- Each condition holds.
--   component Main {
--     method main() {
--       if (-1 :: raw.31 :: int == 2147483647) { M.PORTB = 0x01; }
--       if (300 :: char :: int == 44) { M.PORTB = 0x02; }
--       if ('a' :: raw.4 == 0x1) { M.PORTB = 0x03; }
--       if (0x8 :: raw.8 == 0x08) { M.PORTB = 0x04; }
--       if (0xFFFFFFFF :: int == -1) { M.PORTB = 0x05; }
--       if (0x1FF :: char == '\xff') { M.PORTB = 0x06; }
--     }
--   }
--   device M { register PINB = 0x36; register PORTB = 0x38; register INA = 0x39; }
--   program P { entry main = Main.main; }
abbrev pub casts : Node
casts = Text (at 0 1 1) (row (
    (ComponentDecl (at 1 1 1) (codes "Main") (row (
    (MethodDecl (at 2 2 3) (codes "main") [] NoType (Block (at 3 2 17) (row (
    (If (at 4 3 5) (Arm (Chain (at 5 3 9) (Chain (at 6 3 9) (Unary (at 7 3 9) (kind.Minus ∷ []) (Number (at 8 3 10) (codes "1"))) (row (
    (TypePart (at 9 3 12) kind.Cast (RawType (codes "31")))
    ∷ (TypePart (at 10 3 22) kind.Cast IntType)
    ∷ []))) (row ((Part (at 11 3 29) kind.EqualEqual (Number (at 12 3 32) (codes "2147483647"))) ∷ []))) (Block (at 13 3 44) (row (
    (Assign (at 14 3 46) (Postfix (at 15 3 46) (Name (at 16 3 46) (codes "M")) (row ((Member (at 17 3 47) (codes "PORTB")) ∷ [])))
    (Number (at 18 3 56) (codes "0x01")))
    ∷ []))) Nothing) Nothing)
    ∷ (If (at 19 4 5) (Arm (Chain (at 20 4 9)
    (Chain (at 21 4 9) (Number (at 22 4 9) (codes "300")) (row ((TypePart (at 23 4 13) kind.Cast CharType) ∷ (TypePart (at 24 4 21) kind.Cast IntType) ∷ [])))
    (row ((Part (at 25 4 28) kind.EqualEqual (Number (at 26 4 31) (codes "44"))) ∷ []))) (Block (at 27 4 35) (row (
    (Assign (at 28 4 37) (Postfix (at 29 4 37) (Name (at 30 4 37) (codes "M")) (row ((Member (at 31 4 38) (codes "PORTB")) ∷ [])))
    (Number (at 32 4 47) (codes "0x02")))
    ∷ []))) Nothing) Nothing)
    ∷ (If (at 33 5 5) (Arm (Chain (at 34 5 9)
    (Chain (at 35 5 9) (CharLit (at 36 5 9) (codes "'a'")) (row ((TypePart (at 37 5 13) kind.Cast (RawType (codes "4"))) ∷ [])))
    (row ((Part (at 38 5 22) kind.EqualEqual (Number (at 39 5 25) (codes "0x1"))) ∷ []))) (Block (at 40 5 30) (row (
    (Assign (at 41 5 32) (Postfix (at 42 5 32) (Name (at 43 5 32) (codes "M")) (row ((Member (at 44 5 33) (codes "PORTB")) ∷ [])))
    (Number (at 45 5 42) (codes "0x03")))
    ∷ []))) Nothing) Nothing)
    ∷ (If (at 46 6 5) (Arm (Chain (at 47 6 9)
    (Chain (at 48 6 9) (Number (at 49 6 9) (codes "0x8")) (row ((TypePart (at 50 6 13) kind.Cast (RawType (codes "8"))) ∷ [])))
    (row ((Part (at 51 6 22) kind.EqualEqual (Number (at 52 6 25) (codes "0x08"))) ∷ []))) (Block (at 53 6 31) (row (
    (Assign (at 54 6 33) (Postfix (at 55 6 33) (Name (at 56 6 33) (codes "M")) (row ((Member (at 57 6 34) (codes "PORTB")) ∷ [])))
    (Number (at 58 6 43) (codes "0x04")))
    ∷ []))) Nothing) Nothing)
    ∷ (If (at 59 7 5) (Arm (Chain (at 60 7 9)
    (Chain (at 61 7 9) (Number (at 62 7 9) (codes "0xFFFFFFFF")) (row ((TypePart (at 63 7 20) kind.Cast IntType) ∷ []))) (row (
    (Part (at 64 7 27) kind.EqualEqual (Unary (at 65 7 30) (kind.Minus ∷ []) (Number (at 66 7 31) (codes "1"))))
    ∷ []))) (Block (at 67 7 34) (row (
    (Assign (at 68 7 36) (Postfix (at 69 7 36) (Name (at 70 7 36) (codes "M")) (row ((Member (at 71 7 37) (codes "PORTB")) ∷ [])))
    (Number (at 72 7 46) (codes "0x05")))
    ∷ []))) Nothing) Nothing)
    ∷ (If (at 73 8 5) (Arm (Chain (at 74 8 9) (Chain (at 75 8 9) (Number (at 76 8 9) (codes "0x1FF")) (row ((TypePart (at 77 8 15) kind.Cast CharType) ∷ [])))
    (row ((Part (at 78 8 23) kind.EqualEqual (CharLit (at 79 8 26) (codes "'\\xff'"))) ∷ []))) (Block (at 80 8 34) (row (
    (Assign (at 81 8 36) (Postfix (at 82 8 36) (Name (at 83 8 36) (codes "M")) (row ((Member (at 84 8 37) (codes "PORTB")) ∷ [])))
    (Number (at 85 8 46) (codes "0x06")))
    ∷ []))) Nothing) Nothing)
    ∷ []))))
    ∷ [])))
    ∷ (DeviceDecl (at 86 11 1) (codes "M") (row (
    (RegisterDecl (at 87 11 12) (codes "PINB") (codes "0x36"))
    ∷ (RegisterDecl (at 88 11 34) (codes "PORTB") (codes "0x38"))
    ∷ (RegisterDecl (at 89 11 57) (codes "INA") (codes "0x39"))
    ∷ [])))
    ∷ (ProgramDecl (at 90 12 1) (codes "P") (row ((EntryDecl (at 91 12 13) (codes "main") (codes "Main") (codes "main")) ∷ [])))
    ∷ []))

casts_run : outcome_of (source_of casts) 1000 None [] [] 1000
    ≡ Some (record { trace = Write 0x38 0x01 ∷ Write 0x38 0x02 ∷ Write 0x38 0x03 ∷ Write 0x38 0x04 ∷ Write 0x38 0x05 ∷ Write 0x38 0x06 ∷ []; ending = Idle })
casts_run = refl
