-- String literals are arrays of their own.
use Rattle.std.specs.Prelude.{◌≡◌, refl, [], ◌∷◌, codes, Some, None}
use Rattle.vg_meaning.specs.declared.event.Event.TheVariants.{Write}
use Rattle.vg_meaning.specs.Ending.{Idle}
use Rattle.vg_syntax.specs.declared.kind.Kind.TheVariants as kind
use Rattle.vg_syntax.specs.Tree.{Arm, ArrayType, Assign, Block, Call, Chain, CharLit, CharType, ComponentDecl, DeviceDecl, EntryDecl, If, Index, Member}
use Rattle.vg_syntax.specs.Tree.{MethodDecl, Name, NoType, Node, Nothing, Number, Part, Postfix, ProgramDecl, RawType, RegisterDecl, Return, StringLit}
use Rattle.vg_syntax.specs.Tree.{Text, TypePart}
use Rattle.vg_source.specs.Program.{source_of}
use Rattle.vg_source.specs.Session.{started}
use Rattle.vg_examples.specs.Writing.{at, row, outcome_of, cells_of}

-- A literal is one array however often it is evaluated, and equal literals are two.
--   component Main {
--     method text(): char[] { return "ab"; }
--     method dead(): char[] { return "\x41\n"; }
--     method main() {
--       text()[0] = 'x'; M.PORTB = text()[0] :: raw.8; M.PORTB = text()[1] :: raw.8;
--       if ("ab" == "ab") { M.PORTB = 0x01; } else { M.PORTB = 0x02; } M.PORTB = text().length :: raw.8;
--     }
--   }
--   device M { register PINB = 0x36; register PORTB = 0x38; register INA = 0x39; }
--   program P { entry main = Main.main; }
abbrev pub literals : Node
literals = Text (at 0 1 1) (row (
    (ComponentDecl (at 1 1 1) (codes "Main") (row (
    (MethodDecl (at 2 2 3) (codes "text") [] (ArrayType CharType)
    (Block (at 3 2 25) (row ((Return (at 4 2 27) (StringLit (at 5 2 34) (codes "\"ab\""))) ∷ []))))
    ∷ (MethodDecl (at 6 3 3) (codes "dead") [] (ArrayType CharType)
    (Block (at 7 3 25) (row ((Return (at 8 3 27) (StringLit (at 9 3 34) (codes "\"\\x41\\n\""))) ∷ []))))
    ∷ (MethodDecl (at 10 4 3) (codes "main") [] NoType (Block (at 11 4 17) (row (
    (Assign (at 12 5 5) (Postfix (at 13 5 5) (Name (at 14 5 5) (codes "text"))
    (row ((Call (at 15 5 9) Nothing) ∷ (Index (at 16 5 11) (Number (at 17 5 12) (codes "0"))) ∷ []))) (CharLit (at 18 5 17) (codes "'x'")))
    ∷ (Assign (at 19 5 22) (Postfix (at 20 5 22) (Name (at 21 5 22) (codes "M")) (row ((Member (at 22 5 23) (codes "PORTB")) ∷ [])))
    (Chain (at 23 5 32) (Postfix (at 24 5 32) (Name (at 25 5 32) (codes "text"))
    (row ((Call (at 26 5 36) Nothing) ∷ (Index (at 27 5 38) (Number (at 28 5 39) (codes "0"))) ∷ []))) (row
    ((TypePart (at 29 5 42) kind.Cast (RawType (codes "8"))) ∷ []))))
    ∷ (Assign (at 30 5 52) (Postfix (at 31 5 52) (Name (at 32 5 52) (codes "M")) (row ((Member (at 33 5 53) (codes "PORTB")) ∷ [])))
    (Chain (at 34 5 62) (Postfix (at 35 5 62) (Name (at 36 5 62) (codes "text"))
    (row ((Call (at 37 5 66) Nothing) ∷ (Index (at 38 5 68) (Number (at 39 5 69) (codes "1"))) ∷ []))) (row
    ((TypePart (at 40 5 72) kind.Cast (RawType (codes "8"))) ∷ []))))
    ∷ (If (at 41 6 5) (Arm (Chain (at 42 6 9) (StringLit (at 43 6 9) (codes "\"ab\""))
    (row ((Part (at 44 6 14) kind.EqualEqual (StringLit (at 45 6 17) (codes "\"ab\""))) ∷ []))) (Block (at 46 6 23) (row (
    (Assign (at 47 6 25) (Postfix (at 48 6 25) (Name (at 49 6 25) (codes "M")) (row ((Member (at 50 6 26) (codes "PORTB")) ∷ [])))
    (Number (at 51 6 35) (codes "0x01")))
    ∷ []))) Nothing) (Block (at 52 6 48) (row (
    (Assign (at 53 6 50) (Postfix (at 54 6 50) (Name (at 55 6 50) (codes "M")) (row ((Member (at 56 6 51) (codes "PORTB")) ∷ [])))
    (Number (at 57 6 60) (codes "0x02")))
    ∷ []))))
    ∷ (Assign (at 58 6 68) (Postfix (at 59 6 68) (Name (at 60 6 68) (codes "M")) (row ((Member (at 61 6 69) (codes "PORTB")) ∷ [])))
    (Chain (at 62 6 78) (Postfix (at 63 6 78) (Name (at 64 6 78) (codes "text"))
    (row ((Call (at 65 6 82) Nothing) ∷ (Member (at 66 6 84) (codes "length")) ∷ []))) (row ((TypePart (at 67 6 92) kind.Cast (RawType (codes "8"))) ∷ []))))
    ∷ []))))
    ∷ [])))
    ∷ (DeviceDecl (at 68 9 1) (codes "M") (row (
    (RegisterDecl (at 69 9 12) (codes "PINB") (codes "0x36"))
    ∷ (RegisterDecl (at 70 9 34) (codes "PORTB") (codes "0x38"))
    ∷ (RegisterDecl (at 71 9 57) (codes "INA") (codes "0x39"))
    ∷ [])))
    ∷ (ProgramDecl (at 72 10 1) (codes "P") (row ((EntryDecl (at 73 10 13) (codes "main") (codes "Main") (codes "main")) ∷ [])))
    ∷ []))

literals_run : outcome_of (source_of literals) 1000 None [] [] 1000
    ≡ Some (record { trace = Write 0x38 0x78 ∷ Write 0x38 0x62 ∷ Write 0x38 0x02 ∷ Write 0x38 0x02 ∷ []; ending = Idle })
literals_run = refl

-- The literals of dead code are cells too.
literals_cells : cells_of (started (source_of literals) 1) ≡ 4
literals_cells = refl
