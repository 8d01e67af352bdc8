-- Numbers are compared by value, but the digits of a hexadecimal literal count as written.
use Rattle.std.specs.Prelude.{◌≡◌, refl, [], ◌∷◌, codes, Some, None}
use Rattle.vg_meaning.specs.declared.event.Event.TheVariants.{Write, Enter}
use Rattle.vg_meaning.specs.Ending.{Idle}
use Rattle.vg_syntax.specs.declared.kind.Kind.TheVariants as kind
use Rattle.vg_syntax.specs.Tree.{Assign, Block, Chain, ComponentDecl, DeviceDecl, EntryDecl, FieldDecl, Member, MethodDecl, Name, NoType, Node, Number}
use Rattle.vg_syntax.specs.Tree.{Part, Postfix, ProgramDecl, RawType, RegisterDecl, Text, TypePart}
use Rattle.vg_source.specs.Program.{source_of}
use Rattle.vg_examples.specs.Writing.{at, row, outcome_of}

-- Entry 07 is entry 7, raw.08 is raw.8, and 0x005 has twelve bits.
--   component Main {
--     field r: raw.08 = 0x05;
--     method main() { M.PORTB = (0x005 # 0xF >> 4) :: raw.8; }
--     method tick() { M.PORTB = r; }
--   }
--   device M { register PINB = 0x36; register PORTB = 0x038; register INA = 0x39; }
--   program P { entry main = Main.main; entry 07 = Main.tick; }
abbrev pub leading_zeros : Node
leading_zeros = Text (at 0 1 1) (row (
    (ComponentDecl (at 1 1 1) (codes "Main") (row (
    (FieldDecl (at 2 2 3) (codes "r") (RawType (codes "08")) (Number (at 3 2 21) (codes "0x05")))
    ∷ (MethodDecl (at 4 3 3) (codes "main") [] NoType (Block (at 5 3 17) (row (
    (Assign (at 6 3 19) (Postfix (at 7 3 19) (Name (at 8 3 19) (codes "M")) (row ((Member (at 9 3 20) (codes "PORTB")) ∷ [])))
    (Chain (at 10 3 29) (Chain (at 11 3 30)
    (Chain (at 12 3 30) (Number (at 13 3 30) (codes "0x005")) (row ((Part (at 14 3 36) kind.Concat (Number (at 15 3 38) (codes "0xF"))) ∷ [])))
    (row ((Part (at 16 3 42) kind.ShiftRight (Number (at 17 3 45) (codes "4"))) ∷ []))) (row ((TypePart (at 18 3 48) kind.Cast (RawType (codes "8"))) ∷ []))))
    ∷ []))))
    ∷ (MethodDecl (at 19 4 3) (codes "tick") [] NoType (Block (at 20 4 17) (row (
    (Assign (at 21 4 19) (Postfix (at 22 4 19) (Name (at 23 4 19) (codes "M")) (row ((Member (at 24 4 20) (codes "PORTB")) ∷ [])))
    (Name (at 25 4 29) (codes "r")))
    ∷ []))))
    ∷ [])))
    ∷ (DeviceDecl (at 26 6 1) (codes "M") (row (
    (RegisterDecl (at 27 6 12) (codes "PINB") (codes "0x36"))
    ∷ (RegisterDecl (at 28 6 34) (codes "PORTB") (codes "0x038"))
    ∷ (RegisterDecl (at 29 6 58) (codes "INA") (codes "0x39"))
    ∷ [])))
    ∷ (ProgramDecl (at 30 7 1) (codes "P") (row (
    (EntryDecl (at 31 7 13) (codes "main") (codes "Main") (codes "main"))
    ∷ (EntryDecl (at 32 7 37) (codes "07") (codes "Main") (codes "tick"))
    ∷ [])))
    ∷ []))

leading_zeros_run : outcome_of (source_of leading_zeros) 1000 None [] (7 ∷ []) 1000
    ≡ Some (record { trace = Write 0x38 0x05 ∷ Enter 7 ∷ Write 0x38 0x05 ∷ []; ending = Idle })
leading_zeros_run = refl
