-- Shifts and concatenation of bit strings.
use Rattle.std.specs.Prelude.{◌≡◌, refl, [], ◌∷◌, codes, Some, None}
use Rattle.vg_meaning.specs.declared.event.Event.TheVariants.{Write}
use Rattle.vg_meaning.specs.Ending.{Idle}
use Rattle.vg_syntax.specs.declared.kind.Kind.TheVariants as kind
use Rattle.vg_syntax.specs.Tree.{Assign, Block, Chain, ComponentDecl, DeviceDecl, EntryDecl, Member, MethodDecl, Name, NoType, Node, Number, Part, Postfix}
use Rattle.vg_syntax.specs.Tree.{ProgramDecl, RegisterDecl, Text, Unary}
use Rattle.vg_source.specs.Program.{source_of}
use Rattle.vg_examples.specs.Writing.{at, row, outcome_of}

-- An amount below 0 or from the width up gives 0.
--   component Main {
--     method main() { M.PORTB = 0x81 << 1; M.PORTB = 0x81 << 8; M.PORTB = 0x81 >> -1; M.PORTB = 0x8 # 0x1; }
--   }
--   device M { register PINB = 0x36; register PORTB = 0x38; register INA = 0x39; }
--   program P { entry main = Main.main; }
abbrev pub shifts : Node
shifts = Text (at 0 1 1) (row (
    (ComponentDecl (at 1 1 1) (codes "Main") (row (
    (MethodDecl (at 2 2 3) (codes "main") [] NoType (Block (at 3 2 17) (row (
    (Assign (at 4 2 19) (Postfix (at 5 2 19) (Name (at 6 2 19) (codes "M")) (row ((Member (at 7 2 20) (codes "PORTB")) ∷ [])))
    (Chain (at 8 2 29) (Number (at 9 2 29) (codes "0x81")) (row ((Part (at 10 2 34) kind.ShiftLeft (Number (at 11 2 37) (codes "1"))) ∷ []))))
    ∷ (Assign (at 12 2 40) (Postfix (at 13 2 40) (Name (at 14 2 40) (codes "M")) (row ((Member (at 15 2 41) (codes "PORTB")) ∷ [])))
    (Chain (at 16 2 50) (Number (at 17 2 50) (codes "0x81")) (row ((Part (at 18 2 55) kind.ShiftLeft (Number (at 19 2 58) (codes "8"))) ∷ []))))
    ∷ (Assign (at 20 2 61) (Postfix (at 21 2 61) (Name (at 22 2 61) (codes "M")) (row ((Member (at 23 2 62) (codes "PORTB")) ∷ [])))
    (Chain (at 24 2 71) (Number (at 25 2 71) (codes "0x81")) (row (
    (Part (at 26 2 76) kind.ShiftRight (Unary (at 27 2 79) (kind.Minus ∷ []) (Number (at 28 2 80) (codes "1"))))
    ∷ []))))
    ∷ (Assign (at 29 2 83) (Postfix (at 30 2 83) (Name (at 31 2 83) (codes "M")) (row ((Member (at 32 2 84) (codes "PORTB")) ∷ [])))
    (Chain (at 33 2 93) (Number (at 34 2 93) (codes "0x8")) (row ((Part (at 35 2 97) kind.Concat (Number (at 36 2 99) (codes "0x1"))) ∷ []))))
    ∷ []))))
    ∷ [])))
    ∷ (DeviceDecl (at 37 4 1) (codes "M") (row (
    (RegisterDecl (at 38 4 12) (codes "PINB") (codes "0x36"))
    ∷ (RegisterDecl (at 39 4 34) (codes "PORTB") (codes "0x38"))
    ∷ (RegisterDecl (at 40 4 57) (codes "INA") (codes "0x39"))
    ∷ [])))
    ∷ (ProgramDecl (at 41 5 1) (codes "P") (row ((EntryDecl (at 42 5 13) (codes "main") (codes "Main") (codes "main")) ∷ [])))
    ∷ []))

shifts_run : outcome_of (source_of shifts) 1000 None [] [] 1000
    ≡ Some (record { trace = Write 0x38 0x02 ∷ Write 0x38 0x00 ∷ Write 0x38 0x00 ∷ Write 0x38 0x81 ∷ []; ending = Idle })
shifts_run = refl
