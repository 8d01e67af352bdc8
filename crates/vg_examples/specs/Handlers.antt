-- Interrupts and their handlers.
use Rattle.std.specs.Prelude.{◌≡◌, refl, [], ◌∷◌, codes, Some, None}
use Rattle.vg_meaning.specs.declared.event.Event.TheVariants.{Write, Enter}
use Rattle.vg_meaning.specs.Ending.{Idle, Beyond}
use Rattle.vg_syntax.specs.Tree.{Assign, Block, ComponentDecl, DeviceDecl, EntryDecl, Member, MethodDecl, Name, NoType, Node, Number, Postfix, ProgramDecl}
use Rattle.vg_syntax.specs.Tree.{RegisterDecl, Text}
use Rattle.vg_source.specs.Program.{source_of}
use Rattle.vg_examples.specs.Writing.{at, row, outcome_of}

-- Vector 15 has a handler, vector 3 has none.
--   component Main { method main() { M.PORTB = 0x01; } method tick() { M.PORTB = 0x02; } }
--   device M { register PINB = 0x36; register PORTB = 0x38; register INA = 0x39; }
--   program P { entry main = Main.main; entry 15 = Main.tick; }
abbrev pub handlers : Node
handlers = Text (at 0 1 1) (row (
    (ComponentDecl (at 1 1 1) (codes "Main") (row (
    (MethodDecl (at 2 1 18) (codes "main") [] NoType (Block (at 3 1 32) (row (
    (Assign (at 4 1 34) (Postfix (at 5 1 34) (Name (at 6 1 34) (codes "M")) (row ((Member (at 7 1 35) (codes "PORTB")) ∷ [])))
    (Number (at 8 1 44) (codes "0x01")))
    ∷ []))))
    ∷ (MethodDecl (at 9 1 52) (codes "tick") [] NoType (Block (at 10 1 66) (row (
    (Assign (at 11 1 68) (Postfix (at 12 1 68) (Name (at 13 1 68) (codes "M")) (row ((Member (at 14 1 69) (codes "PORTB")) ∷ [])))
    (Number (at 15 1 78) (codes "0x02")))
    ∷ []))))
    ∷ [])))
    ∷ (DeviceDecl (at 16 2 1) (codes "M") (row (
    (RegisterDecl (at 17 2 12) (codes "PINB") (codes "0x36"))
    ∷ (RegisterDecl (at 18 2 34) (codes "PORTB") (codes "0x38"))
    ∷ (RegisterDecl (at 19 2 57) (codes "INA") (codes "0x39"))
    ∷ [])))
    ∷ (ProgramDecl (at 20 3 1) (codes "P") (row (
    (EntryDecl (at 21 3 13) (codes "main") (codes "Main") (codes "main"))
    ∷ (EntryDecl (at 22 3 37) (codes "15") (codes "Main") (codes "tick"))
    ∷ [])))
    ∷ []))

handlers_run : outcome_of (source_of handlers) 1000 None [] (15 ∷ 15 ∷ 3 ∷ []) 1000
    ≡ Some (record { trace = Write 0x38 0x01 ∷ Enter 15 ∷ Write 0x38 0x02 ∷ Enter 15 ∷ Write 0x38 0x02 ∷ Enter 3 ∷ []; ending = Idle })
handlers_run = refl

-- The event of an interrupt stands before the tick of its handler is due.
handlers_are_cut : outcome_of (source_of handlers) 1000 None [] (15 ∷ 15 ∷ 3 ∷ []) 1
    ≡ Some (record { trace = Write 0x38 0x01 ∷ Enter 15 ∷ []; ending = Beyond })
handlers_are_cut = refl
