-- A device write at initialisation.
use Rattle.std.specs.Prelude.{◌≡◌, refl, [], ◌∷◌, codes, false}
use Rattle.vg_syntax.specs.Tree.{Assign, Block, ComponentDecl, ConstructorDecl, DeviceDecl, EntryDecl, Member, MethodDecl, Name, NoType, Node, Nothing}
use Rattle.vg_syntax.specs.Tree.{Number, Postfix, ProgramDecl, RegisterDecl, Text}
use Rattle.vg_meaning.specs.Answer.{Touches}
use Rattle.vg_source.specs.Program.{source_of}
use Rattle.vg_source.specs.Session.{started, Failed}
use Rattle.vg_examples.specs.Writing.{at, row}

-- Initialisation touches no device.
--   component Main { constructor() { M.PORTB = 0x01; } method main() { } }
--   device M { register PINB = 0x36; register PORTB = 0x38; register INA = 0x39; }
--   program P { entry main = Main.main; }
abbrev pub init_touch : Node
init_touch = Text (at 0 1 1) (row (
    (ComponentDecl (at 1 1 1) (codes "Main") (row (
    (ConstructorDecl (at 2 1 18) [] false Nothing (Block (at 3 1 32) (row (
    (Assign (at 4 1 34) (Postfix (at 5 1 34) (Name (at 6 1 34) (codes "M")) (row ((Member (at 7 1 35) (codes "PORTB")) ∷ [])))
    (Number (at 8 1 44) (codes "0x01")))
    ∷ []))))
    ∷ (MethodDecl (at 9 1 52) (codes "main") [] NoType (Block (at 10 1 66) Nothing))
    ∷ [])))
    ∷ (DeviceDecl (at 11 2 1) (codes "M") (row (
    (RegisterDecl (at 12 2 12) (codes "PINB") (codes "0x36"))
    ∷ (RegisterDecl (at 13 2 34) (codes "PORTB") (codes "0x38"))
    ∷ (RegisterDecl (at 14 2 57) (codes "INA") (codes "0x39"))
    ∷ [])))
    ∷ (ProgramDecl (at 15 3 1) (codes "P") (row ((EntryDecl (at 16 3 13) (codes "main") (codes "Main") (codes "main")) ∷ [])))
    ∷ []))

init_touch_fails : started (source_of init_touch) 1000 ≡ Failed (Touches 0x38)
init_touch_fails = refl
