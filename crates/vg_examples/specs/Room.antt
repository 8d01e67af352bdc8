-- Room for stored values.
use Rattle.std.specs.Prelude.{◌≡◌, refl, [], ◌∷◌, codes}
use Rattle.vg_syntax.specs.Tree.{ArrayType, Block, CharType, ComponentDecl, DeviceDecl, EntryDecl, FieldDecl, MethodDecl, NewArray, NoType, Node, Nothing}
use Rattle.vg_syntax.specs.Tree.{Number, ProgramDecl, RegisterDecl, Text}
use Rattle.vg_meaning.specs.Answer.{OutOfRoom}
use Rattle.vg_source.specs.Program.{source_of}
use Rattle.vg_source.specs.Session.{started, Failed}
use Rattle.vg_examples.specs.Writing.{at, row, cells_of}

-- A component field, a cell and its 59998 elements are 60000 stored values.
--   component Main { field a: char[] = new char[59998]; method main() { } }
--   device M { register PINB = 0x36; register PORTB = 0x38; register INA = 0x39; }
--   program P { entry main = Main.main; }
abbrev pub full : Node
full = Text (at 0 1 1) (row (
    (ComponentDecl (at 1 1 1) (codes "Main") (row (
    (FieldDecl (at 2 1 18) (codes "a") (ArrayType CharType) (NewArray (at 3 1 36) CharType (Number (at 4 1 45) (codes "59998"))))
    ∷ (MethodDecl (at 5 1 53) (codes "main") [] NoType (Block (at 6 1 67) Nothing))
    ∷ [])))
    ∷ (DeviceDecl (at 7 2 1) (codes "M") (row (
    (RegisterDecl (at 8 2 12) (codes "PINB") (codes "0x36"))
    ∷ (RegisterDecl (at 9 2 34) (codes "PORTB") (codes "0x38"))
    ∷ (RegisterDecl (at 10 2 57) (codes "INA") (codes "0x39"))
    ∷ [])))
    ∷ (ProgramDecl (at 11 3 1) (codes "P") (row ((EntryDecl (at 12 3 13) (codes "main") (codes "Main") (codes "main")) ∷ [])))
    ∷ []))

-- One element more is one too many.
--   component Main { field a: char[] = new char[59999]; method main() { } }
--   device M { register PINB = 0x36; register PORTB = 0x38; register INA = 0x39; }
--   program P { entry main = Main.main; }
abbrev pub over_full : Node
over_full = Text (at 0 1 1) (row (
    (ComponentDecl (at 1 1 1) (codes "Main") (row (
    (FieldDecl (at 2 1 18) (codes "a") (ArrayType CharType) (NewArray (at 3 1 36) CharType (Number (at 4 1 45) (codes "59999"))))
    ∷ (MethodDecl (at 5 1 53) (codes "main") [] NoType (Block (at 6 1 67) Nothing))
    ∷ [])))
    ∷ (DeviceDecl (at 7 2 1) (codes "M") (row (
    (RegisterDecl (at 8 2 12) (codes "PINB") (codes "0x36"))
    ∷ (RegisterDecl (at 9 2 34) (codes "PORTB") (codes "0x38"))
    ∷ (RegisterDecl (at 10 2 57) (codes "INA") (codes "0x39"))
    ∷ [])))
    ∷ (ProgramDecl (at 11 3 1) (codes "P") (row ((EntryDecl (at 12 3 13) (codes "main") (codes "Main") (codes "main")) ∷ [])))
    ∷ []))

full_cells : cells_of (started (source_of full) 1) ≡ 1
full_cells = refl

over_full_fails : started (source_of over_full) 1 ≡ Failed (OutOfRoom)
over_full_fails = refl
