-- A negative length at initialisation.
use Rattle.std.specs.Prelude.{◌≡◌, refl, [], ◌∷◌, codes, Some}
use Rattle.vg_syntax.specs.declared.kind.Kind.TheVariants as kind
use Rattle.vg_syntax.specs.Tree.{ArrayType, Block, CharType, ComponentDecl, DeviceDecl, EntryDecl, FieldDecl, MethodDecl, NewArray, NoType, Node, Nothing}
use Rattle.vg_syntax.specs.Tree.{Number, ProgramDecl, RegisterDecl, Text, Unary}
use Rattle.vg_meaning.specs.Answer.{Stops}
use Rattle.vg_source.specs.Program.{source_of}
use Rattle.vg_source.specs.Session.{started, Failed}
use Rattle.vg_examples.specs.Writing.{at, row}

-- The stop keeps the node of the `new`.
--   component Main { field a: char[] = new char[-1]; method main() { } }
--   device M { register PINB = 0x36; register PORTB = 0x38; register INA = 0x39; }
--   program P { entry main = Main.main; }
abbrev pub negative_length : Node
negative_length = Text (at 0 1 1) (row (
    (ComponentDecl (at 1 1 1) (codes "Main") (row (
    (FieldDecl (at 2 1 18) (codes "a") (ArrayType CharType)
    (NewArray (at 3 1 36) CharType (Unary (at 4 1 45) (kind.Minus ∷ []) (Number (at 5 1 46) (codes "1")))))
    ∷ (MethodDecl (at 6 1 50) (codes "main") [] NoType (Block (at 7 1 64) Nothing))
    ∷ [])))
    ∷ (DeviceDecl (at 8 2 1) (codes "M") (row (
    (RegisterDecl (at 9 2 12) (codes "PINB") (codes "0x36"))
    ∷ (RegisterDecl (at 10 2 34) (codes "PORTB") (codes "0x38"))
    ∷ (RegisterDecl (at 11 2 57) (codes "INA") (codes "0x39"))
    ∷ [])))
    ∷ (ProgramDecl (at 12 3 1) (codes "P") (row ((EntryDecl (at 13 3 13) (codes "main") (codes "Main") (codes "main")) ∷ [])))
    ∷ []))

negative_length_fails : started (source_of negative_length) 1000 ≡ Failed (Stops 5 (Some 3))
negative_length_fails = refl
