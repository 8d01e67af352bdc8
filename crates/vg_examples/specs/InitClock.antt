-- The clock of initialisation.
use Rattle.std.specs.Prelude.{◌≡◌, refl, [], ◌∷◌, codes, Some, None, false}
use Rattle.vg_meaning.specs.Ending.{Idle}
use Rattle.vg_syntax.specs.declared.kind.Kind.TheVariants as kind
use Rattle.vg_syntax.specs.Tree.{Assign, Block, Chain, ComponentDecl, ConstructorDecl, DeviceDecl, EntryDecl, IntType, Local, MethodDecl, Name, NoType}
use Rattle.vg_syntax.specs.Tree.{Node, Nothing, Number, Part, ProgramDecl, RegisterDecl, Text, While}
use Rattle.vg_meaning.specs.Answer.{OutOfClock}
use Rattle.vg_source.specs.Program.{source_of}
use Rattle.vg_source.specs.Session.{started, Failed}
use Rattle.vg_examples.specs.Writing.{at, row, outcome_of}

-- One tick of the component and nine of the loop.
--   component Main { constructor() { local i: int = 0; while (i < 9) { i = i + 1; } } method main() { } }
--   device M { register PINB = 0x36; register PORTB = 0x38; register INA = 0x39; }
--   program P { entry main = Main.main; }
abbrev pub init_clock : Node
init_clock = Text (at 0 1 1) (row (
    (ComponentDecl (at 1 1 1) (codes "Main") (row (
    (ConstructorDecl (at 2 1 18) [] false Nothing (Block (at 3 1 32) (row (
    (Local (at 4 1 34) (codes "i") IntType (Number (at 5 1 49) (codes "0")))
    ∷ (While (at 6 1 52) (Chain (at 7 1 59) (Name (at 8 1 59) (codes "i")) (row ((Part (at 9 1 61) kind.Less (Number (at 10 1 63) (codes "9"))) ∷ [])))
    (Block (at 11 1 66) (row (
    (Assign (at 12 1 68) (Name (at 13 1 68) (codes "i"))
    (Chain (at 14 1 72) (Name (at 15 1 72) (codes "i")) (row ((Part (at 16 1 74) kind.Plus (Number (at 17 1 76) (codes "1"))) ∷ []))))
    ∷ []))))
    ∷ []))))
    ∷ (MethodDecl (at 18 1 83) (codes "main") [] NoType (Block (at 19 1 97) Nothing))
    ∷ [])))
    ∷ (DeviceDecl (at 20 2 1) (codes "M") (row (
    (RegisterDecl (at 21 2 12) (codes "PINB") (codes "0x36"))
    ∷ (RegisterDecl (at 22 2 34) (codes "PORTB") (codes "0x38"))
    ∷ (RegisterDecl (at 23 2 57) (codes "INA") (codes "0x39"))
    ∷ [])))
    ∷ (ProgramDecl (at 24 3 1) (codes "P") (row ((EntryDecl (at 25 3 13) (codes "main") (codes "Main") (codes "main")) ∷ [])))
    ∷ []))

init_clock_in_ten : outcome_of (source_of init_clock) 10 None [] [] 1000
    ≡ Some (record { trace = []; ending = Idle })
init_clock_in_ten = refl

init_clock_in_nine : started (source_of init_clock) 9 ≡ Failed (OutOfClock)
init_clock_in_nine = refl
