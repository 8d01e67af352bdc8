-- Division: the least int by -1, and by zero.
use Rattle.std.specs.Prelude.{◌≡◌, refl, [], ◌∷◌, codes, Some, None}
use Rattle.vg_meaning.specs.declared.event.Event.TheVariants.{Write}
use Rattle.vg_meaning.specs.Ending.{Stop}
use Rattle.vg_syntax.specs.declared.kind.Kind.TheVariants as kind
use Rattle.vg_syntax.specs.Tree.{Assign, Block, Chain, ComponentDecl, DeviceDecl, EntryDecl, IntType, Local, Member, MethodDecl, Name, NoType, Node, Number}
use Rattle.vg_syntax.specs.Tree.{Part, Postfix, ProgramDecl, RawType, RegisterDecl, Text, TypePart, Unary}
use Rattle.vg_source.specs.Program.{source_of}
use Rattle.vg_examples.specs.Writing.{at, row, outcome_of}

-- The quotient wraps; a remainder by zero stops.
--   component Main {
--     method main() { M.PORTB = ((-2147483648 / -1) :: raw.32 >> 24) :: raw.8; local z: int = 0; z = 5 % z; }
--   }
--   device M { register PINB = 0x36; register PORTB = 0x38; register INA = 0x39; }
--   program P { entry main = Main.main; }
abbrev pub least_int : Node
least_int = Text (at 0 1 1) (row (
    (ComponentDecl (at 1 1 1) (codes "Main") (row (
    (MethodDecl (at 2 2 3) (codes "main") [] NoType (Block (at 3 2 17) (row (
    (Assign (at 4 2 19) (Postfix (at 5 2 19) (Name (at 6 2 19) (codes "M")) (row ((Member (at 7 2 20) (codes "PORTB")) ∷ [])))
    (Chain (at 8 2 29) (Chain (at 9 2 30)
    (Chain (at 10 2 30) (Chain (at 11 2 31) (Unary (at 12 2 31) (kind.Minus ∷ []) (Number (at 13 2 32) (codes "2147483648"))) (row (
    (Part (at 14 2 43) kind.Slash (Unary (at 15 2 45) (kind.Minus ∷ []) (Number (at 16 2 46) (codes "1"))))
    ∷ []))) (row ((TypePart (at 17 2 49) kind.Cast (RawType (codes "32"))) ∷ []))) (row ((Part (at 18 2 59) kind.ShiftRight (Number (at 19 2 62)
    (codes "24"))) ∷ []))) (row ((TypePart (at 20 2 66) kind.Cast (RawType (codes "8"))) ∷ []))))
    ∷ (Local (at 21 2 76) (codes "z") IntType (Number (at 22 2 91) (codes "0")))
    ∷ (Assign (at 23 2 94) (Name (at 24 2 94) (codes "z"))
    (Chain (at 25 2 98) (Number (at 26 2 98) (codes "5")) (row ((Part (at 27 2 100) kind.Percent (Name (at 28 2 102) (codes "z"))) ∷ []))))
    ∷ []))))
    ∷ [])))
    ∷ (DeviceDecl (at 29 4 1) (codes "M") (row (
    (RegisterDecl (at 30 4 12) (codes "PINB") (codes "0x36"))
    ∷ (RegisterDecl (at 31 4 34) (codes "PORTB") (codes "0x38"))
    ∷ (RegisterDecl (at 32 4 57) (codes "INA") (codes "0x39"))
    ∷ [])))
    ∷ (ProgramDecl (at 33 5 1) (codes "P") (row ((EntryDecl (at 34 5 13) (codes "main") (codes "Main") (codes "main")) ∷ [])))
    ∷ []))

least_int_runs : outcome_of (source_of least_int) 1000 None [] [] 1000
    ≡ Some (record { trace = Write 0x38 0x80 ∷ []; ending = Stop 3 })
least_int_runs = refl
