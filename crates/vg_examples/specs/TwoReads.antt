-- Two device reads: operands go from left to right.
use Rattle.std.specs.Prelude.{◌≡◌, refl, [], ◌∷◌, codes, Some, None}
use Rattle.vg_meaning.specs.declared.event.Event.TheVariants.{Read, Write}
use Rattle.vg_meaning.specs.Ending as ending
use Rattle.vg_meaning.specs.Ending.{Idle}
use Rattle.vg_syntax.specs.declared.kind.Kind.TheVariants as kind
use Rattle.vg_syntax.specs.Tree.{Assign, Block, Chain, ComponentDecl, DeviceDecl, EntryDecl, IntType, Member, MethodDecl, Name, NoType, Node, Part, Postfix}
use Rattle.vg_syntax.specs.Tree.{ProgramDecl, RawType, RegisterDecl, Text, TypePart}
use Rattle.vg_source.specs.Program.{source_of}
use Rattle.vg_examples.specs.Writing.{at, row, outcome_of}

-- Two reads and a sum.
--   component Main { method main() { M.PORTB = (M.PINB :: int + M.INA :: int) :: raw.8; } }
--   device M { register PINB = 0x36; register PORTB = 0x38; register INA = 0x39; }
--   program P { entry main = Main.main; }
abbrev pub two_reads : Node
two_reads = Text (at 0 1 1) (row (
    (ComponentDecl (at 1 1 1) (codes "Main") (row (
    (MethodDecl (at 2 1 18) (codes "main") [] NoType (Block (at 3 1 32) (row (
    (Assign (at 4 1 34) (Postfix (at 5 1 34) (Name (at 6 1 34) (codes "M")) (row ((Member (at 7 1 35) (codes "PORTB")) ∷ [])))
    (Chain (at 8 1 44) (Chain (at 9 1 45)
    (Chain (at 10 1 45) (Postfix (at 11 1 45) (Name (at 12 1 45) (codes "M")) (row ((Member (at 13 1 46) (codes "PINB")) ∷ [])))
    (row ((TypePart (at 14 1 52) kind.Cast IntType) ∷ []))) (row (
    (Part (at 15 1 59) kind.Plus (Chain (at 16 1 61) (Postfix (at 17 1 61) (Name (at 18 1 61) (codes "M")) (row ((Member (at 19 1 62) (codes "INA")) ∷ [])))
    (row ((TypePart (at 20 1 67) kind.Cast IntType) ∷ []))))
    ∷ []))) (row ((TypePart (at 21 1 75) kind.Cast (RawType (codes "8"))) ∷ []))))
    ∷ []))))
    ∷ [])))
    ∷ (DeviceDecl (at 22 2 1) (codes "M") (row (
    (RegisterDecl (at 23 2 12) (codes "PINB") (codes "0x36"))
    ∷ (RegisterDecl (at 24 2 34) (codes "PORTB") (codes "0x38"))
    ∷ (RegisterDecl (at 25 2 57) (codes "INA") (codes "0x39"))
    ∷ [])))
    ∷ (ProgramDecl (at 26 3 1) (codes "P") (row ((EntryDecl (at 27 3 13) (codes "main") (codes "Main") (codes "main")) ∷ [])))
    ∷ []))

-- Both reads have a value.
two_reads_runs : outcome_of (source_of two_reads) 1000 None (1 ∷ 2 ∷ []) [] 1000
    ≡ Some (record { trace = Read 0x36 0x01 ∷ Read 0x39 0x02 ∷ Write 0x38 0x03 ∷ []; ending = Idle })
two_reads_runs = refl

-- The second read has none.
two_reads_wants : outcome_of (source_of two_reads) 1000 None (1 ∷ []) [] 1000
    ≡ Some (record { trace = Read 0x36 0x01 ∷ []; ending = ending.Wants 0x39 })
two_reads_wants = refl
