-- A store to a field of null.
use Rattle.std.specs.Prelude.{◌≡◌, refl, [], ◌∷◌, codes, Some, None}
use Rattle.vg_meaning.specs.declared.event.Event.TheVariants.{Write}
use Rattle.vg_meaning.specs.Ending.{Stop}
use Rattle.vg_syntax.specs.Tree.{Assign, Block, ClassDecl, ClassType, ComponentDecl, DeviceDecl, EntryDecl, FieldDecl, IntType, Member, MethodDecl, Name}
use Rattle.vg_syntax.specs.Tree.{NoType, Node, Nothing, Number, Postfix, ProgramDecl, RegisterDecl, Text}
use Rattle.vg_source.specs.Program.{source_of}
use Rattle.vg_examples.specs.Writing.{at, row, outcome_of}

-- The null check comes behind the right side.
--   class A { field log: int; }
--   component Main { field a: A; method main() { M.PORTB = 0x01; a.log = 5; M.PORTB = 0x02; } }
--   device M { register PINB = 0x36; register PORTB = 0x38; register INA = 0x39; }
--   program P { entry main = Main.main; }
abbrev pub store_to_null : Node
store_to_null = Text (at 0 1 1) (row (
    (ClassDecl (at 1 1 1) (codes "A") None (row ((FieldDecl (at 2 1 11) (codes "log") IntType Nothing) ∷ [])))
    ∷ (ComponentDecl (at 3 2 1) (codes "Main") (row (
    (FieldDecl (at 4 2 18) (codes "a") (ClassType (codes "A")) Nothing)
    ∷ (MethodDecl (at 5 2 30) (codes "main") [] NoType (Block (at 6 2 44) (row (
    (Assign (at 7 2 46) (Postfix (at 8 2 46) (Name (at 9 2 46) (codes "M")) (row ((Member (at 10 2 47) (codes "PORTB")) ∷ [])))
    (Number (at 11 2 56) (codes "0x01")))
    ∷ (Assign (at 12 2 62) (Postfix (at 13 2 62) (Name (at 14 2 62) (codes "a")) (row ((Member (at 15 2 63) (codes "log")) ∷ [])))
    (Number (at 16 2 70) (codes "5")))
    ∷ (Assign (at 17 2 73) (Postfix (at 18 2 73) (Name (at 19 2 73) (codes "M")) (row ((Member (at 20 2 74) (codes "PORTB")) ∷ [])))
    (Number (at 21 2 83) (codes "0x02")))
    ∷ []))))
    ∷ [])))
    ∷ (DeviceDecl (at 22 3 1) (codes "M") (row (
    (RegisterDecl (at 23 3 12) (codes "PINB") (codes "0x36"))
    ∷ (RegisterDecl (at 24 3 34) (codes "PORTB") (codes "0x38"))
    ∷ (RegisterDecl (at 25 3 57) (codes "INA") (codes "0x39"))
    ∷ [])))
    ∷ (ProgramDecl (at 26 4 1) (codes "P") (row ((EntryDecl (at 27 4 13) (codes "main") (codes "Main") (codes "main")) ∷ [])))
    ∷ []))

store_to_null_runs : outcome_of (source_of store_to_null) 1000 None [] [] 1000
    ≡ Some (record { trace = Write 0x38 0x01 ∷ []; ending = Stop 1 })
store_to_null_runs = refl
