-- A list of objects made at initialisation.
use Rattle.std.specs.Prelude.{◌≡◌, refl, [], ◌∷◌, codes, Some, None, false}
use Rattle.vg_meaning.specs.declared.event.Event.TheVariants.{Write}
use Rattle.vg_meaning.specs.Ending.{Idle}
use Rattle.vg_syntax.specs.declared.kind.Kind.TheVariants as kind
use Rattle.vg_syntax.specs.Tree.{Assign, Block, Chain, ClassDecl, ClassType, ComponentDecl, ConstructorDecl, DeviceDecl, EntryDecl, FieldDecl, IntType}
use Rattle.vg_syntax.specs.Tree.{Local, Member, MethodDecl, Name, NewObject, NoType, Node, Nothing, Null, Number, Part, Postfix, ProgramDecl, RegisterDecl}
use Rattle.vg_syntax.specs.Tree.{Text, While}
use Rattle.vg_meaning.specs.Answer.{OutOfClock}
use Rattle.vg_source.specs.Program.{source_of}
use Rattle.vg_source.specs.Session.{started, Failed}
use Rattle.vg_examples.specs.Writing.{at, row, param, outcome_of, cells_of}

-- Twenty objects, each with a field.
--   class Node { field next: Node; constructor(n: Node) { next = n; } }
--   component Main {
--     field first: Node;
--     constructor() { local i: int = 0; while (i < 20) { first = new Node(first); i = i + 1; } }
--     method main() { local n: Node = first; while (n != null) { n = n.next; } M.PORTB = 0x01; }
--   }
--   device M { register PINB = 0x36; register PORTB = 0x38; register INA = 0x39; }
--   program P { entry main = Main.main; }
abbrev pub node_list : Node
node_list = Text (at 0 1 1) (row (
    (ClassDecl (at 1 1 1) (codes "Node") None (row (
    (FieldDecl (at 2 1 14) (codes "next") (ClassType (codes "Node")) Nothing)
    ∷ (ConstructorDecl (at 3 1 32) (param (codes "n") (ClassType (codes "Node")) ∷ []) false Nothing
    (Block (at 4 1 53) (row ((Assign (at 5 1 55) (Name (at 6 1 55) (codes "next")) (Name (at 7 1 62) (codes "n"))) ∷ []))))
    ∷ [])))
    ∷ (ComponentDecl (at 8 2 1) (codes "Main") (row (
    (FieldDecl (at 9 3 3) (codes "first") (ClassType (codes "Node")) Nothing)
    ∷ (ConstructorDecl (at 10 4 3) [] false Nothing (Block (at 11 4 17) (row (
    (Local (at 12 4 19) (codes "i") IntType (Number (at 13 4 34) (codes "0")))
    ∷ (While (at 14 4 37) (Chain (at 15 4 44) (Name (at 16 4 44) (codes "i")) (row ((Part (at 17 4 46) kind.Less (Number (at 18 4 48) (codes "20"))) ∷ [])))
    (Block (at 19 4 52) (row (
    (Assign (at 20 4 54) (Name (at 21 4 54) (codes "first")) (NewObject (at 22 4 62) (codes "Node") (row ((Name (at 23 4 71) (codes "first")) ∷ []))))
    ∷ (Assign (at 24 4 79) (Name (at 25 4 79) (codes "i"))
    (Chain (at 26 4 83) (Name (at 27 4 83) (codes "i")) (row ((Part (at 28 4 85) kind.Plus (Number (at 29 4 87) (codes "1"))) ∷ []))))
    ∷ []))))
    ∷ []))))
    ∷ (MethodDecl (at 30 5 3) (codes "main") [] NoType (Block (at 31 5 17) (row (
    (Local (at 32 5 19) (codes "n") (ClassType (codes "Node")) (Name (at 33 5 35) (codes "first")))
    ∷ (While (at 34 5 42) (Chain (at 35 5 49) (Name (at 36 5 49) (codes "n")) (row ((Part (at 37 5 51) kind.NotEqual (Null (at 38 5 54))) ∷ [])))
    (Block (at 39 5 60) (row (
    (Assign (at 40 5 62) (Name (at 41 5 62) (codes "n"))
    (Postfix (at 42 5 66) (Name (at 43 5 66) (codes "n")) (row ((Member (at 44 5 67) (codes "next")) ∷ []))))
    ∷ []))))
    ∷ (Assign (at 45 5 76) (Postfix (at 46 5 76) (Name (at 47 5 76) (codes "M")) (row ((Member (at 48 5 77) (codes "PORTB")) ∷ [])))
    (Number (at 49 5 86) (codes "0x01")))
    ∷ []))))
    ∷ [])))
    ∷ (DeviceDecl (at 50 7 1) (codes "M") (row (
    (RegisterDecl (at 51 7 12) (codes "PINB") (codes "0x36"))
    ∷ (RegisterDecl (at 52 7 34) (codes "PORTB") (codes "0x38"))
    ∷ (RegisterDecl (at 53 7 57) (codes "INA") (codes "0x39"))
    ∷ [])))
    ∷ (ProgramDecl (at 54 8 1) (codes "P") (row ((EntryDecl (at 55 8 13) (codes "main") (codes "Main") (codes "main")) ∷ [])))
    ∷ []))

-- Each turn of the loop makes one cell.
node_list_cells : cells_of (started (source_of node_list) 1000) ≡ 20
node_list_cells = refl

-- One tick of the component, twenty turns and twenty constructions.
node_list_in_41 : cells_of (started (source_of node_list) 41) ≡ 20
node_list_in_41 = refl

node_list_in_40 : started (source_of node_list) 40 ≡ Failed (OutOfClock)
node_list_in_40 = refl

node_list_runs : outcome_of (source_of node_list) 1000 None [] [] 1000
    ≡ Some (record { trace = Write 0x38 0x01 ∷ []; ending = Idle })
node_list_runs = refl
