-- A delegate in an array.
use Rattle.std.specs.Prelude.{◌≡◌, refl, [], ◌∷◌, codes, Some, None, false}
use Rattle.vg_meaning.specs.declared.event.Event.TheVariants.{Write}
use Rattle.vg_meaning.specs.Ending.{Idle}
use Rattle.vg_syntax.specs.Tree.{ArrayType, Assign, Block, Call, ComponentDecl, ConstructorDecl, DeviceDecl, EntryDecl, Eval, FieldDecl, FunctionType}
use Rattle.vg_syntax.specs.Tree.{Index, Member, MethodDecl, Name, NewArray, NoType, Node, Nothing, Number, Postfix, ProgramDecl, RegisterDecl, Text}
use Rattle.vg_source.specs.Program.{source_of}
use Rattle.vg_examples.specs.Writing.{at, row, outcome_of}

-- A component method as a value.
--   component Main {
--     field acts: (function())[];
--     constructor() { acts = new (function())[1]; acts[0] = Main.hit; }
--     method hit() { M.PORTB = 0x07; }
--     method main() { acts[0](); }
--   }
--   device M { register PINB = 0x36; register PORTB = 0x38; register INA = 0x39; }
--   program P { entry main = Main.main; }
abbrev pub delegate : Node
delegate = Text (at 0 1 1) (row (
    (ComponentDecl (at 1 1 1) (codes "Main") (row (
    (FieldDecl (at 2 2 3) (codes "acts") (ArrayType (FunctionType NoType NoType)) Nothing)
    ∷ (ConstructorDecl (at 3 3 3) [] false Nothing (Block (at 4 3 17) (row (
    (Assign (at 5 3 19) (Name (at 6 3 19) (codes "acts")) (NewArray (at 7 3 26) (FunctionType NoType NoType) (Number (at 8 3 43) (codes "1"))))
    ∷ (Assign (at 9 3 47) (Postfix (at 10 3 47) (Name (at 11 3 47) (codes "acts")) (row ((Index (at 12 3 51) (Number (at 13 3 52) (codes "0"))) ∷ [])))
    (Postfix (at 14 3 57) (Name (at 15 3 57) (codes "Main")) (row ((Member (at 16 3 61) (codes "hit")) ∷ []))))
    ∷ []))))
    ∷ (MethodDecl (at 17 4 3) (codes "hit") [] NoType (Block (at 18 4 16) (row (
    (Assign (at 19 4 18) (Postfix (at 20 4 18) (Name (at 21 4 18) (codes "M")) (row ((Member (at 22 4 19) (codes "PORTB")) ∷ [])))
    (Number (at 23 4 28) (codes "0x07")))
    ∷ []))))
    ∷ (MethodDecl (at 24 5 3) (codes "main") [] NoType (Block (at 25 5 17) (row (
    (Eval (at 26 5 19) (Postfix (at 27 5 19) (Name (at 28 5 19) (codes "acts"))
    (row ((Index (at 29 5 23) (Number (at 30 5 24) (codes "0"))) ∷ (Call (at 31 5 26) Nothing) ∷ []))))
    ∷ []))))
    ∷ [])))
    ∷ (DeviceDecl (at 32 7 1) (codes "M") (row (
    (RegisterDecl (at 33 7 12) (codes "PINB") (codes "0x36"))
    ∷ (RegisterDecl (at 34 7 34) (codes "PORTB") (codes "0x38"))
    ∷ (RegisterDecl (at 35 7 57) (codes "INA") (codes "0x39"))
    ∷ [])))
    ∷ (ProgramDecl (at 36 8 1) (codes "P") (row ((EntryDecl (at 37 8 13) (codes "main") (codes "Main") (codes "main")) ∷ [])))
    ∷ []))

delegate_runs : outcome_of (source_of delegate) 1000 None [] [] 1000
    ≡ Some (record { trace = Write 0x38 0x07 ∷ []; ending = Idle })
delegate_runs = refl
