-- What a name stands for.
use Rattle.std.specs.Prelude.{◌≡◌, refl, [], ◌∷◌, codes, Some, None}
use Rattle.vg_meaning.specs.declared.event.Event.TheVariants.{Write}
use Rattle.vg_meaning.specs.Ending.{Idle}
use Rattle.vg_syntax.specs.declared.kind.Kind.TheVariants as kind
use Rattle.vg_syntax.specs.Tree.{Assign, Block, Chain, ComponentDecl, DeviceDecl, EntryDecl, FieldDecl, IntType, Local, Member, MethodDecl, Name, NoType}
use Rattle.vg_syntax.specs.Tree.{Node, Nothing, Number, Part, Postfix, ProgramDecl, RawType, RegisterDecl, Text, TypePart, While}
use Rattle.vg_source.specs.Program.{source_of}
use Rattle.vg_examples.specs.Writing.{at, row, outcome_of}

-- An initialiser names a field of its own component by the component; a local hides a member from behind its statement on.
--   component Main {
--     field x: int = 7;
--     field y: int = Main.x + 1;
--     method main() {
--       local x: int = x; x = x + 2; M.PORTB = x :: raw.8; M.PORTB = Main.x :: raw.8; M.PORTB = y :: raw.8;
--     }
--   }
--   device M { register PINB = 0x36; register PORTB = 0x38; register INA = 0x39; }
--   program P { entry main = Main.main; }
abbrev pub scopes : Node
scopes = Text (at 0 1 1) (row (
    (ComponentDecl (at 1 1 1) (codes "Main") (row (
    (FieldDecl (at 2 2 3) (codes "x") IntType (Number (at 3 2 18) (codes "7")))
    ∷ (FieldDecl (at 4 3 3) (codes "y") IntType
    (Chain (at 5 3 18) (Postfix (at 6 3 18) (Name (at 7 3 18) (codes "Main")) (row ((Member (at 8 3 22) (codes "x")) ∷ [])))
    (row ((Part (at 9 3 25) kind.Plus (Number (at 10 3 27) (codes "1"))) ∷ []))))
    ∷ (MethodDecl (at 11 4 3) (codes "main") [] NoType (Block (at 12 4 17) (row (
    (Local (at 13 5 5) (codes "x") IntType (Name (at 14 5 20) (codes "x")))
    ∷ (Assign (at 15 5 23) (Name (at 16 5 23) (codes "x"))
    (Chain (at 17 5 27) (Name (at 18 5 27) (codes "x")) (row ((Part (at 19 5 29) kind.Plus (Number (at 20 5 31) (codes "2"))) ∷ []))))
    ∷ (Assign (at 21 5 34) (Postfix (at 22 5 34) (Name (at 23 5 34) (codes "M")) (row ((Member (at 24 5 35) (codes "PORTB")) ∷ [])))
    (Chain (at 25 5 44) (Name (at 26 5 44) (codes "x")) (row ((TypePart (at 27 5 46) kind.Cast (RawType (codes "8"))) ∷ []))))
    ∷ (Assign (at 28 5 56) (Postfix (at 29 5 56) (Name (at 30 5 56) (codes "M")) (row ((Member (at 31 5 57) (codes "PORTB")) ∷ [])))
    (Chain (at 32 5 66) (Postfix (at 33 5 66) (Name (at 34 5 66) (codes "Main")) (row ((Member (at 35 5 70) (codes "x")) ∷ [])))
    (row ((TypePart (at 36 5 73) kind.Cast (RawType (codes "8"))) ∷ []))))
    ∷ (Assign (at 37 5 83) (Postfix (at 38 5 83) (Name (at 39 5 83) (codes "M")) (row ((Member (at 40 5 84) (codes "PORTB")) ∷ [])))
    (Chain (at 41 5 93) (Name (at 42 5 93) (codes "y")) (row ((TypePart (at 43 5 95) kind.Cast (RawType (codes "8"))) ∷ []))))
    ∷ []))))
    ∷ [])))
    ∷ (DeviceDecl (at 44 8 1) (codes "M") (row (
    (RegisterDecl (at 45 8 12) (codes "PINB") (codes "0x36"))
    ∷ (RegisterDecl (at 46 8 34) (codes "PORTB") (codes "0x38"))
    ∷ (RegisterDecl (at 47 8 57) (codes "INA") (codes "0x39"))
    ∷ [])))
    ∷ (ProgramDecl (at 48 9 1) (codes "P") (row ((EntryDecl (at 49 9 13) (codes "main") (codes "Main") (codes "main")) ∷ [])))
    ∷ []))

-- A local without a value is the default each time that it is reached.
--   component Main {
--     method main() {
--       local i: int = 0;
--       while (i < 2) { local x: int; x = x + 1; M.PORTB = x :: raw.8; i = i + 1; }
--       { local x: int = 5; M.PORTB = x :: raw.8; }
--     }
--   }
--   device M { register PINB = 0x36; register PORTB = 0x38; register INA = 0x39; }
--   program P { entry main = Main.main; }
abbrev pub blocks : Node
blocks = Text (at 0 1 1) (row (
    (ComponentDecl (at 1 1 1) (codes "Main") (row (
    (MethodDecl (at 2 2 3) (codes "main") [] NoType (Block (at 3 2 17) (row (
    (Local (at 4 3 5) (codes "i") IntType (Number (at 5 3 20) (codes "0")))
    ∷ (While (at 6 4 5) (Chain (at 7 4 12) (Name (at 8 4 12) (codes "i")) (row ((Part (at 9 4 14) kind.Less (Number (at 10 4 16) (codes "2"))) ∷ [])))
    (Block (at 11 4 19) (row (
    (Local (at 12 4 21) (codes "x") IntType Nothing)
    ∷ (Assign (at 13 4 35) (Name (at 14 4 35) (codes "x"))
    (Chain (at 15 4 39) (Name (at 16 4 39) (codes "x")) (row ((Part (at 17 4 41) kind.Plus (Number (at 18 4 43) (codes "1"))) ∷ []))))
    ∷ (Assign (at 19 4 46) (Postfix (at 20 4 46) (Name (at 21 4 46) (codes "M")) (row ((Member (at 22 4 47) (codes "PORTB")) ∷ [])))
    (Chain (at 23 4 56) (Name (at 24 4 56) (codes "x")) (row ((TypePart (at 25 4 58) kind.Cast (RawType (codes "8"))) ∷ []))))
    ∷ (Assign (at 26 4 68) (Name (at 27 4 68) (codes "i"))
    (Chain (at 28 4 72) (Name (at 29 4 72) (codes "i")) (row ((Part (at 30 4 74) kind.Plus (Number (at 31 4 76) (codes "1"))) ∷ []))))
    ∷ []))))
    ∷ (Block (at 32 5 5) (row (
    (Local (at 33 5 7) (codes "x") IntType (Number (at 34 5 22) (codes "5")))
    ∷ (Assign (at 35 5 25) (Postfix (at 36 5 25) (Name (at 37 5 25) (codes "M")) (row ((Member (at 38 5 26) (codes "PORTB")) ∷ [])))
    (Chain (at 39 5 35) (Name (at 40 5 35) (codes "x")) (row ((TypePart (at 41 5 37) kind.Cast (RawType (codes "8"))) ∷ []))))
    ∷ [])))
    ∷ []))))
    ∷ [])))
    ∷ (DeviceDecl (at 42 8 1) (codes "M") (row (
    (RegisterDecl (at 43 8 12) (codes "PINB") (codes "0x36"))
    ∷ (RegisterDecl (at 44 8 34) (codes "PORTB") (codes "0x38"))
    ∷ (RegisterDecl (at 45 8 57) (codes "INA") (codes "0x39"))
    ∷ [])))
    ∷ (ProgramDecl (at 46 9 1) (codes "P") (row ((EntryDecl (at 47 9 13) (codes "main") (codes "Main") (codes "main")) ∷ [])))
    ∷ []))

scopes_run : outcome_of (source_of scopes) 1000 None [] [] 1000
    ≡ Some (record { trace = Write 0x38 0x09 ∷ Write 0x38 0x07 ∷ Write 0x38 0x08 ∷ []; ending = Idle })
scopes_run = refl

blocks_run : outcome_of (source_of blocks) 1000 None [] [] 1000
    ≡ Some (record { trace = Write 0x38 0x01 ∷ Write 0x38 0x01 ∷ Write 0x38 0x05 ∷ []; ending = Idle })
blocks_run = refl
