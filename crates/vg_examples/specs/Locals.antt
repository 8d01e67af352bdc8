-- The numbers of locals: each has one of its own, in order of the text, also where another block has its name.
use Rattle.std.specs.Prelude.{◌≡◌, refl, [], ◌∷◌, codes, option_map, Some, None, pos}
use Rattle.vg_meaning.specs.declared.event.Event.TheVariants.{Write}
use Rattle.vg_meaning.specs.Ending.{Idle}
use Rattle.vg_syntax.specs.declared.kind.Kind.TheVariants as kind
use Rattle.vg_syntax.specs.Tree.{Arm, Assign, Block, Call, Chain, ComponentDecl, DeviceDecl, EntryDecl, If, IntType, Local, Member, MethodDecl, Name}
use Rattle.vg_syntax.specs.Tree.{NoType, Node, Nothing, Number, Part, Postfix, ProgramDecl, RawType, RegisterDecl, Return, Text, TypePart}
use Rattle.vg_source.specs.Values.{Int}
use Rattle.vg_source.specs.Steps.{Method}
use Rattle.vg_source.specs.State.{find_routine}
use Rattle.vg_source.specs.Program.{source_of}
use Rattle.vg_examples.specs.Writing.{at, row, param, outcome_of}

-- f(0) is 1; f(1) is 2 + 10 + 100, and f(2) is 2 + 112 + 10 + 100.
--   component Main {
--     method f(n: int): int {
--       local k: int = n;
--       if (n == 0) { local a: int = 1; return a; } else if (n == 1) { local a: int = 2; local b: int; k = a + b; } else { local a: int =
-- f(n - 1); k = k + a; }
--       { local a: int = 10; k = k + a; } local a: int = 100; return k + a;
--     }
--     method main() { M.PORTB = f(0) :: raw.8; M.PORTB = f(2) :: raw.8; }
--   }
--   device M { register PINB = 0x36; register PORTB = 0x38; register INA = 0x39; }
--   program P { entry main = Main.main; }
abbrev pub locals : Node
locals = Text (at 0 1 1) (row (
    (ComponentDecl (at 1 1 1) (codes "Main") (row (
    (MethodDecl (at 2 2 3) (codes "f") (param (codes "n") IntType ∷ []) IntType (Block (at 3 2 25) (row (
    (Local (at 4 3 5) (codes "k") IntType (Name (at 5 3 20) (codes "n")))
    ∷ (If (at 6 4 5) (Arm (Chain (at 7 4 9) (Name (at 8 4 9) (codes "n")) (row ((Part (at 9 4 11) kind.EqualEqual (Number (at 10 4 14) (codes "0"))) ∷ [])))
    (Block (at 11 4 17) (row (
    (Local (at 12 4 19) (codes "a") IntType (Number (at 13 4 34) (codes "1")))
    ∷ (Return (at 14 4 37) (Name (at 15 4 44) (codes "a")))
    ∷ []))) (Arm (Chain (at 16 4 58) (Name (at 17 4 58) (codes "n")) (row
    ((Part (at 18 4 60) kind.EqualEqual (Number (at 19 4 63) (codes "1"))) ∷ []))) (Block (at 20 4 66) (row (
    (Local (at 21 4 68) (codes "a") IntType (Number (at 22 4 83) (codes "2")))
    ∷ (Local (at 23 4 86) (codes "b") IntType Nothing)
    ∷ (Assign (at 24 4 100) (Name (at 25 4 100) (codes "k"))
    (Chain (at 26 4 104) (Name (at 27 4 104) (codes "a")) (row ((Part (at 28 4 106) kind.Plus (Name (at 29 4 108) (codes "b"))) ∷ []))))
    ∷ []))) Nothing)) (Block (at 30 4 118) (row (
    (Local (at 31 4 120) (codes "a") IntType (Postfix (at 32 4 135) (Name (at 33 4 135) (codes "f")) (row (
    (Call (at 34 4 136) (row (
    (Chain (at 35 4 137) (Name (at 36 4 137) (codes "n")) (row ((Part (at 37 4 139) kind.Minus (Number (at 38 4 141) (codes "1"))) ∷ [])))
    ∷ [])))
    ∷ []))))
    ∷ (Assign (at 39 4 145) (Name (at 40 4 145) (codes "k"))
    (Chain (at 41 4 149) (Name (at 42 4 149) (codes "k")) (row ((Part (at 43 4 151) kind.Plus (Name (at 44 4 153) (codes "a"))) ∷ []))))
    ∷ []))))
    ∷ (Block (at 45 5 5) (row (
    (Local (at 46 5 7) (codes "a") IntType (Number (at 47 5 22) (codes "10")))
    ∷ (Assign (at 48 5 26) (Name (at 49 5 26) (codes "k"))
    (Chain (at 50 5 30) (Name (at 51 5 30) (codes "k")) (row ((Part (at 52 5 32) kind.Plus (Name (at 53 5 34) (codes "a"))) ∷ []))))
    ∷ [])))
    ∷ (Local (at 54 5 39) (codes "a") IntType (Number (at 55 5 54) (codes "100")))
    ∷ (Return (at 56 5 59) (Chain (at 57 5 66) (Name (at 58 5 66) (codes "k")) (row ((Part (at 59 5 68) kind.Plus (Name (at 60 5 70) (codes "a"))) ∷ []))))
    ∷ []))))
    ∷ (MethodDecl (at 61 7 3) (codes "main") [] NoType (Block (at 62 7 17) (row (
    (Assign (at 63 7 19) (Postfix (at 64 7 19) (Name (at 65 7 19) (codes "M")) (row ((Member (at 66 7 20) (codes "PORTB")) ∷ [])))
    (Chain (at 67 7 29) (Postfix (at 68 7 29) (Name (at 69 7 29) (codes "f")) (row ((Call (at 70 7 30) (row ((Number (at 71 7 31) (codes "0")) ∷ []))) ∷ [])))
    (row ((TypePart (at 72 7 34) kind.Cast (RawType (codes "8"))) ∷ []))))
    ∷ (Assign (at 73 7 44) (Postfix (at 74 7 44) (Name (at 75 7 44) (codes "M")) (row ((Member (at 76 7 45) (codes "PORTB")) ∷ [])))
    (Chain (at 77 7 54) (Postfix (at 78 7 54) (Name (at 79 7 54) (codes "f")) (row ((Call (at 80 7 55) (row ((Number (at 81 7 56) (codes "2")) ∷ []))) ∷ [])))
    (row ((TypePart (at 82 7 59) kind.Cast (RawType (codes "8"))) ∷ []))))
    ∷ []))))
    ∷ [])))
    ∷ (DeviceDecl (at 83 9 1) (codes "M") (row (
    (RegisterDecl (at 84 9 12) (codes "PINB") (codes "0x36"))
    ∷ (RegisterDecl (at 85 9 34) (codes "PORTB") (codes "0x38"))
    ∷ (RegisterDecl (at 86 9 57) (codes "INA") (codes "0x39"))
    ∷ [])))
    ∷ (ProgramDecl (at 87 10 1) (codes "P") (row ((EntryDecl (at 88 10 13) (codes "main") (codes "Main") (codes "main")) ∷ [])))
    ∷ []))

locals_run : outcome_of (source_of locals) 1000 None [] [] 1000
    ≡ Some (record { trace = Write 0x38 0x01 ∷ Write 0x38 0xe0 ∷ []; ending = Idle })
locals_run = refl

-- Behind its parameter f has seven locals: k, one in the first block, two in the second, one in the third, one in the fourth, and the last.
locals_of_f : option_map (λ r. r.others) (find_routine (source_of locals).routines (Method (codes "Main") (codes "f")))
    ≡ Some (Int (pos 0) ∷ Int (pos 0) ∷ Int (pos 0) ∷ Int (pos 0) ∷ Int (pos 0) ∷ Int (pos 0) ∷ Int (pos 0) ∷ [])
locals_of_f = refl
