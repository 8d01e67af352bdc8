-- Loops, conditions and calls.
use Rattle.std.specs.Prelude.{◌≡◌, refl, [], ◌∷◌, codes, Some, None, false}
use Rattle.vg_meaning.specs.declared.event.Event.TheVariants.{Read, Write}
use Rattle.vg_meaning.specs.Ending.{Idle, Stop}
use Rattle.vg_syntax.specs.declared.kind.Kind.TheVariants as kind
use Rattle.vg_syntax.specs.Tree.{Arm, ArrayType, Assign, Block, Break, Call, Chain, ClassDecl, ComponentDecl, ConstructorDecl, Continue, DeviceDecl}
use Rattle.vg_syntax.specs.Tree.{EntryDecl, Eval, False, FieldDecl, For, If, Index, IntType, Local, Member, MethodDecl, Name, NewObject, NoType, Node}
use Rattle.vg_syntax.specs.Tree.{Nothing, Number, Part, Postfix, ProgramDecl, RawType, RegisterDecl, Return, Text, True, TypePart}
use Rattle.vg_source.specs.Program.{source_of}
use Rattle.vg_examples.specs.Writing.{at, row, param, outcome_of}

-- `continue` goes to the last part of a `for`; the right side of `&&` and `||` is done only where it is needed; an end without return gives the default.
--   component Main {
--     method none(): int { }
--     method pick(n: int): raw.8 { if (n == 0) { return 0x10; } else if (n == 1) { return 0x11; } else { return 0x12; } }
--     method main() {
--       local i: int;
--       for (i = 0; i < 5; i = i + 1) { if (i == 1) { continue; } if (i == 3) { break; } M.PORTB = i :: raw.8; }
--       if (false && M.PINB == 0x00 || true || M.PINB == 0x00) { M.PORTB = none() :: raw.8; } M.PORTB = pick(0);
--       M.PORTB = pick(1); M.PORTB = pick(2);
--     }
--   }
--   device M { register PINB = 0x36; register PORTB = 0x38; register INA = 0x39; }
--   program P { entry main = Main.main; }
abbrev pub control : Node
control = Text (at 0 1 1) (row (
    (ComponentDecl (at 1 1 1) (codes "Main") (row (
    (MethodDecl (at 2 2 3) (codes "none") [] IntType (Block (at 3 2 22) Nothing))
    ∷ (MethodDecl (at 4 3 3) (codes "pick") (param (codes "n") IntType ∷ []) (RawType (codes "8")) (Block (at 5 3 30) (row (
    (If (at 6 3 32) (Arm (Chain (at 7 3 36) (Name (at 8 3 36) (codes "n")) (row ((Part (at 9 3 38) kind.EqualEqual (Number (at 10 3 41) (codes "0"))) ∷ [])))
    (Block (at 11 3 44) (row ((Return (at 12 3 46) (Number (at 13 3 53) (codes "0x10"))) ∷ [])))
    (Arm (Chain (at 14 3 70) (Name (at 15 3 70) (codes "n")) (row ((Part (at 16 3 72) kind.EqualEqual (Number (at 17 3 75) (codes "1"))) ∷ [])))
    (Block (at 18 3 78) (row ((Return (at 19 3 80) (Number (at 20 3 87) (codes "0x11"))) ∷ []))) Nothing)) (Block (at 21 3 100) (row
    ((Return (at 22 3 102) (Number (at 23 3 109) (codes "0x12"))) ∷ []))))
    ∷ []))))
    ∷ (MethodDecl (at 24 4 3) (codes "main") [] NoType (Block (at 25 4 17) (row (
    (Local (at 26 5 5) (codes "i") IntType Nothing)
    ∷ (For (at 27 6 5) (Assign (at 28 6 10) (Name (at 29 6 10) (codes "i")) (Number (at 30 6 14) (codes "0")))
    (Chain (at 31 6 17) (Name (at 32 6 17) (codes "i")) (row ((Part (at 33 6 19) kind.Less (Number (at 34 6 21) (codes "5"))) ∷ [])))
    (Assign (at 35 6 24) (Name (at 36 6 24) (codes "i"))
    (Chain (at 37 6 28) (Name (at 38 6 28) (codes "i")) (row ((Part (at 39 6 30) kind.Plus (Number (at 40 6 32) (codes "1"))) ∷ [])))) (Block (at 41 6 35)
    (row (
    (If (at 42 6 37) (Arm (Chain (at 43 6 41) (Name (at 44 6 41) (codes "i"))
    (row ((Part (at 45 6 43) kind.EqualEqual (Number (at 46 6 46) (codes "1"))) ∷ []))) (Block (at 47 6 49)
    (row ((Continue (at 48 6 51)) ∷ []))) Nothing) Nothing)
    ∷ (If (at 49 6 63) (Arm (Chain (at 50 6 67) (Name (at 51 6 67) (codes "i"))
    (row ((Part (at 52 6 69) kind.EqualEqual (Number (at 53 6 72) (codes "3"))) ∷ []))) (Block (at 54 6 75) (row ((Break (at 55 6 77)) ∷ []))) Nothing) Nothing)
    ∷ (Assign (at 56 6 86) (Postfix (at 57 6 86) (Name (at 58 6 86) (codes "M")) (row ((Member (at 59 6 87) (codes "PORTB")) ∷ [])))
    (Chain (at 60 6 96) (Name (at 61 6 96) (codes "i")) (row ((TypePart (at 62 6 98) kind.Cast (RawType (codes "8"))) ∷ []))))
    ∷ []))))
    ∷ (If (at 63 7 5) (Arm (Chain (at 64 7 9) (Chain (at 65 7 9) (False (at 66 7 9)) (row (
    (Part (at 67 7 15) kind.AndAnd (Chain (at 68 7 18)
    (Postfix (at 69 7 18) (Name (at 70 7 18) (codes "M")) (row ((Member (at 71 7 19) (codes "PINB")) ∷ [])))
    (row ((Part (at 72 7 25) kind.EqualEqual (Number (at 73 7 28) (codes "0x00"))) ∷ []))))
    ∷ []))) (row (
    (Part (at 74 7 33) kind.OrOr (True (at 75 7 36)))
    ∷ (Part (at 76 7 41) kind.OrOr (Chain (at 77 7 44)
    (Postfix (at 78 7 44) (Name (at 79 7 44) (codes "M")) (row ((Member (at 80 7 45) (codes "PINB")) ∷ [])))
    (row ((Part (at 81 7 51) kind.EqualEqual (Number (at 82 7 54) (codes "0x00"))) ∷ []))))
    ∷ []))) (Block (at 83 7 60) (row (
    (Assign (at 84 7 62) (Postfix (at 85 7 62) (Name (at 86 7 62) (codes "M")) (row ((Member (at 87 7 63) (codes "PORTB")) ∷ [])))
    (Chain (at 88 7 72) (Postfix (at 89 7 72) (Name (at 90 7 72) (codes "none")) (row ((Call (at 91 7 76) Nothing) ∷ [])))
    (row ((TypePart (at 92 7 79) kind.Cast (RawType (codes "8"))) ∷ []))))
    ∷ []))) Nothing) Nothing)
    ∷ (Assign (at 93 7 91) (Postfix (at 94 7 91) (Name (at 95 7 91) (codes "M")) (row ((Member (at 96 7 92) (codes "PORTB")) ∷ [])))
    (Postfix (at 97 7 101) (Name (at 98 7 101) (codes "pick")) (row ((Call (at 99 7 105) (row ((Number (at 100 7 106) (codes "0")) ∷ []))) ∷ []))))
    ∷ (Assign (at 101 8 5) (Postfix (at 102 8 5) (Name (at 103 8 5) (codes "M")) (row ((Member (at 104 8 6) (codes "PORTB")) ∷ [])))
    (Postfix (at 105 8 15) (Name (at 106 8 15) (codes "pick")) (row ((Call (at 107 8 19) (row ((Number (at 108 8 20) (codes "1")) ∷ []))) ∷ []))))
    ∷ (Assign (at 109 8 24) (Postfix (at 110 8 24) (Name (at 111 8 24) (codes "M")) (row ((Member (at 112 8 25) (codes "PORTB")) ∷ [])))
    (Postfix (at 113 8 34) (Name (at 114 8 34) (codes "pick")) (row ((Call (at 115 8 38) (row ((Number (at 116 8 39) (codes "2")) ∷ []))) ∷ []))))
    ∷ []))))
    ∷ [])))
    ∷ (DeviceDecl (at 117 11 1) (codes "M") (row (
    (RegisterDecl (at 118 11 12) (codes "PINB") (codes "0x36"))
    ∷ (RegisterDecl (at 119 11 34) (codes "PORTB") (codes "0x38"))
    ∷ (RegisterDecl (at 120 11 57) (codes "INA") (codes "0x39"))
    ∷ [])))
    ∷ (ProgramDecl (at 121 12 1) (codes "P") (row ((EntryDecl (at 122 12 13) (codes "main") (codes "Main") (codes "main")) ∷ [])))
    ∷ []))

-- A `new` behind initialisation stops behind its arguments.
--   class A { constructor(v: raw.8) { } }
--   component Main { method main() { new A(M.PINB); } }
--   device M { register PINB = 0x36; register PORTB = 0x38; register INA = 0x39; }
--   program P { entry main = Main.main; }
abbrev pub late_new : Node
late_new = Text (at 0 1 1) (row (
    (ClassDecl (at 1 1 1) (codes "A") None (row (
    (ConstructorDecl (at 2 1 11) (param (codes "v") (RawType (codes "8")) ∷ []) false Nothing (Block (at 3 1 33) Nothing))
    ∷ [])))
    ∷ (ComponentDecl (at 4 2 1) (codes "Main") (row (
    (MethodDecl (at 5 2 18) (codes "main") [] NoType (Block (at 6 2 32) (row (
    (Eval (at 7 2 34) (NewObject (at 8 2 34) (codes "A") (row (
    (Postfix (at 9 2 40) (Name (at 10 2 40) (codes "M")) (row ((Member (at 11 2 41) (codes "PINB")) ∷ [])))
    ∷ []))))
    ∷ []))))
    ∷ [])))
    ∷ (DeviceDecl (at 12 3 1) (codes "M") (row (
    (RegisterDecl (at 13 3 12) (codes "PINB") (codes "0x36"))
    ∷ (RegisterDecl (at 14 3 34) (codes "PORTB") (codes "0x38"))
    ∷ (RegisterDecl (at 15 3 57) (codes "INA") (codes "0x39"))
    ∷ [])))
    ∷ (ProgramDecl (at 16 4 1) (codes "P") (row ((EntryDecl (at 17 4 13) (codes "main") (codes "Main") (codes "main")) ∷ [])))
    ∷ []))

-- The checks of a target come behind the right side.
--   component Main { field b: raw.8[]; method main() { b[0] = M.PINB; } }
--   device M { register PINB = 0x36; register PORTB = 0x38; register INA = 0x39; }
--   program P { entry main = Main.main; }
abbrev pub late_check : Node
late_check = Text (at 0 1 1) (row (
    (ComponentDecl (at 1 1 1) (codes "Main") (row (
    (FieldDecl (at 2 1 18) (codes "b") (ArrayType (RawType (codes "8"))) Nothing)
    ∷ (MethodDecl (at 3 1 36) (codes "main") [] NoType (Block (at 4 1 50) (row (
    (Assign (at 5 1 52) (Postfix (at 6 1 52) (Name (at 7 1 52) (codes "b")) (row ((Index (at 8 1 53) (Number (at 9 1 54) (codes "0"))) ∷ [])))
    (Postfix (at 10 1 59) (Name (at 11 1 59) (codes "M")) (row ((Member (at 12 1 60) (codes "PINB")) ∷ []))))
    ∷ []))))
    ∷ [])))
    ∷ (DeviceDecl (at 13 2 1) (codes "M") (row (
    (RegisterDecl (at 14 2 12) (codes "PINB") (codes "0x36"))
    ∷ (RegisterDecl (at 15 2 34) (codes "PORTB") (codes "0x38"))
    ∷ (RegisterDecl (at 16 2 57) (codes "INA") (codes "0x39"))
    ∷ [])))
    ∷ (ProgramDecl (at 17 3 1) (codes "P") (row ((EntryDecl (at 18 3 13) (codes "main") (codes "Main") (codes "main")) ∷ [])))
    ∷ []))

control_runs : outcome_of (source_of control) 1000 None [] [] 1000
    ≡ Some (record { trace = Write 0x38 0x00 ∷ Write 0x38 0x02 ∷ Write 0x38 0x00 ∷ Write 0x38 0x10 ∷ Write 0x38 0x11 ∷ Write 0x38 0x12 ∷ []; ending = Idle })
control_runs = refl

late_new_runs : outcome_of (source_of late_new) 1000 None (4 ∷ []) [] 1000
    ≡ Some (record { trace = Read 0x36 0x04 ∷ []; ending = Stop 5 })
late_new_runs = refl

late_check_runs : outcome_of (source_of late_check) 1000 None (4 ∷ []) [] 1000
    ≡ Some (record { trace = Read 0x36 0x04 ∷ []; ending = Stop 1 })
late_check_runs = refl
