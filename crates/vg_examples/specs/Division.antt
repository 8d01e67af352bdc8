-- Division is toward zero, and the remainder has the sign of the dividend.
use Rattle.std.specs.Prelude.{◌≡◌, refl, [], ◌∷◌, codes, Some, None}
use Rattle.vg_meaning.specs.declared.event.Event.TheVariants.{Write}
use Rattle.vg_meaning.specs.Ending.{Idle}
use Rattle.vg_syntax.specs.declared.kind.Kind.TheVariants as kind
use Rattle.vg_syntax.specs.Tree.{Arm, Assign, Block, Chain, ComponentDecl, DeviceDecl, EntryDecl, If, Member, MethodDecl, Name, NoType, Node, Nothing}
use Rattle.vg_syntax.specs.Tree.{Number, Part, Postfix, ProgramDecl, RegisterDecl, Text, Unary}
use Rattle.vg_source.specs.Program.{source_of}
use Rattle.vg_examples.specs.Writing.{at, row, outcome_of}

-- Each condition holds.
--   component Main {
--     method main() {
--       if (-7 / 2 == -3 && -7 % 2 == -1) { M.PORTB = 0x01; }
--       if (7 / -2 == -3 && 7 % -2 == 1) { M.PORTB = 0x02; }
--       if (-2147483648 / -1 == -2147483648 && -2147483648 % -1 == 0) { M.PORTB = 0x03; }
--       if (2147483647 + 1 == -2147483648) { M.PORTB = 0x04; }
--     }
--   }
--   device M { register PINB = 0x36; register PORTB = 0x38; register INA = 0x39; }
--   program P { entry main = Main.main; }
abbrev pub division : Node
division = Text (at 0 1 1) (row (
    (ComponentDecl (at 1 1 1) (codes "Main") (row (
    (MethodDecl (at 2 2 3) (codes "main") [] NoType (Block (at 3 2 17) (row (
    (If (at 4 3 5) (Arm (Chain (at 5 3 9)
    (Chain (at 6 3 9) (Chain (at 7 3 9) (Unary (at 8 3 9) (kind.Minus ∷ []) (Number (at 9 3 10) (codes "7")))
    (row ((Part (at 10 3 12) kind.Slash (Number (at 11 3 14) (codes "2"))) ∷ []))) (row (
    (Part (at 12 3 16) kind.EqualEqual (Unary (at 13 3 19) (kind.Minus ∷ []) (Number (at 14 3 20) (codes "3"))))
    ∷ []))) (row (
    (Part (at 15 3 22) kind.AndAnd (Chain (at 16 3 25)
    (Chain (at 17 3 25) (Unary (at 18 3 25) (kind.Minus ∷ []) (Number (at 19 3 26) (codes "7")))
    (row ((Part (at 20 3 28) kind.Percent (Number (at 21 3 30) (codes "2"))) ∷ []))) (row (
    (Part (at 22 3 32) kind.EqualEqual (Unary (at 23 3 35) (kind.Minus ∷ []) (Number (at 24 3 36) (codes "1"))))
    ∷ []))))
    ∷ []))) (Block (at 25 3 39) (row (
    (Assign (at 26 3 41) (Postfix (at 27 3 41) (Name (at 28 3 41) (codes "M")) (row ((Member (at 29 3 42) (codes "PORTB")) ∷ [])))
    (Number (at 30 3 51) (codes "0x01")))
    ∷ []))) Nothing) Nothing)
    ∷ (If (at 31 4 5) (Arm (Chain (at 32 4 9) (Chain (at 33 4 9) (Chain (at 34 4 9) (Number (at 35 4 9) (codes "7")) (row (
    (Part (at 36 4 11) kind.Slash (Unary (at 37 4 13) (kind.Minus ∷ []) (Number (at 38 4 14) (codes "2"))))
    ∷ []))) (row (
    (Part (at 39 4 16) kind.EqualEqual (Unary (at 40 4 19) (kind.Minus ∷ []) (Number (at 41 4 20) (codes "3"))))
    ∷ []))) (row (
    (Part (at 42 4 22) kind.AndAnd (Chain (at 43 4 25) (Chain (at 44 4 25) (Number (at 45 4 25) (codes "7")) (row (
    (Part (at 46 4 27) kind.Percent (Unary (at 47 4 29) (kind.Minus ∷ []) (Number (at 48 4 30) (codes "2"))))
    ∷ []))) (row ((Part (at 49 4 32) kind.EqualEqual (Number (at 50 4 35) (codes "1"))) ∷ []))))
    ∷ []))) (Block (at 51 4 38) (row (
    (Assign (at 52 4 40) (Postfix (at 53 4 40) (Name (at 54 4 40) (codes "M")) (row ((Member (at 55 4 41) (codes "PORTB")) ∷ [])))
    (Number (at 56 4 50) (codes "0x02")))
    ∷ []))) Nothing) Nothing)
    ∷ (If (at 57 5 5) (Arm (Chain (at 58 5 9)
    (Chain (at 59 5 9) (Chain (at 60 5 9) (Unary (at 61 5 9) (kind.Minus ∷ []) (Number (at 62 5 10) (codes "2147483648"))) (row (
    (Part (at 63 5 21) kind.Slash (Unary (at 64 5 23) (kind.Minus ∷ []) (Number (at 65 5 24) (codes "1"))))
    ∷ []))) (row (
    (Part (at 66 5 26) kind.EqualEqual (Unary (at 67 5 29) (kind.Minus ∷ []) (Number (at 68 5 30) (codes "2147483648"))))
    ∷ []))) (row (
    (Part (at 69 5 41) kind.AndAnd (Chain (at 70 5 44)
    (Chain (at 71 5 44) (Unary (at 72 5 44) (kind.Minus ∷ []) (Number (at 73 5 45) (codes "2147483648"))) (row (
    (Part (at 74 5 56) kind.Percent (Unary (at 75 5 58) (kind.Minus ∷ []) (Number (at 76 5 59) (codes "1"))))
    ∷ []))) (row ((Part (at 77 5 61) kind.EqualEqual (Number (at 78 5 64) (codes "0"))) ∷ []))))
    ∷ []))) (Block (at 79 5 67) (row (
    (Assign (at 80 5 69) (Postfix (at 81 5 69) (Name (at 82 5 69) (codes "M")) (row ((Member (at 83 5 70) (codes "PORTB")) ∷ [])))
    (Number (at 84 5 79) (codes "0x03")))
    ∷ []))) Nothing) Nothing)
    ∷ (If (at 85 6 5) (Arm (Chain (at 86 6 9)
    (Chain (at 87 6 9) (Number (at 88 6 9) (codes "2147483647")) (row ((Part (at 89 6 20) kind.Plus (Number (at 90 6 22) (codes "1"))) ∷ []))) (row (
    (Part (at 91 6 24) kind.EqualEqual (Unary (at 92 6 27) (kind.Minus ∷ []) (Number (at 93 6 28) (codes "2147483648"))))
    ∷ []))) (Block (at 94 6 40) (row (
    (Assign (at 95 6 42) (Postfix (at 96 6 42) (Name (at 97 6 42) (codes "M")) (row ((Member (at 98 6 43) (codes "PORTB")) ∷ [])))
    (Number (at 99 6 52) (codes "0x04")))
    ∷ []))) Nothing) Nothing)
    ∷ []))))
    ∷ [])))
    ∷ (DeviceDecl (at 100 9 1) (codes "M") (row (
    (RegisterDecl (at 101 9 12) (codes "PINB") (codes "0x36"))
    ∷ (RegisterDecl (at 102 9 34) (codes "PORTB") (codes "0x38"))
    ∷ (RegisterDecl (at 103 9 57) (codes "INA") (codes "0x39"))
    ∷ [])))
    ∷ (ProgramDecl (at 104 10 1) (codes "P") (row ((EntryDecl (at 105 10 13) (codes "main") (codes "Main") (codes "main")) ∷ [])))
    ∷ []))

division_runs : outcome_of (source_of division) 1000 None [] [] 1000
    ≡ Some (record { trace = Write 0x38 0x01 ∷ Write 0x38 0x02 ∷ Write 0x38 0x03 ∷ Write 0x38 0x04 ∷ []; ending = Idle })
division_runs = refl
