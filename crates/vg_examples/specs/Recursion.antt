-- Recursion, the peak of its calls, and a limit on them.
use Rattle.std.specs.Prelude.{◌≡◌, refl, [], ◌∷◌, codes, Some, None}
use Rattle.vg_meaning.specs.declared.event.Event.TheVariants.{Write}
use Rattle.vg_meaning.specs.Ending.{Idle, Deep}
use Rattle.vg_syntax.specs.declared.kind.Kind.TheVariants as kind
use Rattle.vg_syntax.specs.Tree.{Arm, Assign, Block, Call, Chain, ComponentDecl, DeviceDecl, EntryDecl, If, IntType, Member, MethodDecl, Name, NoType, Node}
use Rattle.vg_syntax.specs.Tree.{Nothing, Number, Part, Postfix, ProgramDecl, RawType, RegisterDecl, Return, Text, TypePart}
use Rattle.vg_source.specs.Program.{source_of}
use Rattle.vg_source.specs.Peak.{peak, costs}
use Rattle.vg_examples.specs.Writing.{at, row, param, outcome_of, session_after}

-- Six calls of down are active below main.
--   component Main {
--     method down(n: int): int { if (n == 0) { return 0; } return down(n - 1) + 1; }
--     method main() { M.PORTB = down(5) :: raw.8; }
--   }
--   device M { register PINB = 0x36; register PORTB = 0x38; register INA = 0x39; }
--   program P { entry main = Main.main; }
abbrev pub recursion : Node
recursion = Text (at 0 1 1) (row (
    (ComponentDecl (at 1 1 1) (codes "Main") (row (
    (MethodDecl (at 2 2 3) (codes "down") (param (codes "n") IntType ∷ []) IntType (Block (at 3 2 28) (row (
    (If (at 4 2 30) (Arm (Chain (at 5 2 34) (Name (at 6 2 34) (codes "n")) (row ((Part (at 7 2 36) kind.EqualEqual (Number (at 8 2 39) (codes "0"))) ∷ [])))
    (Block (at 9 2 42) (row ((Return (at 10 2 44) (Number (at 11 2 51) (codes "0"))) ∷ []))) Nothing) Nothing)
    ∷ (Return (at 12 2 56) (Chain (at 13 2 63) (Postfix (at 14 2 63) (Name (at 15 2 63) (codes "down")) (row (
    (Call (at 16 2 67) (row (
    (Chain (at 17 2 68) (Name (at 18 2 68) (codes "n")) (row ((Part (at 19 2 70) kind.Minus (Number (at 20 2 72) (codes "1"))) ∷ [])))
    ∷ [])))
    ∷ []))) (row ((Part (at 21 2 75) kind.Plus (Number (at 22 2 77) (codes "1"))) ∷ []))))
    ∷ []))))
    ∷ (MethodDecl (at 23 3 3) (codes "main") [] NoType (Block (at 24 3 17) (row (
    (Assign (at 25 3 19) (Postfix (at 26 3 19) (Name (at 27 3 19) (codes "M")) (row ((Member (at 28 3 20) (codes "PORTB")) ∷ [])))
    (Chain (at 29 3 29) (Postfix (at 30 3 29) (Name (at 31 3 29) (codes "down"))
    (row ((Call (at 32 3 33) (row ((Number (at 33 3 34) (codes "5")) ∷ []))) ∷ []))) (row ((TypePart (at 34 3 37) kind.Cast (RawType (codes "8"))) ∷ []))))
    ∷ []))))
    ∷ [])))
    ∷ (DeviceDecl (at 35 5 1) (codes "M") (row (
    (RegisterDecl (at 36 5 12) (codes "PINB") (codes "0x36"))
    ∷ (RegisterDecl (at 37 5 34) (codes "PORTB") (codes "0x38"))
    ∷ (RegisterDecl (at 38 5 57) (codes "INA") (codes "0x39"))
    ∷ [])))
    ∷ (ProgramDecl (at 39 6 1) (codes "P") (row ((EntryDecl (at 40 6 13) (codes "main") (codes "Main") (codes "main")) ∷ [])))
    ∷ []))

recursion_runs : outcome_of (source_of recursion) 1000 None [] [] 1000
    ≡ Some (record { trace = Write 0x38 0x05 ∷ []; ending = Idle })
recursion_runs = refl

-- The methods cost 32 and 4 for each parameter, local and node of the body: down has 1 and 20, main 0 and 11.
recursion_costs : costs recursion ≡ 116 ∷ 76 ∷ []
recursion_costs = refl

-- 4, one call of main and six of down.
recursion_peak : peak recursion (session_after (source_of recursion) 1000 None [] [] 1000) ≡ 776
recursion_peak = refl

-- With at most six active calls the sixth call of down is one too many.
recursion_is_deep : outcome_of (source_of recursion) 1000 (Some 6) [] [] 1000
    ≡ Some (record { trace = []; ending = Deep })
recursion_is_deep = refl

-- And it counts: its tick comes before the look at the limit. With at most three it is the third call of down.
recursion_deep_peak : peak recursion (session_after (source_of recursion) 1000 (Some 6) [] [] 1000) ≡ 776
recursion_deep_peak = refl

recursion_deeper_peak : peak recursion (session_after (source_of recursion) 1000 (Some 3) [] [] 1000) ≡ 428
recursion_deeper_peak = refl
