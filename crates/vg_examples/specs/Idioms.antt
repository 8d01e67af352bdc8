-- How programs are written in the language.
use Rattle.std.specs.Prelude.{◌≡◌, refl, [], ◌∷◌, codes, Some, None, false}
use Rattle.vg_meaning.specs.declared.event.Event.TheVariants.{Write, Enter}
use Rattle.vg_meaning.specs.Ending.{Idle, Beyond}
use Rattle.vg_syntax.specs.declared.kind.Kind.TheVariants as kind
use Rattle.vg_syntax.specs.Tree.{Arm, ArrayType, Assign, Block, Break, Call, Chain, ComponentDecl, ConstructorDecl, Continue, DeviceDecl, EntryDecl, Eval}
use Rattle.vg_syntax.specs.Tree.{FieldDecl, For, FunctionType, If, Index, IntType, Local, Member, MethodDecl, Name, NewArray, NoType, Node, Nothing, Number}
use Rattle.vg_syntax.specs.Tree.{Part, Postfix, ProgramDecl, RawType, RegisterDecl, Return, Text, True, TypePart, While}
use Rattle.vg_source.specs.Program.{source_of}
use Rattle.vg_examples.specs.Writing.{at, row, outcome_of}

-- A byte counts by way of an int.
--   component Main {
--     field n: raw.8;
--     method tick() { n = (n :: int + 1) :: raw.8; M.PORTB = n; }
--     method main() { n = 0xFE; }
--   }
--   device M { register DDRB = 0x37; register PORTB = 0x38; }
--   program P { entry main = Main.main; entry 15 = Main.tick; }
abbrev pub counter : Node
counter = Text (at 0 1 1) (row (
    (ComponentDecl (at 1 1 1) (codes "Main") (row (
    (FieldDecl (at 2 2 3) (codes "n") (RawType (codes "8")) Nothing)
    ∷ (MethodDecl (at 3 3 3) (codes "tick") [] NoType (Block (at 4 3 17) (row (
    (Assign (at 5 3 19) (Name (at 6 3 19) (codes "n"))
    (Chain (at 7 3 23) (Chain (at 8 3 24) (Chain (at 9 3 24) (Name (at 10 3 24) (codes "n")) (row ((TypePart (at 11 3 26) kind.Cast IntType) ∷ [])))
    (row ((Part (at 12 3 33) kind.Plus (Number (at 13 3 35) (codes "1"))) ∷ []))) (row ((TypePart (at 14 3 38) kind.Cast (RawType (codes "8"))) ∷ []))))
    ∷ (Assign (at 15 3 48) (Postfix (at 16 3 48) (Name (at 17 3 48) (codes "M")) (row ((Member (at 18 3 49) (codes "PORTB")) ∷ [])))
    (Name (at 19 3 58) (codes "n")))
    ∷ []))))
    ∷ (MethodDecl (at 20 4 3) (codes "main") [] NoType (Block (at 21 4 17) (row (
    (Assign (at 22 4 19) (Name (at 23 4 19) (codes "n")) (Number (at 24 4 23) (codes "0xFE")))
    ∷ []))))
    ∷ [])))
    ∷ (DeviceDecl (at 25 6 1) (codes "M") (row (
    (RegisterDecl (at 26 6 12) (codes "DDRB") (codes "0x37"))
    ∷ (RegisterDecl (at 27 6 34) (codes "PORTB") (codes "0x38"))
    ∷ [])))
    ∷ (ProgramDecl (at 28 7 1) (codes "P") (row (
    (EntryDecl (at 29 7 13) (codes "main") (codes "Main") (codes "main"))
    ∷ (EntryDecl (at 30 7 37) (codes "15") (codes "Main") (codes "tick"))
    ∷ [])))
    ∷ []))

-- A component field that no method assigns is a constant.
--   component Pin { field led: raw.8 = 0x02; }
--   component Main { method main() { M.DDRB = Pin.led; } }
--   device M { register DDRB = 0x37; register PORTB = 0x38; }
--   program P { entry main = Main.main; }
abbrev pub constant : Node
constant = Text (at 0 1 1) (row (
    (ComponentDecl (at 1 1 1) (codes "Pin") (row (
    (FieldDecl (at 2 1 17) (codes "led") (RawType (codes "8")) (Number (at 3 1 36) (codes "0x02")))
    ∷ [])))
    ∷ (ComponentDecl (at 4 2 1) (codes "Main") (row (
    (MethodDecl (at 5 2 18) (codes "main") [] NoType (Block (at 6 2 32) (row (
    (Assign (at 7 2 34) (Postfix (at 8 2 34) (Name (at 9 2 34) (codes "M")) (row ((Member (at 10 2 35) (codes "DDRB")) ∷ [])))
    (Postfix (at 11 2 43) (Name (at 12 2 43) (codes "Pin")) (row ((Member (at 13 2 46) (codes "led")) ∷ []))))
    ∷ []))))
    ∷ [])))
    ∷ (DeviceDecl (at 14 3 1) (codes "M") (row (
    (RegisterDecl (at 15 3 12) (codes "DDRB") (codes "0x37"))
    ∷ (RegisterDecl (at 16 3 34) (codes "PORTB") (codes "0x38"))
    ∷ [])))
    ∷ (ProgramDecl (at 17 4 1) (codes "P") (row ((EntryDecl (at 18 4 13) (codes "main") (codes "Main") (codes "main")) ∷ [])))
    ∷ []))

-- A constructor fills a table.
--   component Main {
--     field squares: int[] = new int[8];
--     constructor() { local i: int = 0; while (i < 8) { squares[i] = i * i; i = i + 1; } }
--     method main() { M.PORTB = squares[5] :: raw.8; }
--   }
--   device M { register DDRB = 0x37; register PORTB = 0x38; }
--   program P { entry main = Main.main; }
abbrev pub table : Node
table = Text (at 0 1 1) (row (
    (ComponentDecl (at 1 1 1) (codes "Main") (row (
    (FieldDecl (at 2 2 3) (codes "squares") (ArrayType IntType) (NewArray (at 3 2 26) IntType (Number (at 4 2 34) (codes "8"))))
    ∷ (ConstructorDecl (at 5 3 3) [] false Nothing (Block (at 6 3 17) (row (
    (Local (at 7 3 19) (codes "i") IntType (Number (at 8 3 34) (codes "0")))
    ∷ (While (at 9 3 37) (Chain (at 10 3 44) (Name (at 11 3 44) (codes "i")) (row ((Part (at 12 3 46) kind.Less (Number (at 13 3 48) (codes "8"))) ∷ [])))
    (Block (at 14 3 51) (row (
    (Assign (at 15 3 53) (Postfix (at 16 3 53) (Name (at 17 3 53) (codes "squares")) (row ((Index (at 18 3 60) (Name (at 19 3 61) (codes "i"))) ∷ [])))
    (Chain (at 20 3 66) (Name (at 21 3 66) (codes "i")) (row ((Part (at 22 3 68) kind.Star (Name (at 23 3 70) (codes "i"))) ∷ []))))
    ∷ (Assign (at 24 3 73) (Name (at 25 3 73) (codes "i"))
    (Chain (at 26 3 77) (Name (at 27 3 77) (codes "i")) (row ((Part (at 28 3 79) kind.Plus (Number (at 29 3 81) (codes "1"))) ∷ []))))
    ∷ []))))
    ∷ []))))
    ∷ (MethodDecl (at 30 4 3) (codes "main") [] NoType (Block (at 31 4 17) (row (
    (Assign (at 32 4 19) (Postfix (at 33 4 19) (Name (at 34 4 19) (codes "M")) (row ((Member (at 35 4 20) (codes "PORTB")) ∷ [])))
    (Chain (at 36 4 29) (Postfix (at 37 4 29) (Name (at 38 4 29) (codes "squares")) (row ((Index (at 39 4 36) (Number (at 40 4 37) (codes "5"))) ∷ [])))
    (row ((TypePart (at 41 4 40) kind.Cast (RawType (codes "8"))) ∷ []))))
    ∷ []))))
    ∷ [])))
    ∷ (DeviceDecl (at 42 6 1) (codes "M") (row (
    (RegisterDecl (at 43 6 12) (codes "DDRB") (codes "0x37"))
    ∷ (RegisterDecl (at 44 6 34) (codes "PORTB") (codes "0x38"))
    ∷ [])))
    ∷ (ProgramDecl (at 45 7 1) (codes "P") (row ((EntryDecl (at 46 7 13) (codes "main") (codes "Main") (codes "main")) ∷ [])))
    ∷ []))

-- A method that does nothing stands for no callback.
--   component Main { field then: function() = Main.nothing; method nothing() { } method main() { then(); } }
--   device M { register DDRB = 0x37; register PORTB = 0x38; }
--   program P { entry main = Main.main; }
abbrev pub callback : Node
callback = Text (at 0 1 1) (row (
    (ComponentDecl (at 1 1 1) (codes "Main") (row (
    (FieldDecl (at 2 1 18) (codes "then") (FunctionType NoType NoType)
    (Postfix (at 3 1 43) (Name (at 4 1 43) (codes "Main")) (row ((Member (at 5 1 47) (codes "nothing")) ∷ []))))
    ∷ (MethodDecl (at 6 1 57) (codes "nothing") [] NoType (Block (at 7 1 74) Nothing))
    ∷ (MethodDecl (at 8 1 78) (codes "main") [] NoType (Block (at 9 1 92) (row (
    (Eval (at 10 1 94) (Postfix (at 11 1 94) (Name (at 12 1 94) (codes "then")) (row ((Call (at 13 1 98) Nothing) ∷ []))))
    ∷ []))))
    ∷ [])))
    ∷ (DeviceDecl (at 14 2 1) (codes "M") (row (
    (RegisterDecl (at 15 2 12) (codes "DDRB") (codes "0x37"))
    ∷ (RegisterDecl (at 16 2 34) (codes "PORTB") (codes "0x38"))
    ∷ [])))
    ∷ (ProgramDecl (at 17 3 1) (codes "P") (row ((EntryDecl (at 18 3 13) (codes "main") (codes "Main") (codes "main")) ∷ [])))
    ∷ []))

-- A handler toggles a pin.
--   component Main {
--     field lit: raw.8;
--     constructor() { lit = 0x01; }
--     method main() { M.PORTB = lit; }
--     method tick() { lit = lit ^ 0x01; M.PORTB = lit; }
--   }
--   device M { register PORTB = 0x38; }
--   program P { entry main = Main.main; entry 15 = Main.tick; }
abbrev pub toggle : Node
toggle = Text (at 0 1 1) (row (
    (ComponentDecl (at 1 1 1) (codes "Main") (row (
    (FieldDecl (at 2 2 3) (codes "lit") (RawType (codes "8")) Nothing)
    ∷ (ConstructorDecl (at 3 3 3) [] false Nothing (Block (at 4 3 17) (row (
    (Assign (at 5 3 19) (Name (at 6 3 19) (codes "lit")) (Number (at 7 3 25) (codes "0x01")))
    ∷ []))))
    ∷ (MethodDecl (at 8 4 3) (codes "main") [] NoType (Block (at 9 4 17) (row (
    (Assign (at 10 4 19) (Postfix (at 11 4 19) (Name (at 12 4 19) (codes "M")) (row ((Member (at 13 4 20) (codes "PORTB")) ∷ [])))
    (Name (at 14 4 29) (codes "lit")))
    ∷ []))))
    ∷ (MethodDecl (at 15 5 3) (codes "tick") [] NoType (Block (at 16 5 17) (row (
    (Assign (at 17 5 19) (Name (at 18 5 19) (codes "lit"))
    (Chain (at 19 5 25) (Name (at 20 5 25) (codes "lit")) (row ((Part (at 21 5 29) kind.Xor (Number (at 22 5 31) (codes "0x01"))) ∷ []))))
    ∷ (Assign (at 23 5 37) (Postfix (at 24 5 37) (Name (at 25 5 37) (codes "M")) (row ((Member (at 26 5 38) (codes "PORTB")) ∷ [])))
    (Name (at 27 5 47) (codes "lit")))
    ∷ []))))
    ∷ [])))
    ∷ (DeviceDecl (at 28 7 1) (codes "M") (row ((RegisterDecl (at 29 7 12) (codes "PORTB") (codes "0x38")) ∷ [])))
    ∷ (ProgramDecl (at 30 8 1) (codes "P") (row (
    (EntryDecl (at 31 8 13) (codes "main") (codes "Main") (codes "main"))
    ∷ (EntryDecl (at 32 8 37) (codes "15") (codes "Main") (codes "tick"))
    ∷ [])))
    ∷ []))

-- A `for` with `continue` and `break`, and a `while` that returns.
--   component Main {
--     method main() {
--       local i: int = 0;
--       for (i = 0; i < 8; i = i + 1) {
--         if (i == 3) { continue; } else if (i == 5) { break; } else { M.PORTB = i :: raw.8; }
--       }
--       while (true) { return; }
--     }
--   }
--   device M { register DDRB = 0x37; register PORTB = 0x38; }
--   program P { entry main = Main.main; }
abbrev pub loops : Node
loops = Text (at 0 1 1) (row (
    (ComponentDecl (at 1 1 1) (codes "Main") (row (
    (MethodDecl (at 2 2 3) (codes "main") [] NoType (Block (at 3 2 17) (row (
    (Local (at 4 3 5) (codes "i") IntType (Number (at 5 3 20) (codes "0")))
    ∷ (For (at 6 4 5) (Assign (at 7 4 10) (Name (at 8 4 10) (codes "i")) (Number (at 9 4 14) (codes "0")))
    (Chain (at 10 4 17) (Name (at 11 4 17) (codes "i")) (row ((Part (at 12 4 19) kind.Less (Number (at 13 4 21) (codes "8"))) ∷ [])))
    (Assign (at 14 4 24) (Name (at 15 4 24) (codes "i"))
    (Chain (at 16 4 28) (Name (at 17 4 28) (codes "i")) (row ((Part (at 18 4 30) kind.Plus (Number (at 19 4 32) (codes "1"))) ∷ [])))) (Block (at 20 4 35)
    (row (
    (If (at 21 5 7) (Arm (Chain (at 22 5 11) (Name (at 23 5 11) (codes "i"))
    (row ((Part (at 24 5 13) kind.EqualEqual (Number (at 25 5 16) (codes "3"))) ∷ []))) (Block (at 26 5 19) (row ((Continue (at 27 5 21)) ∷ []))) (Arm
    (Chain (at 28 5 42) (Name (at 29 5 42) (codes "i")) (row ((Part (at 30 5 44) kind.EqualEqual (Number (at 31 5 47) (codes "5"))) ∷ [])))
    (Block (at 32 5 50) (row ((Break (at 33 5 52)) ∷ []))) Nothing)) (Block (at 34 5 66) (row (
    (Assign (at 35 5 68) (Postfix (at 36 5 68) (Name (at 37 5 68) (codes "M")) (row ((Member (at 38 5 69) (codes "PORTB")) ∷ [])))
    (Chain (at 39 5 78) (Name (at 40 5 78) (codes "i")) (row ((TypePart (at 41 5 80) kind.Cast (RawType (codes "8"))) ∷ []))))
    ∷ []))))
    ∷ []))))
    ∷ (While (at 42 7 5) (True (at 43 7 12)) (Block (at 44 7 18) (row ((Return (at 45 7 20) Nothing) ∷ []))))
    ∷ []))))
    ∷ [])))
    ∷ (DeviceDecl (at 46 10 1) (codes "M") (row (
    (RegisterDecl (at 47 10 12) (codes "DDRB") (codes "0x37"))
    ∷ (RegisterDecl (at 48 10 34) (codes "PORTB") (codes "0x38"))
    ∷ [])))
    ∷ (ProgramDecl (at 49 11 1) (codes "P") (row ((EntryDecl (at 50 11 13) (codes "main") (codes "Main") (codes "main")) ∷ [])))
    ∷ []))

counter_runs : outcome_of (source_of counter) 1000 None [] (15 ∷ 15 ∷ []) 1000
    ≡ Some (record { trace = Enter 15 ∷ Write 0x38 0xff ∷ Enter 15 ∷ Write 0x38 0x00 ∷ []; ending = Idle })
counter_runs = refl

constant_runs : outcome_of (source_of constant) 1000 None [] [] 1000
    ≡ Some (record { trace = Write 0x37 0x02 ∷ []; ending = Idle })
constant_runs = refl

table_runs : outcome_of (source_of table) 1000 None [] [] 1000
    ≡ Some (record { trace = Write 0x38 0x19 ∷ []; ending = Idle })
table_runs = refl

callback_runs : outcome_of (source_of callback) 1000 None [] [] 1000
    ≡ Some (record { trace = []; ending = Idle })
callback_runs = refl

-- Two ticks: of main and of the callback.
callback_in_one : outcome_of (source_of callback) 1000 None [] [] 1
    ≡ Some (record { trace = []; ending = Beyond })
callback_in_one = refl

toggle_runs : outcome_of (source_of toggle) 1000 None [] (15 ∷ 15 ∷ []) 1000
    ≡ Some (record { trace = Write 0x38 0x01 ∷ Enter 15 ∷ Write 0x38 0x00 ∷ Enter 15 ∷ Write 0x38 0x01 ∷ []; ending = Idle })
toggle_runs = refl

loops_run : outcome_of (source_of loops) 1000 None [] [] 1000
    ≡ Some (record { trace = Write 0x38 0x00 ∷ Write 0x38 0x01 ∷ Write 0x38 0x02 ∷ Write 0x38 0x04 ∷ []; ending = Idle })
loops_run = refl
