-- A firmware with tasks, a debounced button, a text and delegates.
use Rattle.std.specs.Prelude.{◌≡◌, refl, [], ◌∷◌, codes, Some, None, false}
use Rattle.vg_meaning.specs.declared.event.Event.TheVariants.{Read, Write, Enter}
use Rattle.vg_meaning.specs.Ending.{Idle}
use Rattle.vg_syntax.specs.declared.kind.Kind.TheVariants as kind
use Rattle.vg_syntax.specs.Tree.{Arm, ArrayType, Assign, Block, BoolType, Call, Chain, CharType, ClassDecl, ClassType, ComponentDecl, ConstructorDecl}
use Rattle.vg_syntax.specs.Tree.{DeviceDecl, EntryDecl, Eval, False, FieldDecl, FunctionType, If, Index, IntType, Local, Member, MethodDecl, Name}
use Rattle.vg_syntax.specs.Tree.{NewObject, NoType, Node, Nothing, Null, Number, Part, Postfix, ProgramDecl, RawType, RegisterDecl, Return, StringLit, Text}
use Rattle.vg_syntax.specs.Tree.{TypePart, While}
use Rattle.vg_source.specs.Program.{source_of}
use Rattle.vg_examples.specs.Writing.{at, row, param, outcome_of}

-- The button counts three equal reads before it reports.
--   device M { register PINB = 0x36; register DDRB = 0x37; register PORTB = 0x38; register TX = 0x2C; }
--   class Task { field next: Task; field what: function(); constructor(w: function(), n: Task) { what = w; next = n; } }
--   class Button {
--     field mask: raw.8;
--     field same: int;
--     field down: bool;
--     constructor(m: raw.8) { mask = m; }
--     method poll(pins: raw.8): bool {
--       local now: bool = (pins & mask) != 0x00;
--       if (now == down) { same = 0; return false; } same = same + 1;
--       if (same < 3) { return false; } down = now; same = 0; return now;
--     }
--   }
--   component Main {
--     field button: Button = new Button(0x01);
--     field tasks: Task;
--     field text: char[] = "on";
--     field lit: raw.8;
--     constructor() { tasks = new Task(Main.say, new Task(Main.flip, null)); }
--     method flip() { lit = lit ^ 0x02; M.PORTB = lit; }
--     method say() { local i: int = 0; while (i < text.length) { M.TX = text[i] :: raw.8; i = i + 1; } }
--     method tick() { if (button.poll(M.PINB)) { local t: Task = tasks; while (t != null) { t.what(); t = t.next; } } }
--     method main() { M.DDRB = 0x02; M.PORTB = 0x00; }
--   }
--   program Blink { entry main = Main.main; entry 15 = Main.tick; }
abbrev pub firmware : Node
firmware = Text (at 0 1 1) (row (
    (DeviceDecl (at 1 1 1) (codes "M") (row (
    (RegisterDecl (at 2 1 12) (codes "PINB") (codes "0x36"))
    ∷ (RegisterDecl (at 3 1 34) (codes "DDRB") (codes "0x37"))
    ∷ (RegisterDecl (at 4 1 56) (codes "PORTB") (codes "0x38"))
    ∷ (RegisterDecl (at 5 1 79) (codes "TX") (codes "0x2C"))
    ∷ [])))
    ∷ (ClassDecl (at 6 2 1) (codes "Task") None (row (
    (FieldDecl (at 7 2 14) (codes "next") (ClassType (codes "Task")) Nothing)
    ∷ (FieldDecl (at 8 2 32) (codes "what") (FunctionType NoType NoType) Nothing)
    ∷ (ConstructorDecl (at 9 2 56) (param (codes "w") (FunctionType NoType NoType) ∷ param (codes "n") (ClassType (codes "Task")) ∷ []) false Nothing
    (Block (at 10 2 92) (row (
    (Assign (at 11 2 94) (Name (at 12 2 94) (codes "what")) (Name (at 13 2 101) (codes "w")))
    ∷ (Assign (at 14 2 104) (Name (at 15 2 104) (codes "next")) (Name (at 16 2 111) (codes "n")))
    ∷ []))))
    ∷ [])))
    ∷ (ClassDecl (at 17 3 1) (codes "Button") None (row (
    (FieldDecl (at 18 4 3) (codes "mask") (RawType (codes "8")) Nothing)
    ∷ (FieldDecl (at 19 5 3) (codes "same") IntType Nothing)
    ∷ (FieldDecl (at 20 6 3) (codes "down") BoolType Nothing)
    ∷ (ConstructorDecl (at 21 7 3) (param (codes "m") (RawType (codes "8")) ∷ []) false Nothing (Block (at 22 7 25) (row (
    (Assign (at 23 7 27) (Name (at 24 7 27) (codes "mask")) (Name (at 25 7 34) (codes "m")))
    ∷ []))))
    ∷ (MethodDecl (at 26 8 3) (codes "poll") (param (codes "pins") (RawType (codes "8")) ∷ []) BoolType (Block (at 27 8 34) (row (
    (Local (at 28 9 5) (codes "now") BoolType
    (Chain (at 29 9 23) (Chain (at 30 9 24) (Name (at 31 9 24) (codes "pins")) (row ((Part (at 32 9 29) kind.And (Name (at 33 9 31) (codes "mask"))) ∷ [])))
    (row ((Part (at 34 9 37) kind.NotEqual (Number (at 35 9 40) (codes "0x00"))) ∷ []))))
    ∷ (If (at 36 10 5) (Arm (Chain (at 37 10 9) (Name (at 38 10 9) (codes "now"))
    (row ((Part (at 39 10 13) kind.EqualEqual (Name (at 40 10 16) (codes "down"))) ∷ []))) (Block (at 41 10 22) (row (
    (Assign (at 42 10 24) (Name (at 43 10 24) (codes "same")) (Number (at 44 10 31) (codes "0")))
    ∷ (Return (at 45 10 34) (False (at 46 10 41)))
    ∷ []))) Nothing) Nothing)
    ∷ (Assign (at 47 10 50) (Name (at 48 10 50) (codes "same"))
    (Chain (at 49 10 57) (Name (at 50 10 57) (codes "same")) (row ((Part (at 51 10 62) kind.Plus (Number (at 52 10 64) (codes "1"))) ∷ []))))
    ∷ (If (at 53 11 5) (Arm (Chain (at 54 11 9) (Name (at 55 11 9) (codes "same"))
    (row ((Part (at 56 11 14) kind.Less (Number (at 57 11 16) (codes "3"))) ∷ []))) (Block (at 58 11 19)
    (row ((Return (at 59 11 21) (False (at 60 11 28))) ∷ []))) Nothing) Nothing)
    ∷ (Assign (at 61 11 37) (Name (at 62 11 37) (codes "down")) (Name (at 63 11 44) (codes "now")))
    ∷ (Assign (at 64 11 49) (Name (at 65 11 49) (codes "same")) (Number (at 66 11 56) (codes "0")))
    ∷ (Return (at 67 11 59) (Name (at 68 11 66) (codes "now")))
    ∷ []))))
    ∷ [])))
    ∷ (ComponentDecl (at 69 14 1) (codes "Main") (row (
    (FieldDecl (at 70 15 3) (codes "button") (ClassType (codes "Button"))
    (NewObject (at 71 15 26) (codes "Button") (row ((Number (at 72 15 37) (codes "0x01")) ∷ []))))
    ∷ (FieldDecl (at 73 16 3) (codes "tasks") (ClassType (codes "Task")) Nothing)
    ∷ (FieldDecl (at 74 17 3) (codes "text") (ArrayType CharType) (StringLit (at 75 17 24) (codes "\"on\"")))
    ∷ (FieldDecl (at 76 18 3) (codes "lit") (RawType (codes "8")) Nothing)
    ∷ (ConstructorDecl (at 77 19 3) [] false Nothing (Block (at 78 19 17) (row (
    (Assign (at 79 19 19) (Name (at 80 19 19) (codes "tasks")) (NewObject (at 81 19 27) (codes "Task") (row (
    (Postfix (at 82 19 36) (Name (at 83 19 36) (codes "Main")) (row ((Member (at 84 19 40) (codes "say")) ∷ [])))
    ∷ (NewObject (at 85 19 46) (codes "Task") (row (
    (Postfix (at 86 19 55) (Name (at 87 19 55) (codes "Main")) (row ((Member (at 88 19 59) (codes "flip")) ∷ [])))
    ∷ (Null (at 89 19 66))
    ∷ [])))
    ∷ []))))
    ∷ []))))
    ∷ (MethodDecl (at 90 20 3) (codes "flip") [] NoType (Block (at 91 20 17) (row (
    (Assign (at 92 20 19) (Name (at 93 20 19) (codes "lit"))
    (Chain (at 94 20 25) (Name (at 95 20 25) (codes "lit")) (row ((Part (at 96 20 29) kind.Xor (Number (at 97 20 31) (codes "0x02"))) ∷ []))))
    ∷ (Assign (at 98 20 37) (Postfix (at 99 20 37) (Name (at 100 20 37) (codes "M")) (row ((Member (at 101 20 38) (codes "PORTB")) ∷ [])))
    (Name (at 102 20 47) (codes "lit")))
    ∷ []))))
    ∷ (MethodDecl (at 103 21 3) (codes "say") [] NoType (Block (at 104 21 16) (row (
    (Local (at 105 21 18) (codes "i") IntType (Number (at 106 21 33) (codes "0")))
    ∷ (While (at 107 21 36) (Chain (at 108 21 43) (Name (at 109 21 43) (codes "i")) (row (
    (Part (at 110 21 45) kind.Less (Postfix (at 111 21 47) (Name (at 112 21 47) (codes "text")) (row ((Member (at 113 21 51) (codes "length")) ∷ []))))
    ∷ []))) (Block (at 114 21 60) (row (
    (Assign (at 115 21 62) (Postfix (at 116 21 62) (Name (at 117 21 62) (codes "M")) (row ((Member (at 118 21 63) (codes "TX")) ∷ [])))
    (Chain (at 119 21 69) (Postfix (at 120 21 69) (Name (at 121 21 69) (codes "text")) (row ((Index (at 122 21 73) (Name (at 123 21 74) (codes "i"))) ∷ [])))
    (row ((TypePart (at 124 21 77) kind.Cast (RawType (codes "8"))) ∷ []))))
    ∷ (Assign (at 125 21 87) (Name (at 126 21 87) (codes "i"))
    (Chain (at 127 21 91) (Name (at 128 21 91) (codes "i")) (row ((Part (at 129 21 93) kind.Plus (Number (at 130 21 95) (codes "1"))) ∷ []))))
    ∷ []))))
    ∷ []))))
    ∷ (MethodDecl (at 131 22 3) (codes "tick") [] NoType (Block (at 132 22 17) (row (
    (If (at 133 22 19) (Arm (Postfix (at 134 22 23) (Name (at 135 22 23) (codes "button")) (row (
    (Member (at 136 22 29) (codes "poll"))
    ∷ (Call (at 137 22 34) (row (
    (Postfix (at 138 22 35) (Name (at 139 22 35) (codes "M")) (row ((Member (at 140 22 36) (codes "PINB")) ∷ [])))
    ∷ [])))
    ∷ []))) (Block (at 141 22 44) (row (
    (Local (at 142 22 46) (codes "t") (ClassType (codes "Task")) (Name (at 143 22 62) (codes "tasks")))
    ∷ (While (at 144 22 69) (Chain (at 145 22 76) (Name (at 146 22 76) (codes "t")) (row ((Part (at 147 22 78) kind.NotEqual (Null (at 148 22 81))) ∷ [])))
    (Block (at 149 22 87) (row (
    (Eval (at 150 22 89) (Postfix (at 151 22 89) (Name (at 152 22 89) (codes "t"))
    (row ((Member (at 153 22 90) (codes "what")) ∷ (Call (at 154 22 95) Nothing) ∷ []))))
    ∷ (Assign (at 155 22 99) (Name (at 156 22 99) (codes "t"))
    (Postfix (at 157 22 103) (Name (at 158 22 103) (codes "t")) (row ((Member (at 159 22 104) (codes "next")) ∷ []))))
    ∷ []))))
    ∷ []))) Nothing) Nothing)
    ∷ []))))
    ∷ (MethodDecl (at 160 23 3) (codes "main") [] NoType (Block (at 161 23 17) (row (
    (Assign (at 162 23 19) (Postfix (at 163 23 19) (Name (at 164 23 19) (codes "M")) (row ((Member (at 165 23 20) (codes "DDRB")) ∷ [])))
    (Number (at 166 23 28) (codes "0x02")))
    ∷ (Assign (at 167 23 34) (Postfix (at 168 23 34) (Name (at 169 23 34) (codes "M")) (row ((Member (at 170 23 35) (codes "PORTB")) ∷ [])))
    (Number (at 171 23 44) (codes "0x00")))
    ∷ []))))
    ∷ [])))
    ∷ (ProgramDecl (at 172 25 1) (codes "Blink") (row (
    (EntryDecl (at 173 25 17) (codes "main") (codes "Main") (codes "main"))
    ∷ (EntryDecl (at 174 25 41) (codes "15") (codes "Main") (codes "tick"))
    ∷ [])))
    ∷ []))

firmware_runs : outcome_of (source_of firmware) 1000 None (1 ∷ 1 ∷ 1 ∷ 1 ∷ []) (15 ∷ 15 ∷ 15 ∷ 15 ∷ []) 1000
    ≡ Some (record {
      trace =
          Write 0x37 0x02 ∷ Write 0x38 0x00 ∷ Enter 15 ∷ Read 0x36 0x01 ∷ Enter 15 ∷ Read 0x36 0x01 ∷ Enter 15 ∷ Read 0x36 0x01 ∷ Write 0x2c 0x6f ∷ Write 0x2c
          0x6e ∷ Write 0x38 0x02 ∷ Enter 15 ∷ Read 0x36 0x01 ∷ [];
      ending = Idle;
    })
firmware_runs = refl
