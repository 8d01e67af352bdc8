-- Bounds of arrays.
use Rattle.std.specs.Prelude.{◌≡◌, refl, [], ◌∷◌, codes, Some, None}
use Rattle.vg_meaning.specs.declared.event.Event.TheVariants.{Write}
use Rattle.vg_meaning.specs.Ending.{Idle, Stop}
use Rattle.vg_syntax.specs.declared.kind.Kind.TheVariants as kind
use Rattle.vg_syntax.specs.Tree.{ArrayType, Assign, Block, Chain, CharType, ComponentDecl, DeviceDecl, EntryDecl, FieldDecl, Index, Member, MethodDecl}
use Rattle.vg_syntax.specs.Tree.{Name, NewArray, NoType, Node, Number, Postfix, ProgramDecl, RawType, RegisterDecl, Text, TypePart, Unary}
use Rattle.vg_source.specs.Program.{source_of}
use Rattle.vg_examples.specs.Writing.{at, row, outcome_of}

-- An index below the bounds.
--   component Main { field a: char[] = new char[3]; method main() { M.PORTB = a[-1] :: raw.8; } }
--   device M { register PINB = 0x36; register PORTB = 0x38; register INA = 0x39; }
--   program P { entry main = Main.main; }
abbrev pub index_below : Node
index_below = Text (at 0 1 1) (row (
    (ComponentDecl (at 1 1 1) (codes "Main") (row (
    (FieldDecl (at 2 1 18) (codes "a") (ArrayType CharType) (NewArray (at 3 1 36) CharType (Number (at 4 1 45) (codes "3"))))
    ∷ (MethodDecl (at 5 1 49) (codes "main") [] NoType (Block (at 6 1 63) (row (
    (Assign (at 7 1 65) (Postfix (at 8 1 65) (Name (at 9 1 65) (codes "M")) (row ((Member (at 10 1 66) (codes "PORTB")) ∷ [])))
    (Chain (at 11 1 75) (Postfix (at 12 1 75) (Name (at 13 1 75) (codes "a")) (row (
    (Index (at 14 1 76) (Unary (at 15 1 77) (kind.Minus ∷ []) (Number (at 16 1 78) (codes "1"))))
    ∷ []))) (row ((TypePart (at 17 1 81) kind.Cast (RawType (codes "8"))) ∷ []))))
    ∷ []))))
    ∷ [])))
    ∷ (DeviceDecl (at 18 2 1) (codes "M") (row (
    (RegisterDecl (at 19 2 12) (codes "PINB") (codes "0x36"))
    ∷ (RegisterDecl (at 20 2 34) (codes "PORTB") (codes "0x38"))
    ∷ (RegisterDecl (at 21 2 57) (codes "INA") (codes "0x39"))
    ∷ [])))
    ∷ (ProgramDecl (at 22 3 1) (codes "P") (row ((EntryDecl (at 23 3 13) (codes "main") (codes "Main") (codes "main")) ∷ [])))
    ∷ []))

-- An index above the bounds.
--   component Main { field a: char[] = new char[3]; method main() { M.PORTB = a[3] :: raw.8; } }
--   device M { register PINB = 0x36; register PORTB = 0x38; register INA = 0x39; }
--   program P { entry main = Main.main; }
abbrev pub index_above : Node
index_above = Text (at 0 1 1) (row (
    (ComponentDecl (at 1 1 1) (codes "Main") (row (
    (FieldDecl (at 2 1 18) (codes "a") (ArrayType CharType) (NewArray (at 3 1 36) CharType (Number (at 4 1 45) (codes "3"))))
    ∷ (MethodDecl (at 5 1 49) (codes "main") [] NoType (Block (at 6 1 63) (row (
    (Assign (at 7 1 65) (Postfix (at 8 1 65) (Name (at 9 1 65) (codes "M")) (row ((Member (at 10 1 66) (codes "PORTB")) ∷ [])))
    (Chain (at 11 1 75) (Postfix (at 12 1 75) (Name (at 13 1 75) (codes "a")) (row ((Index (at 14 1 76) (Number (at 15 1 77) (codes "3"))) ∷ [])))
    (row ((TypePart (at 16 1 80) kind.Cast (RawType (codes "8"))) ∷ []))))
    ∷ []))))
    ∷ [])))
    ∷ (DeviceDecl (at 17 2 1) (codes "M") (row (
    (RegisterDecl (at 18 2 12) (codes "PINB") (codes "0x36"))
    ∷ (RegisterDecl (at 19 2 34) (codes "PORTB") (codes "0x38"))
    ∷ (RegisterDecl (at 20 2 57) (codes "INA") (codes "0x39"))
    ∷ [])))
    ∷ (ProgramDecl (at 21 3 1) (codes "P") (row ((EntryDecl (at 22 3 13) (codes "main") (codes "Main") (codes "main")) ∷ [])))
    ∷ []))

-- An index within the bounds.
--   component Main { field a: char[] = new char[3]; method main() { M.PORTB = a[2] :: raw.8; } }
--   device M { register PINB = 0x36; register PORTB = 0x38; register INA = 0x39; }
--   program P { entry main = Main.main; }
abbrev pub index_within : Node
index_within = Text (at 0 1 1) (row (
    (ComponentDecl (at 1 1 1) (codes "Main") (row (
    (FieldDecl (at 2 1 18) (codes "a") (ArrayType CharType) (NewArray (at 3 1 36) CharType (Number (at 4 1 45) (codes "3"))))
    ∷ (MethodDecl (at 5 1 49) (codes "main") [] NoType (Block (at 6 1 63) (row (
    (Assign (at 7 1 65) (Postfix (at 8 1 65) (Name (at 9 1 65) (codes "M")) (row ((Member (at 10 1 66) (codes "PORTB")) ∷ [])))
    (Chain (at 11 1 75) (Postfix (at 12 1 75) (Name (at 13 1 75) (codes "a")) (row ((Index (at 14 1 76) (Number (at 15 1 77) (codes "2"))) ∷ [])))
    (row ((TypePart (at 16 1 80) kind.Cast (RawType (codes "8"))) ∷ []))))
    ∷ []))))
    ∷ [])))
    ∷ (DeviceDecl (at 17 2 1) (codes "M") (row (
    (RegisterDecl (at 18 2 12) (codes "PINB") (codes "0x36"))
    ∷ (RegisterDecl (at 19 2 34) (codes "PORTB") (codes "0x38"))
    ∷ (RegisterDecl (at 20 2 57) (codes "INA") (codes "0x39"))
    ∷ [])))
    ∷ (ProgramDecl (at 21 3 1) (codes "P") (row ((EntryDecl (at 22 3 13) (codes "main") (codes "Main") (codes "main")) ∷ [])))
    ∷ []))

-- An index of an empty array.
--   component Main { field a: char[] = new char[0]; method main() { M.PORTB = a[0] :: raw.8; } }
--   device M { register PINB = 0x36; register PORTB = 0x38; register INA = 0x39; }
--   program P { entry main = Main.main; }
abbrev pub index_empty : Node
index_empty = Text (at 0 1 1) (row (
    (ComponentDecl (at 1 1 1) (codes "Main") (row (
    (FieldDecl (at 2 1 18) (codes "a") (ArrayType CharType) (NewArray (at 3 1 36) CharType (Number (at 4 1 45) (codes "0"))))
    ∷ (MethodDecl (at 5 1 49) (codes "main") [] NoType (Block (at 6 1 63) (row (
    (Assign (at 7 1 65) (Postfix (at 8 1 65) (Name (at 9 1 65) (codes "M")) (row ((Member (at 10 1 66) (codes "PORTB")) ∷ [])))
    (Chain (at 11 1 75) (Postfix (at 12 1 75) (Name (at 13 1 75) (codes "a")) (row ((Index (at 14 1 76) (Number (at 15 1 77) (codes "0"))) ∷ [])))
    (row ((TypePart (at 16 1 80) kind.Cast (RawType (codes "8"))) ∷ []))))
    ∷ []))))
    ∷ [])))
    ∷ (DeviceDecl (at 17 2 1) (codes "M") (row (
    (RegisterDecl (at 18 2 12) (codes "PINB") (codes "0x36"))
    ∷ (RegisterDecl (at 19 2 34) (codes "PORTB") (codes "0x38"))
    ∷ (RegisterDecl (at 20 2 57) (codes "INA") (codes "0x39"))
    ∷ [])))
    ∷ (ProgramDecl (at 21 3 1) (codes "P") (row ((EntryDecl (at 22 3 13) (codes "main") (codes "Main") (codes "main")) ∷ [])))
    ∷ []))

below_stops : outcome_of (source_of index_below) 1000 None [] [] 1000
    ≡ Some (record { trace = []; ending = Stop 2 })
below_stops = refl

above_stops : outcome_of (source_of index_above) 1000 None [] [] 1000
    ≡ Some (record { trace = []; ending = Stop 2 })
above_stops = refl

within_runs : outcome_of (source_of index_within) 1000 None [] [] 1000
    ≡ Some (record { trace = Write 0x38 0x00 ∷ []; ending = Idle })
within_runs = refl

empty_stops : outcome_of (source_of index_empty) 1000 None [] [] 1000
    ≡ Some (record { trace = []; ending = Stop 2 })
empty_stops = refl
