-- Casts and tests of classes.
use Rattle.std.specs.Prelude.{◌≡◌, refl, [], ◌∷◌, codes, Some, None}
use Rattle.vg_meaning.specs.declared.event.Event.TheVariants.{Write}
use Rattle.vg_meaning.specs.Ending.{Stop}
use Rattle.vg_syntax.specs.declared.kind.Kind.TheVariants as kind
use Rattle.vg_syntax.specs.Tree.{Arm, Assign, Block, Chain, ClassDecl, ClassType, ComponentDecl, DeviceDecl, EntryDecl, FieldDecl, If, Local, Member}
use Rattle.vg_syntax.specs.Tree.{MethodDecl, Name, NewObject, NoType, Node, Nothing, Number, Postfix, ProgramDecl, RegisterDecl, Text, TypePart}
use Rattle.vg_source.specs.Program.{source_of}
use Rattle.vg_examples.specs.Writing.{at, row, outcome_of}

-- Null passes a cast and no test; an object of another class stops.
--   class A { }
--   class B extends A { }
--   class C extends A { }
--   component Main {
--     field a: A = new B();
--     field n: A;
--     method main() { local c: C = n :: C; if (n <: B) { M.PORTB = 0x01; } if (a <: B) { M.PORTB = 0x02; } c = a :: C; }
--   }
--   device M { register PINB = 0x36; register PORTB = 0x38; register INA = 0x39; }
--   program P { entry main = Main.main; }
abbrev pub class_casts : Node
class_casts = Text (at 0 1 1) (row (
    (ClassDecl (at 1 1 1) (codes "A") None Nothing)
    ∷ (ClassDecl (at 2 2 1) (codes "B") (Some (codes "A")) Nothing)
    ∷ (ClassDecl (at 3 3 1) (codes "C") (Some (codes "A")) Nothing)
    ∷ (ComponentDecl (at 4 4 1) (codes "Main") (row (
    (FieldDecl (at 5 5 3) (codes "a") (ClassType (codes "A")) (NewObject (at 6 5 16) (codes "B") Nothing))
    ∷ (FieldDecl (at 7 6 3) (codes "n") (ClassType (codes "A")) Nothing)
    ∷ (MethodDecl (at 8 7 3) (codes "main") [] NoType (Block (at 9 7 17) (row (
    (Local (at 10 7 19) (codes "c") (ClassType (codes "C"))
    (Chain (at 11 7 32) (Name (at 12 7 32) (codes "n")) (row ((TypePart (at 13 7 34) kind.Cast (ClassType (codes "C"))) ∷ []))))
    ∷ (If (at 14 7 40) (Arm (Chain (at 15 7 44) (Name (at 16 7 44) (codes "n")) (row ((TypePart (at 17 7 46) kind.Below (ClassType (codes "B"))) ∷ [])))
    (Block (at 18 7 52) (row (
    (Assign (at 19 7 54) (Postfix (at 20 7 54) (Name (at 21 7 54) (codes "M")) (row ((Member (at 22 7 55) (codes "PORTB")) ∷ [])))
    (Number (at 23 7 64) (codes "0x01")))
    ∷ []))) Nothing) Nothing)
    ∷ (If (at 24 7 72) (Arm (Chain (at 25 7 76) (Name (at 26 7 76) (codes "a")) (row ((TypePart (at 27 7 78) kind.Below (ClassType (codes "B"))) ∷ [])))
    (Block (at 28 7 84) (row (
    (Assign (at 29 7 86) (Postfix (at 30 7 86) (Name (at 31 7 86) (codes "M")) (row ((Member (at 32 7 87) (codes "PORTB")) ∷ [])))
    (Number (at 33 7 96) (codes "0x02")))
    ∷ []))) Nothing) Nothing)
    ∷ (Assign (at 34 7 104) (Name (at 35 7 104) (codes "c"))
    (Chain (at 36 7 108) (Name (at 37 7 108) (codes "a")) (row ((TypePart (at 38 7 110) kind.Cast (ClassType (codes "C"))) ∷ []))))
    ∷ []))))
    ∷ [])))
    ∷ (DeviceDecl (at 39 9 1) (codes "M") (row (
    (RegisterDecl (at 40 9 12) (codes "PINB") (codes "0x36"))
    ∷ (RegisterDecl (at 41 9 34) (codes "PORTB") (codes "0x38"))
    ∷ (RegisterDecl (at 42 9 57) (codes "INA") (codes "0x39"))
    ∷ [])))
    ∷ (ProgramDecl (at 43 10 1) (codes "P") (row ((EntryDecl (at 44 10 13) (codes "main") (codes "Main") (codes "main")) ∷ [])))
    ∷ []))

class_casts_run : outcome_of (source_of class_casts) 1000 None [] [] 1000
    ≡ Some (record { trace = Write 0x38 0x02 ∷ []; ending = Stop 4 })
class_casts_run = refl
