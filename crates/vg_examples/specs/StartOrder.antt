-- What comes first at initialisation.
use Rattle.std.specs.Prelude.{◌≡◌, refl, [], ◌∷◌, codes, Some, None, true, false}
use Rattle.vg_meaning.specs.declared.event.Event.TheVariants.{Write}
use Rattle.vg_meaning.specs.Ending.{Idle}
use Rattle.vg_syntax.specs.declared.kind.Kind.TheVariants as kind
use Rattle.vg_syntax.specs.Tree.{Assign, Block, Chain, ClassDecl, ClassType, ComponentDecl, ConstructorDecl, DeviceDecl, EntryDecl, FieldDecl, IntType}
use Rattle.vg_syntax.specs.Tree.{Member, MethodDecl, Name, NewObject, NoType, Node, Nothing, Number, Part, Postfix, ProgramDecl, RawType, RegisterDecl}
use Rattle.vg_syntax.specs.Tree.{Text, TypePart}
use Rattle.vg_meaning.specs.Answer.{Stops, Touches}
use Rattle.vg_source.specs.Program.{source_of}
use Rattle.vg_source.specs.Session.{started, Failed}
use Rattle.vg_examples.specs.Writing.{at, row, param, outcome_of}

-- The right side comes before the store, so the read is what touches a register.
--   component Main { constructor() { M.PORTB = M.PINB; } method main() { } }
--   device M { register PINB = 0x36; register PORTB = 0x38; register INA = 0x39; }
--   program P { entry main = Main.main; }
abbrev pub writes_what_it_reads : Node
writes_what_it_reads = Text (at 0 1 1) (row (
    (ComponentDecl (at 1 1 1) (codes "Main") (row (
    (ConstructorDecl (at 2 1 18) [] false Nothing (Block (at 3 1 32) (row (
    (Assign (at 4 1 34) (Postfix (at 5 1 34) (Name (at 6 1 34) (codes "M")) (row ((Member (at 7 1 35) (codes "PORTB")) ∷ [])))
    (Postfix (at 8 1 44) (Name (at 9 1 44) (codes "M")) (row ((Member (at 10 1 45) (codes "PINB")) ∷ []))))
    ∷ []))))
    ∷ (MethodDecl (at 11 1 54) (codes "main") [] NoType (Block (at 12 1 68) Nothing))
    ∷ [])))
    ∷ (DeviceDecl (at 13 2 1) (codes "M") (row (
    (RegisterDecl (at 14 2 12) (codes "PINB") (codes "0x36"))
    ∷ (RegisterDecl (at 15 2 34) (codes "PORTB") (codes "0x38"))
    ∷ (RegisterDecl (at 16 2 57) (codes "INA") (codes "0x39"))
    ∷ [])))
    ∷ (ProgramDecl (at 17 3 1) (codes "P") (row ((EntryDecl (at 18 3 13) (codes "main") (codes "Main") (codes "main")) ∷ [])))
    ∷ []))

-- And so does an exception.
--   component Main { constructor() { M.PORTB = (1 / 0) :: raw.8; } method main() { } }
--   device M { register PINB = 0x36; register PORTB = 0x38; register INA = 0x39; }
--   program P { entry main = Main.main; }
abbrev pub divides_by_zero : Node
divides_by_zero = Text (at 0 1 1) (row (
    (ComponentDecl (at 1 1 1) (codes "Main") (row (
    (ConstructorDecl (at 2 1 18) [] false Nothing (Block (at 3 1 32) (row (
    (Assign (at 4 1 34) (Postfix (at 5 1 34) (Name (at 6 1 34) (codes "M")) (row ((Member (at 7 1 35) (codes "PORTB")) ∷ [])))
    (Chain (at 8 1 44) (Chain (at 9 1 45) (Number (at 10 1 45) (codes "1")) (row ((Part (at 11 1 47) kind.Slash (Number (at 12 1 49) (codes "0"))) ∷ [])))
    (row ((TypePart (at 13 1 52) kind.Cast (RawType (codes "8"))) ∷ []))))
    ∷ []))))
    ∷ (MethodDecl (at 14 1 64) (codes "main") [] NoType (Block (at 15 1 78) Nothing))
    ∷ [])))
    ∷ (DeviceDecl (at 16 2 1) (codes "M") (row (
    (RegisterDecl (at 17 2 12) (codes "PINB") (codes "0x36"))
    ∷ (RegisterDecl (at 18 2 34) (codes "PORTB") (codes "0x38"))
    ∷ (RegisterDecl (at 19 2 57) (codes "INA") (codes "0x39"))
    ∷ [])))
    ∷ (ProgramDecl (at 20 3 1) (codes "P") (row ((EntryDecl (at 21 3 13) (codes "main") (codes "Main") (codes "main")) ∷ [])))
    ∷ []))

-- The arguments for the superclass come first: they stand before the body in the order of nodes.
--   class A { constructor(k: int) { } }
--   class B extends A { constructor(): super(1 / 0) { } }
--   component Main { field b: B = new B(); method main() { } }
--   device M { register PINB = 0x36; register PORTB = 0x38; register INA = 0x39; }
--   program P { entry main = Main.main; }
abbrev pub super_first : Node
super_first = Text (at 0 1 1) (row (
    (ClassDecl (at 1 1 1) (codes "A") None (row (
    (ConstructorDecl (at 2 1 11) (param (codes "k") IntType ∷ []) false Nothing (Block (at 3 1 31) Nothing))
    ∷ [])))
    ∷ (ClassDecl (at 4 2 1) (codes "B") (Some (codes "A")) (row (
    (ConstructorDecl (at 5 2 21) [] true (row (
    (Chain (at 6 2 42) (Number (at 7 2 42) (codes "1")) (row ((Part (at 8 2 44) kind.Slash (Number (at 9 2 46) (codes "0"))) ∷ [])))
    ∷ [])) (Block (at 10 2 49) Nothing))
    ∷ [])))
    ∷ (ComponentDecl (at 11 3 1) (codes "Main") (row (
    (FieldDecl (at 12 3 18) (codes "b") (ClassType (codes "B")) (NewObject (at 13 3 31) (codes "B") Nothing))
    ∷ (MethodDecl (at 14 3 40) (codes "main") [] NoType (Block (at 15 3 54) Nothing))
    ∷ [])))
    ∷ (DeviceDecl (at 16 4 1) (codes "M") (row (
    (RegisterDecl (at 17 4 12) (codes "PINB") (codes "0x36"))
    ∷ (RegisterDecl (at 18 4 34) (codes "PORTB") (codes "0x38"))
    ∷ (RegisterDecl (at 19 4 57) (codes "INA") (codes "0x39"))
    ∷ [])))
    ∷ (ProgramDecl (at 20 5 1) (codes "P") (row ((EntryDecl (at 21 5 13) (codes "main") (codes "Main") (codes "main")) ∷ [])))
    ∷ []))

-- The superclass, the field initialisers, the body.
--   class A { field x: int = 1; constructor(k: int) { x = x + k; } }
--   class B extends A { field y: int = 3; constructor(k: int): super(k + 1) { y = y + x; } }
--   component Main { field b: B = new B(5); method main() { M.PORTB = b.x :: raw.8; M.PORTB = b.y :: raw.8; } }
--   device M { register PINB = 0x36; register PORTB = 0x38; register INA = 0x39; }
--   program P { entry main = Main.main; }
abbrev pub order_of_making : Node
order_of_making = Text (at 0 1 1) (row (
    (ClassDecl (at 1 1 1) (codes "A") None (row (
    (FieldDecl (at 2 1 11) (codes "x") IntType (Number (at 3 1 26) (codes "1")))
    ∷ (ConstructorDecl (at 4 1 29) (param (codes "k") IntType ∷ []) false Nothing (Block (at 5 1 49) (row (
    (Assign (at 6 1 51) (Name (at 7 1 51) (codes "x"))
    (Chain (at 8 1 55) (Name (at 9 1 55) (codes "x")) (row ((Part (at 10 1 57) kind.Plus (Name (at 11 1 59) (codes "k"))) ∷ []))))
    ∷ []))))
    ∷ [])))
    ∷ (ClassDecl (at 12 2 1) (codes "B") (Some (codes "A")) (row (
    (FieldDecl (at 13 2 21) (codes "y") IntType (Number (at 14 2 36) (codes "3")))
    ∷ (ConstructorDecl (at 15 2 39) (param (codes "k") IntType ∷ []) true (row (
    (Chain (at 16 2 66) (Name (at 17 2 66) (codes "k")) (row ((Part (at 18 2 68) kind.Plus (Number (at 19 2 70) (codes "1"))) ∷ [])))
    ∷ [])) (Block (at 20 2 73) (row (
    (Assign (at 21 2 75) (Name (at 22 2 75) (codes "y"))
    (Chain (at 23 2 79) (Name (at 24 2 79) (codes "y")) (row ((Part (at 25 2 81) kind.Plus (Name (at 26 2 83) (codes "x"))) ∷ []))))
    ∷ []))))
    ∷ [])))
    ∷ (ComponentDecl (at 27 3 1) (codes "Main") (row (
    (FieldDecl (at 28 3 18) (codes "b") (ClassType (codes "B")) (NewObject (at 29 3 31) (codes "B") (row ((Number (at 30 3 37) (codes "5")) ∷ []))))
    ∷ (MethodDecl (at 31 3 41) (codes "main") [] NoType (Block (at 32 3 55) (row (
    (Assign (at 33 3 57) (Postfix (at 34 3 57) (Name (at 35 3 57) (codes "M")) (row ((Member (at 36 3 58) (codes "PORTB")) ∷ [])))
    (Chain (at 37 3 67) (Postfix (at 38 3 67) (Name (at 39 3 67) (codes "b")) (row ((Member (at 40 3 68) (codes "x")) ∷ [])))
    (row ((TypePart (at 41 3 71) kind.Cast (RawType (codes "8"))) ∷ []))))
    ∷ (Assign (at 42 3 81) (Postfix (at 43 3 81) (Name (at 44 3 81) (codes "M")) (row ((Member (at 45 3 82) (codes "PORTB")) ∷ [])))
    (Chain (at 46 3 91) (Postfix (at 47 3 91) (Name (at 48 3 91) (codes "b")) (row ((Member (at 49 3 92) (codes "y")) ∷ [])))
    (row ((TypePart (at 50 3 95) kind.Cast (RawType (codes "8"))) ∷ []))))
    ∷ []))))
    ∷ [])))
    ∷ (DeviceDecl (at 51 4 1) (codes "M") (row (
    (RegisterDecl (at 52 4 12) (codes "PINB") (codes "0x36"))
    ∷ (RegisterDecl (at 53 4 34) (codes "PORTB") (codes "0x38"))
    ∷ (RegisterDecl (at 54 4 57) (codes "INA") (codes "0x39"))
    ∷ [])))
    ∷ (ProgramDecl (at 55 5 1) (codes "P") (row ((EntryDecl (at 56 5 13) (codes "main") (codes "Main") (codes "main")) ∷ [])))
    ∷ []))

writes_what_it_reads_fails : started (source_of writes_what_it_reads) 1000 ≡ Failed (Touches 0x36)
writes_what_it_reads_fails = refl

divides_by_zero_fails : started (source_of divides_by_zero) 1000 ≡ Failed (Stops 3 (Some 11))
divides_by_zero_fails = refl

super_first_fails : started (source_of super_first) 1000 ≡ Failed (Stops 3 (Some 8))
super_first_fails = refl

order_of_making_runs : outcome_of (source_of order_of_making) 1000 None [] [] 1000
    ≡ Some (record { trace = Write 0x38 0x07 ∷ Write 0x38 0x0a ∷ []; ending = Idle })
order_of_making_runs = refl
