-- A method is found from the class of the object upward.
use Rattle.std.specs.Prelude.{◌≡◌, refl, [], ◌∷◌, codes, pos, List, Some, None}
use Rattle.vg_meaning.specs.declared.event.Event.TheVariants.{Write}
use Rattle.vg_meaning.specs.Ending.{Idle}
use Rattle.vg_meaning.specs.Code.{Do, Return, Nothing, If}
use Rattle.vg_source.specs.Names.{Name}
use Rattle.vg_examples.specs.Writing as source
use Rattle.vg_core.specs.declared.types.CoreType.TheVariants.{IntType, RawType, CharType, ClassType, FunctionType, NoType}
use Rattle.vg_core.specs.declared.value.CoreValue.TheVariants.{Int}
use Rattle.vg_core.specs.declared.operator.Operator.TheVariants.{Plus}
use Rattle.vg_core.specs.declared.step.Step.TheVariants.{Put, This, Local, ComponentField, Operate, CastTo, IsBelow, MethodOf, CallMethod, CallValue, NewObject}
use Rattle.vg_core.specs.declared.step.Step.TheVariants.{SetLocal, SetComponentField, SetRegister, Super}
use Rattle.vg_core.specs.declared.program.Owner.TheVariants.{InClass, InComponent}
use Rattle.vg_core.specs.declared.program.Target.TheVariants.{Run, Construct, Start}
use Rattle.vg_core.specs.declared.program.Tables.{Tables}
use Rattle.vg_core.specs.Program.{Program}
use Rattle.vg_core.specs.Naming.{naming_of, named}
use Rattle.vg_typed_examples.specs.Writing.{row, steps, outcome_of}

-- The names of the text.
abbrev pub texts : List Name
texts = codes "A" ∷ codes "m" ∷ codes "n" ∷ codes "B" ∷ codes "Main" ∷ codes "a" ∷ codes "c" ∷ codes "main" ∷ []

abbrev pub tables : Tables
tables = record {
  classes = record { name = 0; above = 0 ∷ []; fields = []; methods = 0 ∷ 1 ∷ []; params = [] }
      ∷ record { name = 3; above = 1 ∷ 0 ∷ []; fields = []; methods = 2 ∷ 0 ∷ 1 ∷ []; params = [] } ∷ [];
  components = 4 ∷ [];
  fields = record { name = 5; owner = InComponent 0; type_ = ClassType 0; slot = 0 } ∷ record {
    name = 6;
    owner = InComponent 0;
    type_ = ClassType 0;
    slot = 1;
  } ∷ [];
  globals = 0 ∷ 1 ∷ [];
  methods = record { name = 1; owner = InClass 0; selector = 0; function = 3; params = []; result = IntType; nodes = 3 }
      ∷ record { name = 2; owner = InClass 0; selector = 1; function = 3; params = []; result = IntType; nodes = 8 }
      ∷ record { name = 1; owner = InClass 1; selector = 0; function = 3; params = []; result = IntType; nodes = 3 }
      ∷ record { name = 7; owner = InComponent 0; selector = 2; function = 4; params = []; result = NoType; nodes = 61 } ∷ [];
  targets = Construct 0 ∷ Run 0 ∷ Run 1 ∷ Construct 1 ∷ Run 2 ∷ Start 0 ∷ Run 3 ∷ [];
  types = CharType ∷ NoType ∷ IntType ∷ FunctionType 1 2 ∷ FunctionType 1 1 ∷ [];
  literals = [];
  char_type = 0;
}

-- B has its own m and the n of A; a delegate keeps the method that the object has.
--   class A { method m(): int { return 1; } method n(): int { return m() + 10; } }
--   class B extends A { method m(): int { return 2; } }
--   component Main {
--     field a: A = new B();
--     field c: A = new A();
--     method main() {
--       local f: function(): int = a.m; M.PORTB = a.m() :: raw.8; M.PORTB = a.n() :: raw.8; M.PORTB = f() :: raw.8;
--       M.PORTB = c.n() :: raw.8;
--       if (a <: B) { M.PORTB = (a :: B).m() :: raw.8; }
--     }
--   }
--   device M { register PINB = 0x36; register PORTB = 0x38; register INA = 0x39; }
--   program P { entry main = Main.main; }
abbrev pub dispatch : Program
dispatch = record {
  tables = tables;
  methods = record { others = []; code = row (Do (Put (Int (pos 1))) ∷ Return ∷ []) }
      ∷ record { others = []; code = row (Do This ∷ Do (CallMethod 12 0 0 0) ∷ Do (Put (Int (pos 10))) ∷ Do (Operate 13 Plus IntType IntType) ∷ Return ∷ []) }
      ∷ record { others = []; code = row (Do (Put (Int (pos 2))) ∷ Return ∷ []) }
      ∷ record {
        others = FunctionType 1 2 ∷ [];
        code = row (
            steps (ComponentField 0 ∷ MethodOf 30 0 0 ∷ SetLocal 0 (FunctionType 1 2) ∷ [])
            ∷ steps (ComponentField 0 ∷ CallMethod 39 0 0 0 ∷ CastTo 40 IntType (RawType 8) ∷ SetRegister 0x38 ∷ [])
            ∷ steps (ComponentField 0 ∷ CallMethod 49 0 1 0 ∷ CastTo 50 IntType (RawType 8) ∷ SetRegister 0x38 ∷ [])
            ∷ steps (Local 0 ∷ CallValue 58 0 3 ∷ CastTo 59 IntType (RawType 8) ∷ SetRegister 0x38 ∷ [])
            ∷ steps (ComponentField 1 ∷ CallMethod 68 0 1 0 ∷ CastTo 69 IntType (RawType 8) ∷ SetRegister 0x38 ∷ [])
            ∷ steps (ComponentField 0 ∷ IsBelow 1 ∷ [])
            ∷ If (steps (ComponentField 0 ∷ CastTo 82 (ClassType 0) (ClassType 1) ∷ CallMethod 85 1 0 0 ∷ CastTo 86 IntType
            (RawType 8) ∷ SetRegister 0x38 ∷ []))
            Nothing
            ∷ []);
      } ∷ [];
  makings = record { others = []; code = Nothing } ∷ record { others = []; code = steps (Super 0 0 ∷ []) } ∷ [];
  starts = record { others = []; code = steps (NewObject 22 1 0 ∷ SetComponentField 0 ∷ NewObject 24 0 0 ∷ SetComponentField 1 ∷ []) } ∷ [];
  main = 3;
  handlers = [];
}

dispatch_runs : outcome_of dispatch 1000 None [] [] 1000
    ≡ Some (record { trace = Write 0x38 0x02 ∷ Write 0x38 0x0c ∷ Write 0x38 0x02 ∷ Write 0x38 0x0b ∷ Write 0x38 0x02 ∷ []; ending = Idle })
dispatch_runs = refl

-- Under names.
named_runs : source.outcome_of (named (naming_of texts tables) dispatch) 1000 None [] [] 1000
    ≡ Some (record { trace = Write 0x38 0x02 ∷ Write 0x38 0x0c ∷ Write 0x38 0x02 ∷ Write 0x38 0x0b ∷ Write 0x38 0x02 ∷ []; ending = Idle })
named_runs = refl
