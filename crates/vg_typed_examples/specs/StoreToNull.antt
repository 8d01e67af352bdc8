-- A store to a field of null.
use Rattle.std.specs.Prelude.{◌≡◌, refl, [], ◌∷◌, codes, pos, List, Some, None}
use Rattle.vg_meaning.specs.declared.event.Event.TheVariants.{Write}
use Rattle.vg_meaning.specs.Ending.{Stop}
use Rattle.vg_meaning.specs.Code.{Nothing}
use Rattle.vg_source.specs.Names.{Name}
use Rattle.vg_examples.specs.Writing as source
use Rattle.vg_core.specs.declared.types.CoreType.TheVariants.{IntType, CharType, ClassType, FunctionType, NoType}
use Rattle.vg_core.specs.declared.value.CoreValue.TheVariants.{Int, Raw}
use Rattle.vg_core.specs.declared.step.Step.TheVariants.{Put, ComponentField}
use Rattle.vg_core.specs.declared.step.Step.TheVariants.{SetRegister, SetField}
use Rattle.vg_core.specs.declared.program.Owner.TheVariants.{InClass, InComponent}
use Rattle.vg_core.specs.declared.program.Target.TheVariants.{Run, Construct, Start}
use Rattle.vg_core.specs.declared.program.Tables.{Tables}
use Rattle.vg_core.specs.Program.{Program}
use Rattle.vg_core.specs.Naming.{naming_of, named}
use Rattle.vg_typed_examples.specs.Writing.{steps, outcome_of}

-- The names of the text.
abbrev pub texts : List Name
texts = codes "A" ∷ codes "log" ∷ codes "Main" ∷ codes "a" ∷ codes "main" ∷ []

abbrev pub tables : Tables
tables = record {
  classes = record { name = 0; above = 0 ∷ []; fields = 0 ∷ []; methods = []; params = [] } ∷ [];
  components = 2 ∷ [];
  fields = record { name = 1; owner = InClass 0; type_ = IntType; slot = 0 } ∷ record { name = 3; owner = InComponent 0; type_ = ClassType 0; slot = 0 } ∷ [];
  globals = 1 ∷ [];
  methods = record { name = 4; owner = InComponent 0; selector = 0; function = 2; params = []; result = NoType; nodes = 18 } ∷ [];
  targets = Construct 0 ∷ Start 0 ∷ Run 0 ∷ [];
  types = CharType ∷ NoType ∷ FunctionType 1 1 ∷ [];
  literals = [];
  char_type = 0;
}

-- The null check comes behind the right side.
--   class A { field log: int; }
--   component Main { field a: A; method main() { M.PORTB = 0x01; a.log = 5; M.PORTB = 0x02; } }
--   device M { register PINB = 0x36; register PORTB = 0x38; register INA = 0x39; }
--   program P { entry main = Main.main; }
abbrev pub store_to_null : Program
store_to_null = record {
  tables = tables;
  methods = record {
    others = [];
    code = steps (Put (Raw 8 1) ∷ SetRegister 0x38 ∷ ComponentField 1 ∷ Put (Int (pos 5)) ∷ SetField 15 0 ∷ Put (Raw 8 2) ∷ SetRegister 0x38 ∷ []);
  } ∷ [];
  makings = record { others = []; code = Nothing } ∷ [];
  starts = record { others = []; code = Nothing } ∷ [];
  main = 0;
  handlers = [];
}

store_to_null_runs : outcome_of store_to_null 1000 None [] [] 1000 ≡ Some (record { trace = Write 0x38 0x01 ∷ []; ending = Stop 1 })
store_to_null_runs = refl

-- Under names.
named_runs : source.outcome_of (named (naming_of texts tables) store_to_null) 1000 None [] [] 1000
    ≡ Some (record { trace = Write 0x38 0x01 ∷ []; ending = Stop 1 })
named_runs = refl
