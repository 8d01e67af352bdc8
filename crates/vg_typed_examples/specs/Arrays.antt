-- Arrays, a literal, a length, and an index outside the bounds.
use Rattle.std.specs.Prelude.{◌≡◌, refl, [], ◌∷◌, codes, pos, List, Some, None}
use Rattle.vg_meaning.specs.declared.event.Event.TheVariants.{Write}
use Rattle.vg_meaning.specs.Ending.{Stop}
use Rattle.vg_source.specs.Names.{Name}
use Rattle.vg_source.specs.Types as source_type
use Rattle.vg_examples.specs.Writing as source
use Rattle.vg_core.specs.declared.types.CoreType.TheVariants.{IntType, RawType, CharType, ArrayType, FunctionType, NoType, MoreTypes}
use Rattle.vg_core.specs.declared.value.CoreValue.TheVariants.{Int}
use Rattle.vg_core.specs.declared.operator.Operator.TheVariants.{Plus}
use Rattle.vg_core.specs.declared.step.Step.TheVariants.{Put, Literal, ComponentField, Operate, CastTo, Item, Length, NewArray, SetComponentField}
use Rattle.vg_core.specs.declared.step.Step.TheVariants.{SetRegister, SetItem}
use Rattle.vg_core.specs.declared.program.Owner.TheVariants.{InComponent}
use Rattle.vg_core.specs.declared.program.Target.TheVariants.{Run, Start}
use Rattle.vg_core.specs.declared.program.Tables.{Tables}
use Rattle.vg_core.specs.Program.{Program}
use Rattle.vg_core.specs.Naming.{naming_of, named_type, named}
use Rattle.vg_typed_examples.specs.Writing.{steps, outcome_of}

-- The names of the text.
abbrev pub texts : List Name
texts = codes "Main" ∷ codes "xs" ∷ codes "s" ∷ codes "main" ∷ []

abbrev pub tables : Tables
tables = record {
  classes = [];
  components = 0 ∷ [];
  fields = record { name = 1; owner = InComponent 0; type_ = ArrayType 2; slot = 0 }
      ∷ record { name = 2; owner = InComponent 0; type_ = ArrayType 0; slot = 1 } ∷ [];
  globals = 0 ∷ 1 ∷ [];
  methods = record { name = 3; owner = InComponent 0; selector = 0; function = 5; params = []; result = NoType; nodes = 43 } ∷ [];
  targets = Start 0 ∷ Run 0 ∷ [];
  types = CharType ∷ NoType ∷ IntType ∷ ArrayType 2 ∷ ArrayType 0 ∷ FunctionType 1 1 ∷ MoreTypes 3 1 ∷ FunctionType 6 4 ∷ [];
  literals = codes "hi" ∷ [];
  char_type = 0;
}

-- The literal has the first cell, and the array the second.
--   component Main {
--     field xs: int[] = new int[3];
--     field s: char[] = "hi";
--     method main() {
--       xs[1] = 5; M.PORTB = (xs[1] + xs.length) :: raw.8; M.PORTB = s[1] :: raw.8; xs[3] = 0;
--     }
--   }
--   device M { register PINB = 0x36; register PORTB = 0x38; register INA = 0x39; }
--   program P { entry main = Main.main; }
abbrev pub arrays : Program
arrays = record {
  tables = tables;
  methods = record {
    others = [];
    code = steps (
        ComponentField 0 ∷ Put (Int (pos 1)) ∷ Put (Int (pos 5)) ∷ SetItem 10 2
        ∷ ComponentField 0 ∷ Put (Int (pos 1)) ∷ Item 17 2 ∷ ComponentField 0 ∷ Length 20 2 ∷ Operate 19 Plus IntType IntType
        ∷ CastTo 22 IntType (RawType 8) ∷ SetRegister 0x38
        ∷ ComponentField 1 ∷ Put (Int (pos 1)) ∷ Item 29 0 ∷ CastTo 31 CharType (RawType 8) ∷ SetRegister 0x38
        ∷ ComponentField 0 ∷ Put (Int (pos 3)) ∷ Put (Int (pos 0)) ∷ SetItem 35 2
        ∷ []);
  } ∷ [];
  makings = [];
  starts = record {
    others = [];
    code = steps (Put (Int (pos 3)) ∷ NewArray 3 2 ∷ SetComponentField 0 ∷ Literal 0 ∷ SetComponentField 1 ∷ []);
  } ∷ [];
  main = 0;
  handlers = [];
}

arrays_run : outcome_of arrays 1000 None [] [] 1000 ≡ Some (record { trace = Write 0x38 8 ∷ Write 0x38 105 ∷ []; ending = Stop 2 })
arrays_run = refl

-- Under names.
named_runs : source.outcome_of (named (naming_of texts tables) arrays) 1000 None [] [] 1000
    ≡ Some (record { trace = Write 0x38 8 ∷ Write 0x38 105 ∷ []; ending = Stop 2 })
named_runs = refl

-- The type `function(int[]): char[]`, by its number and by its name.
named_function : named_type (naming_of texts tables) tables (FunctionType 6 4)
    ≡ source_type.FunctionType (source_type.MoreTypes (source_type.ArrayType source_type.IntType) source_type.NoType)
    (source_type.ArrayType source_type.CharType)
named_function = refl
