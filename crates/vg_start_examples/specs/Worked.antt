-- A worked program with an object, its heap, its layout, and what it is packed to.
use Rattle.std.specs.Prelude.{◌≡◌, refl, ℕ, zero, suc, Bool, true, false, List, [], ◌∷◌, Option, Some, None, slice_get, pos}
use Rattle.vg_meaning.specs.Code.{Nothing, Then, Do}
use Rattle.vg_codes.specs.Codes.{Codes}
use Rattle.vg_core.specs.declared.types.CoreType.TheVariants.{IntType, CharType, ClassType, FunctionType, NoType}
use Rattle.vg_core.specs.declared.value.CoreValue.TheVariants.{Int, Obj}
use Rattle.vg_core.specs.declared.heap.Cell.TheVariants.{Object}
use Rattle.vg_core.specs.declared.heap.Heap.{Heap}
use Rattle.vg_core.specs.declared.step.Step.TheVariants.{ComponentField, Field as FieldOf, Forget, NewObject, SetComponentField}
use Rattle.vg_core.specs.declared.program.Owner.TheVariants.{InClass, InComponent}
use Rattle.vg_core.specs.declared.program.Target.TheVariants.{Run, Construct, Start}
use Rattle.vg_core.specs.Heap.{Kind, ObjectOf}
use Rattle.vg_core.specs.Program.{Body, Program, Signature}
use Rattle.vg_core.specs.Session.{started, Started}
use Rattle.vg_firm.specs.declared.step.Home.TheVariants.{Ram}
use Rattle.vg_firm.specs.Program.{Program as FirmProgram}
use Rattle.vg_packing.specs.Layout.{Column, Layout}
use Rattle.vg_packing.specs.Pass.{packed}
use Rattle.vg_numbers.specs.Numbers.{number, first, count}
use Rattle.vg_placement.specs.Columns.{column_width, item_width}

abbrev pub main_body : Body
main_body = record { others = []; code = Then (Do (ComponentField 1)) (Then (Do (FieldOf 8 0)) (Do Forget)) }

--   class A { field log: int; }
--   component Main { field a: A = new A(); method main() { a.log; } }
--   program P { entry main = Main.main; }
abbrev pub program : Program
program = record {
  tables = record {
    classes = record { name = 0; above = 0 ∷ []; fields = 0 ∷ []; methods = []; params = [] } ∷ [];
    components = 2 ∷ [];
    fields = record { name = 1; owner = InClass 0; type_ = IntType; slot = 0 } ∷ record { name = 3; owner = InComponent 0; type_ = ClassType 0; slot = 0 } ∷ [];
    globals = 1 ∷ [];
    methods = record { name = 4; owner = InComponent 0; selector = 0; function = 2; params = []; result = NoType; nodes = 5 } ∷ [];
    targets = Construct 0 ∷ Start 0 ∷ Run 0 ∷ [];
    types = CharType ∷ NoType ∷ FunctionType 1 1 ∷ [];
    literals = [];
    char_type = 0;
  };
  methods = main_body ∷ [];
  makings = record { others = []; code = Nothing } ∷ [];
  starts = record { others = []; code = Then (Do (NewObject 7 0 0)) (Do (SetComponentField 1)) } ∷ [];
  main = 0;
  handlers = [];
}

-- The heap that its constructors leave.
abbrev pub heap : Heap
heap = record { cells = Object 0 (Int (pos 0) ∷ []) ∷ []; globals = Obj 0 ∷ [] }

pub started_so : started program 1000 ≡ Started heap
started_so = refl

abbrev pub kinds : List Kind
kinds = ObjectOf 0 ∷ []

abbrev pub kept : ℕ → Bool
kept j = true

-- Both fields have columns in RAM.
abbrev pub column_of : ℕ → Option Column
column_of zero = Some (record { home = Ram; column = 0 })
column_of (suc zero) = Some (record { home = Ram; column = 1 })
column_of (suc (suc f)) = None

abbrev pub procedure_of : ℕ → Option ℕ
procedure_of zero = Some 0
procedure_of (suc m) = None

abbrev pub layout : Layout
layout = record {
  numbering = record { number = number program.tables kinds kept; procedure = procedure_of; bindable = λ m. false };
  kinds = kinds;
  first = first program.tables kinds kept;
  count = count program.tables kinds kept;
  column = column_of;
  width = column_width;
  items = λ t. record { home = Ram; column = 2; table = 0; address = 0; width = item_width (slice_get program.tables.types t) };
  start = λ j. 0;
  dispatch = λ c s. 0;
  receives = λ m. false;
  edges = λ m. [];
}

-- The code number of the procedure q is q + 1.
abbrev pub at_code : ℕ → Option ℕ
at_code zero = None
at_code (suc q) = Some q

abbrev pub codes : Codes
codes = record { code = suc; at_code = at_code }

abbrev pub main_signature : Signature
main_signature = record { owner = InComponent 0; params = []; result = NoType }

-- What the program is packed to: `log` of the object is 0, and `a` is the object 1.
abbrev pub firm : FirmProgram
firm = record {
  flash = [];
  tables = [];
  ram = (0 ∷ []) ∷ (1 ∷ []) ∷ [];
  procedures = packed program.tables layout codes 0 main_signature main_body ∷ [];
  dispatches = [];
  main = 0;
  handler = λ v. None;
}
