-- A typed program with names in place of its numbers: the source program that it stands for.
use Rattle.std.specs.Prelude.{ℕ, suc, ◌==◌, List, [], ◌∷◌, ◌++◌, length, map, Option, Some, None, slice_get, if◌then◌else◌}
use Rattle.vg_meaning.specs.Code.{Code, Do, replaced}
use Rattle.vg_source.specs.Names.{Name}
use Rattle.vg_source.specs.Types as source_type
use Rattle.vg_source.specs.Types.{StaticType}
use Rattle.vg_source.specs.Values as source_value
use Rattle.vg_source.specs.Values.{FieldValue}
use Rattle.vg_source.specs.Steps as source
use Rattle.vg_source.specs.Steps.{Source}
use Rattle.vg_source.specs.State as source_state
use Rattle.vg_core.specs.declared.types.CoreType.{CoreType}
use Rattle.vg_core.specs.declared.types.CoreType.TheVariants.{IntType, BoolType, CharType, RawType, NullType, ClassType, ArrayType, FunctionType, NoType}
use Rattle.vg_core.specs.declared.types.CoreType.TheVariants.{MoreTypes}
use Rattle.vg_core.specs.declared.value.CoreValue.{CoreValue}
use Rattle.vg_core.specs.declared.value.CoreValue.TheVariants.{Int, Bool as Truth, Char, Raw, Null, Obj, Arr, Bound}
use Rattle.vg_core.specs.declared.heap.Cell.{Cell}
use Rattle.vg_core.specs.declared.heap.Cell.TheVariants.{Object, Array}
use Rattle.vg_core.specs.declared.heap.Heap.{Heap}
use Rattle.vg_core.specs.declared.step.Step.{Step}
use Rattle.vg_core.specs.declared.step.Step.TheVariants.{Put, Literal, This, Local, ComponentField, Register, ComponentMethod, Apply, Operate, CastTo}
use Rattle.vg_core.specs.declared.step.Step.TheVariants.{IsBelow, Field as FieldOf, Item, Length, MethodOf, CallMethod, CallValue, CallComponent}
use Rattle.vg_core.specs.declared.step.Step.TheVariants.{NewObject, NewArray, SetLocal, SetComponentField, SetRegister, SetField, SetItem, Forget, Super}
use Rattle.vg_core.specs.declared.program.Owner.{Owner}
use Rattle.vg_core.specs.declared.program.Owner.TheVariants.{InClass, InComponent}
use Rattle.vg_core.specs.declared.program.Field.{Field}
use Rattle.vg_core.specs.declared.program.Method.{Method}
use Rattle.vg_core.specs.declared.program.Class.{Class}
use Rattle.vg_core.specs.declared.program.Handler.{Handler}
use Rattle.vg_core.specs.declared.program.Tables.{Tables}
use Rattle.vg_core.specs.Tables.{fields_in}
use Rattle.vg_core.specs.declared.program.Target.{Target}
use Rattle.vg_core.specs.declared.program.Target.TheVariants.{Run, Construct, Start}
use Rattle.vg_core.specs.Program.{Body, Program, Signature, signature_of, body_of}
use Rattle.vg_core.specs.Operators.{operator_of, prefix_of}
use Rattle.vg_core.specs.Heap.{default}
use Rattle.vg_core.specs.State.{State}
use Rattle.vg_core.specs.Meaning.{defaults}

-- ---- names

-- The owner of a member, and its name.
pub record Key : Type 0 where
  pub owner : Name
  pub name : Name

-- The names of all numbers.
pub record Naming : Type 0 where
  pub class : ℕ → Name
  pub component : ℕ → Name
  pub field : ℕ → Key
  pub method : ℕ → Key
  pub selector : ℕ → Name

-- The text of a name, where there is one; else no text.
abbrev pub text_in : Option Name → Name
text_in (Some x) = x
text_in None = []

-- The text of the name of this number.
abbrev pub text_at : (texts : List Name) → ℕ → Name
text_at texts x = text_in (slice_get texts x)

abbrev pub class_name : List Name → Option Class → Name
class_name texts (Some k) = text_at texts k.name
class_name texts None = []

abbrev pub component_name : List Name → Option ℕ → Name
component_name texts (Some x) = text_at texts x
component_name texts None = []

-- The name of an owner.
abbrev pub owner_name : List Name → Tables → Owner → Name
owner_name texts p (InClass c) = class_name texts (slice_get p.classes c)
owner_name texts p (InComponent k) = component_name texts (slice_get p.components k)

abbrev pub no_key : Key
no_key = record { owner = []; name = [] }

abbrev pub field_key : List Name → Tables → Option Field → Key
field_key texts p (Some f) = record { owner = owner_name texts p f.owner; name = text_at texts f.name }
field_key texts p None = no_key

abbrev pub method_key : List Name → Tables → Option Method → Key
method_key texts p (Some m) = record { owner = owner_name texts p m.owner; name = text_at texts m.name }
method_key texts p None = no_key

-- The name of the first of these methods that has the selector.
abbrev pub selector_name : List Name → List Method → ℕ → Name
selector_name texts [] s = []
selector_name texts (m ∷ ms) s = if m.selector == s then text_at texts m.name else selector_name texts ms s

-- The names of a program's numbers, where its names are those of these texts.
abbrev pub naming_of : (texts : List Name) → Tables → Naming
naming_of texts p = record {
  class = λ c. class_name texts (slice_get p.classes c);
  component = λ k. component_name texts (slice_get p.components k);
  field = λ f. field_key texts p (slice_get p.fields f);
  method = λ m. method_key texts p (slice_get p.methods m);
  selector = selector_name texts p.methods;
}

-- ---- types

-- The type that was found.
abbrev pub found_type : Option StaticType → StaticType
found_type (Some t) = t
found_type None = source_type.NoType

-- The type of this number among those that are named.
abbrev pub named_number : List StaticType → ℕ → StaticType
named_number ts n = found_type (slice_get ts n)

-- A type, where those that it is made of are named.
abbrev pub named_type_in : Naming → List StaticType → CoreType → StaticType
named_type_in n ts IntType = source_type.IntType
named_type_in n ts BoolType = source_type.BoolType
named_type_in n ts CharType = source_type.CharType
named_type_in n ts (RawType k) = source_type.RawType k
named_type_in n ts NullType = source_type.NullType
named_type_in n ts (ClassType c) = source_type.ClassType (n.class c)
named_type_in n ts (ArrayType t) = source_type.ArrayType (named_number ts t)
named_type_in n ts (FunctionType ps r) = source_type.FunctionType (named_number ts ps) (named_number ts r)
named_type_in n ts NoType = source_type.NoType
named_type_in n ts (MoreTypes t rest) = source_type.MoreTypes (named_number ts t) (named_number ts rest)

-- Types by their numbers, behind those that are named already: a type is made of earlier ones.
abbrev pub named_types : Naming → (done : List StaticType) → List CoreType → List StaticType
named_types n done [] = done
named_types n done (t ∷ ts) = named_types n (done ++ named_type_in n done t ∷ []) ts

module _ (n : Naming) (p : Tables) where
  -- A type.
  abbrev pub named_type : CoreType → StaticType
  named_type t = named_type_in n (named_types n [] p.types) t

  -- A type that was found.
  abbrev pub type_named : Option CoreType → StaticType
  type_named (Some t) = named_type t
  type_named None = source_type.NoType

  -- The type of this number.
  abbrev pub type_at : ℕ → StaticType
  type_at t = type_named (slice_get p.types t)

  -- The row of the parameters' types of a function type.
  abbrev pub params_named : Option CoreType → StaticType
  params_named (Some (FunctionType ps r)) = type_at ps
  params_named _ = source_type.NoType

  -- The type of the result of a function type.
  abbrev pub result_named : Option CoreType → StaticType
  result_named (Some (FunctionType ps r)) = type_at r
  result_named _ = source_type.NoType

  -- ---- steps

  -- A value.
  abbrev pub named_value : CoreValue → source_value.Value
  named_value (Int i) = source_value.Int i
  named_value (Truth b) = source_value.Truth b
  named_value (Char c) = source_value.Char c
  named_value (Raw k x) = source_value.Raw k x
  named_value Null = source_value.Null
  named_value (Obj k) = source_value.Obj k
  named_value (Arr k) = source_value.Arr k
  named_value (Bound r m) = source_value.Bound r (n.method m).owner (n.method m).name

  -- A step.
  abbrev pub named_step : Step → source.Step
  named_step (Put v) = source.Put (named_value v)
  named_step (Literal k) = source.Literal k
  named_step This = source.This
  named_step (Local k) = source.Local k
  named_step (ComponentField f) = source.ComponentField (n.field f).owner (n.field f).name
  named_step (Register a) = source.Register a
  named_step (ComponentMethod m) = source.ComponentMethod (n.method m).owner (n.method m).name
  named_step (Apply op t) = source.Apply (prefix_of op)
  named_step (Operate at op t u) = source.Operate at (operator_of op)
  named_step (CastTo at t u) = source.CastTo at (named_type u)
  named_step (IsBelow c) = source.IsBelow (n.class c)
  named_step (FieldOf at f) = source.Field at (n.field f).owner (n.field f).name
  named_step (Item at t) = source.Item at (type_at t)
  named_step (Length at t) = source.Length at (type_at t)
  named_step (MethodOf at c s) = source.MethodOf at (n.class c) (n.selector s)
  named_step (CallMethod at c s count) = source.CallMethod at (n.class c) (n.selector s) count
  named_step (CallValue at count f) = source.CallValue at count (params_named (slice_get p.types f)) (result_named (slice_get p.types f))
  named_step (CallComponent m count) = source.CallComponent (n.method m).owner (n.method m).name count
  named_step (NewObject at c count) = source.NewObject at (n.class c) count
  named_step (NewArray at t) = source.NewArray at (type_at t)
  named_step (SetLocal k t) = source.SetLocal k
  named_step (SetComponentField f) = source.SetComponentField (n.field f).owner (n.field f).name
  named_step (SetRegister a) = source.SetRegister a
  named_step (SetField at f) = source.SetField at (n.field f).owner (n.field f).name
  named_step (SetItem at t) = source.SetItem at (type_at t)
  named_step Forget = source.Forget
  named_step (Super c count) = source.Super (n.class c) count

  -- A step as code.
  abbrev pub as_named : Step → Code source.Step
  as_named s = Do (named_step s)

  -- Code.
  abbrev pub named_code : Code Step → Code source.Step
  named_code c = replaced as_named c

  -- ---- states

  -- Values under the names of these fields; those beyond them have no name.
  abbrev pub keyed : List ℕ → List CoreValue → List FieldValue
  keyed (f ∷ fs) (v ∷ vs) = record { owner = (n.field f).owner; name = (n.field f).name; value = named_value v } ∷ keyed fs vs
  keyed [] (v ∷ vs) = record { owner = []; name = []; value = named_value v } ∷ keyed [] vs
  keyed fs [] = []

  -- A cell.
  abbrev pub named_cell : Cell → source_value.Cell
  named_cell (Object c vs) = source_value.Object (n.class c) (keyed (fields_in (slice_get p.classes c)) vs)
  named_cell (Array t vs) = source_value.Array (type_at t) (map named_value vs)

  -- A heap.
  abbrev pub named_heap : Heap → source_value.Heap
  named_heap h = record { cells = map named_cell h.cells; globals = keyed p.globals h.globals }

  -- A state.
  abbrev pub named_state : State → source_state.State
  named_state s =
      record { values = map named_value s.values; locals = map named_value s.locals; self = named_value s.self; heap = named_heap s.heap }

  -- ---- programs

  -- A target.
  abbrev pub named_target : Target → source.Target
  named_target (Run m) = source.Method (n.method m).owner (n.method m).name
  named_target (Construct c) = source.Construct (n.class c)
  named_target (Start k) = source.Start (n.component k)

  -- The number that a method has in the order of the text.
  abbrev pub number_in : Target → ℕ
  number_in (Run m) = m
  number_in _ = 0

  -- What runs at a target.
  abbrev pub named_routine : Target → Signature → Body → source.Routine
  named_routine t g b = record {
    target = named_target t;
    number = number_in t;
    params = length g.params;
    others = map named_value (map default b.others);
    missing = named_value (default g.result);
    body = named_code b.code;
  }

  -- A class, with the defaults of its fields.
  abbrev pub named_class : ℕ → Class → source.Class
  named_class c k = record { name = n.class c; above = map n.class k.above; fields = keyed k.fields (defaults p k.fields) }

  -- Classes from this number on.
  abbrev pub named_classes : ℕ → List Class → List source.Class
  named_classes c [] = []
  named_classes c (k ∷ ks) = named_class c k ∷ named_classes (suc c) ks

  -- Components from this number on.
  abbrev pub named_components : ℕ → List ℕ → List Name
  named_components k [] = []
  named_components k (x ∷ xs) = n.component k ∷ named_components (suc k) xs

  -- A handler.
  abbrev pub named_handler : Handler → source.Handler
  named_handler h = record { vector = h.vector; target = named_target (Run h.method) }

module _ (n : Naming) (p : Program) where
  -- What runs at a target, where it has a signature and a body.
  abbrev pub routine_at : Target → Option Signature → Option Body → List source.Routine
  routine_at t (Some g) (Some b) = named_routine n p.tables t g b ∷ []
  routine_at t _ _ = []

  -- What runs at these targets.
  abbrev pub routines_at : List Target → List source.Routine
  routines_at [] = []
  routines_at (t ∷ ts) = routine_at t (signature_of p.tables t) (body_of p t) ++ routines_at ts

  -- The source program.
  abbrev pub named : Source
  named = record {
    classes = named_classes n p.tables 0 p.tables.classes;
    routines = routines_at p.tables.targets;
    components = named_components n p.tables 0 p.tables.components;
    globals = keyed n p.tables p.tables.globals (defaults p.tables p.tables.globals);
    literals = p.tables.literals;
    main = named_target n p.tables (Run p.main);
    handlers = map (named_handler n p.tables) p.handlers;
  }
