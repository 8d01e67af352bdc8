-- The pass: each step becomes at most one, but for a call of null with very many arguments.
use Rattle.std.specs.Prelude.{ℕ, zero, suc, Bool, true, false, nat_lt, if◌then◌else◌, Option, Some, None, map, length}
use Rattle.vg_meaning.specs.Code.{Code, Nothing, Then, Do, replaced}
use Rattle.vg_codes.specs.Codes.{Codes}
use Rattle.vg_core.specs.declared.types.CoreType.{CoreType}
use Rattle.vg_core.specs.declared.types.CoreType.TheVariants.{IntType, CharType, RawType, ClassType}
use Rattle.vg_core.specs.declared.program.Owner.{Owner}
use Rattle.vg_core.specs.declared.program.Owner.TheVariants.{InClass, InComponent}
use Rattle.vg_core.specs.declared.program.Tables.{Tables}
use Rattle.vg_core.specs.declared.step.Step.{Step}
use Rattle.vg_core.specs.declared.step.Step.TheVariants.{Put, Literal, This, Local, ComponentField, Register, ComponentMethod, Apply, Operate, CastTo}
use Rattle.vg_core.specs.declared.step.Step.TheVariants.{IsBelow, Field, Item, Length, MethodOf, CallMethod, CallValue, CallComponent, NewObject, NewArray}
use Rattle.vg_core.specs.declared.step.Step.TheVariants.{SetLocal, SetComponentField, SetRegister, SetField, SetItem, Forget, Super}
use Rattle.vg_core.specs.Tables.{field_type}
use Rattle.vg_core.specs.Program.{Signature, Body}
use Rattle.vg_core.specs.Typing.{locals_of}
use Rattle.vg_firm.specs.declared.step.Step.{Step as FirmStep}
use Rattle.vg_firm.specs.declared.step.Step.TheVariants as firm
use Rattle.vg_firm.specs.declared.step.Prefix.{Prefix}
use Rattle.vg_firm.specs.Program.{Procedure}
use Rattle.vg_coded.specs.Numbers.{coded, known}
use Rattle.vg_coded.specs.Widths.{width_of}
use Rattle.vg_coded.specs.Operators.{operator_for, prefix_for, cut_for}
use Rattle.vg_packing.specs.Layout.{Column, Layout, first_with}
use Rattle.vg_pairs.specs.Pairs.{without_pairs}

-- The bytes of a field in its column.
abbrev pub width_in : Layout → Option CoreType → ℕ
width_in l (Some t) = l.width t
width_in l None = 0

abbrev pub load : Option Column → FirmStep
load (Some c) = firm.Load c.home c.column
load None = firm.Number 0

-- A value that no live method reads is dropped.
abbrev pub store : Option Column → (width : ℕ) → FirmStep
store (Some c) width = firm.Store c.column width
store None width = firm.Forget

-- No live object has a field without a column that is read.
abbrev pub load_at : Option Column → (first : ℕ) → FirmStep
load_at (Some c) first = firm.LoadAt c.home c.column first
load_at None first = firm.LoadNothing

-- A dropped store keeps its null check.
abbrev pub store_at : Option Column → (first width : ℕ) → FirmStep
store_at (Some c) first width = firm.StoreAt c.column first width
store_at None first width = firm.StoreNothing

abbrev pub cut : Option Prefix → Code FirmStep
cut (Some op) = Do (firm.Apply op)
cut None = Nothing

-- A cast from a type to a type.
abbrev pub cast : Layout → (t u : CoreType) → Code FirmStep
cast l t IntType = cut (cut_for t IntType)
cast l t CharType = cut (cut_for t CharType)
cast l t (RawType k) = cut (cut_for t (RawType k))
cast l t (ClassType c) = Do (firm.StopUnlessWithin (l.first c) (l.count c))
cast l t _ = Nothing

-- So many values are dropped, and then the code is done.
abbrev pub forgets : ℕ → Code FirmStep → Code FirmStep
forgets zero c = c
forgets (suc n) c = Then (Do firm.Forget) (forgets n c)

-- A call of the delegate below so many arguments. No method of a text has more than 60 parameters, so null alone can be called with more arguments:
-- they are dropped, and the null check stays.
abbrev pub call_value : (count : ℕ) → Code FirmStep
call_value count = if nat_lt count 61 then Do (firm.CallValue count) else forgets count (Do firm.LoadNothing)

-- What stands for a step. Nothing is made in a run.
abbrev pub move : Tables → Layout → Codes → Step → Code FirmStep
move p l k (Put v) = Do (firm.Number (coded l.numbering k v))
move p l k (Literal a) = Do (firm.Number (l.numbering.number a))
move p l k This = Do firm.This
move p l k (Local i) = Do (firm.Local i)
move p l k (ComponentField f) = Do (load (l.column f))
move p l k (Register a) = Do (firm.ReadDevice a)
move p l k (ComponentMethod m) = Do (firm.Bind (known (l.numbering.procedure m)))
move p l k (Apply op t) = Do (firm.Apply (prefix_for op t))
move p l k (Operate at op t u) = Do (firm.Operate (operator_for op t u))
move p l k (CastTo at t u) = cast l t u
move p l k (IsBelow c) = Do (firm.IsWithin (l.first c) (l.count c))
move p l k (Field at f) = Do (load_at (l.column f) (first_with p l f))
move p l k (Item at t) = Do (firm.LoadItem (l.items t))
move p l k (Length at t) = Do (firm.Length (l.items t).table)
move p l k (MethodOf at c s) = Do (firm.BindFor (l.dispatch c s))
move p l k (CallMethod at c s count) = Do (firm.CallFor (l.dispatch c s) count)
move p l k (CallValue at count t) = call_value count
move p l k (CallComponent m count) = Do (firm.Call (known (l.numbering.procedure m)) count)
move p l k (SetLocal i t) = Do (firm.SetLocal i)
move p l k (SetComponentField f) = Do (store (l.column f) (width_in l (field_type p f)))
move p l k (SetRegister a) = Do (firm.WriteDevice a)
move p l k (SetField at f) = Do (store_at (l.column f) (first_with p l f) (width_in l (field_type p f)))
move p l k (SetItem at t) = Do (firm.StoreItem (l.items t))
move p l k Forget = Do firm.Forget
move p l k (NewObject at c count) = Nothing
move p l k (NewArray at t) = Nothing
move p l k (Super c count) = Nothing

-- Whether it is a class that declares a method.
abbrev pub is_class : Owner → Bool
is_class (InClass c) = true
is_class (InComponent c) = false

-- The procedure of a method: each two operators, one behind the other, are dropped, and then each step is replaced.
abbrev pub packed : Tables → Layout → Codes → (m : ℕ) → Signature → Body → Procedure
packed p l k m g b =
    record {
      method = m;
      params = length g.params;
      receives = l.receives m;
      on_objects = is_class g.owner;
      widths = map width_of (locals_of g b);
      result = width_of g.result;
      calls = l.edges m;
      body = replaced (move p l k) (without_pairs b.code);
    }
