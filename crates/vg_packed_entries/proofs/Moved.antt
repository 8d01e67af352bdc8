-- What is packed of code that names no object of its own names no receiver.
use Rattle.std.specs.Prelude.{ℕ, zero, suc, Bool, true, false, nat_lt, Option, Some, None, if◌then◌else◌}
use Rattle.vg_meaning.specs.Code.{Code, Nothing, Then, Do, If, Loop, Break, Continue, Return, replaced}
use Rattle.vg_codes.specs.Codes.{Codes}
use Rattle.vg_core.specs.declared.types.CoreType.{CoreType}
use Rattle.vg_core.specs.declared.types.CoreType.TheVariants.{IntType, CharType, RawType, ClassType}
use Rattle.vg_core.specs.declared.operator.Prefix.{Prefix}
use Rattle.vg_core.specs.declared.program.Tables.{Tables}
use Rattle.vg_core.specs.declared.step.Step.{Step}
use Rattle.vg_core.specs.declared.step.Step.TheVariants.{Put, Literal, This, Local, ComponentField, Register, ComponentMethod, Apply, Operate, CastTo}
use Rattle.vg_core.specs.declared.step.Step.TheVariants.{IsBelow, Field, Item, Length, MethodOf, CallMethod, CallValue, CallComponent, NewObject, NewArray}
use Rattle.vg_core.specs.declared.step.Step.TheVariants.{SetLocal, SetComponentField, SetRegister, SetField, SetItem, Forget, Super}
use Rattle.vg_core.specs.Tables.{field_type}
use Rattle.vg_firm.specs.declared.step.Step.{Step as FirmStep}
use Rattle.vg_firm.specs.declared.step.Step.TheVariants as firm
use Rattle.vg_firm.specs.declared.step.Prefix.{Prefix as FirmPrefix}
use Rattle.vg_coded.specs.Operators.{cut_for}
use Rattle.vg_packing.specs.Layout.{Column, Layout, first_with}
use Rattle.vg_packing.specs.Pass.{width_in, load, store, load_at, store_at, cut, cast, forgets, call_value, move}
use Rattle.vg_pairs.specs.Pairs.{prefix_in, behind, paired, unpaired}
use Rattle.vg_flat_each.specs.Each.{EachStep}
use Rattle.vg_flat_names.specs.Names.{NoReceiver}
use Rattle.vg_packed_entries.specs.Entries.{NoThis}

-- ---- pairs of operators

-- An operator that may wait.
abbrev Waiting : Type 0
Waiting = Option (Prefix × CoreType)

each_behind : (o : Waiting) (c : Code Step) → EachStep NoThis c → EachStep NoThis (behind o c)
each_behind None c h = h
each_behind (Some (op, t)) c h = (tt, h)

each_paired : (o this : Waiting) (c : Code Step) (rest : Waiting → Code Step) → EachStep NoThis c → ((w : Waiting) → EachStep NoThis (rest w))
    → EachStep NoThis (paired o this c rest)
each_paired None None c rest h g = (h, g None)
each_paired None (Some q) c rest h g = g (Some q)
each_paired (Some (op, t)) None c rest h g = (tt, (h, g None))
each_paired (Some w) (Some q) c rest h g = (tt, g None)

pub each_unpaired : (o : Waiting) (c : Code Step) → EachStep NoThis c → EachStep NoThis (unpaired o c)
each_unpaired o Nothing h = each_behind o Nothing tt
each_unpaired o (Then a b) (h, g) =
    each_paired o (prefix_in a) (unpaired None a) (λ this. unpaired this b) (each_unpaired None a h) (λ w. each_unpaired w b g)
each_unpaired o (Do s) h = each_behind o (Do s) h
each_unpaired o (If a b) (h, g) = each_behind o (If (unpaired None a) (unpaired None b)) (each_unpaired None a h, each_unpaired None b g)
each_unpaired o (Loop c body next) (h, g, i) =
    each_behind o (Loop (unpaired None c) (unpaired None body) (unpaired None next))
    (each_unpaired None c h, each_unpaired None body g, each_unpaired None next i)
each_unpaired o Break h = each_behind o Break tt
each_unpaired o Continue h = each_behind o Continue tt
each_unpaired o Return h = each_behind o Return tt

-- ---- what stands for a step

-- No step of packed code names the receiver.
abbrev Spares : Code FirmStep → Type 0
Spares c = EachStep NoReceiver c

spares_load : (o : Option Column) → NoReceiver (load o)
spares_load (Some c) = tt
spares_load None = tt

spares_store : (o : Option Column) (width : ℕ) → NoReceiver (store o width)
spares_store (Some c) width = tt
spares_store None width = tt

spares_load_at : (o : Option Column) (first : ℕ) → NoReceiver (load_at o first)
spares_load_at (Some c) first = tt
spares_load_at None first = tt

spares_store_at : (o : Option Column) (first width : ℕ) → NoReceiver (store_at o first width)
spares_store_at (Some c) first width = tt
spares_store_at None first width = tt

spares_cut : (o : Option FirmPrefix) → Spares (cut o)
spares_cut (Some op) = tt
spares_cut None = tt

spares_cast : (l : Layout) (t u : CoreType) → Spares (cast l t u)
spares_cast l t IntType = spares_cut (cut_for t IntType)
spares_cast l t CharType = spares_cut (cut_for t CharType)
spares_cast l t (RawType k) = spares_cut (cut_for t (RawType k))
spares_cast l t (ClassType c) = tt
spares_cast l t _ = tt

spares_forgets : (count : ℕ) → Spares (forgets count (Do firm.LoadNothing))
spares_forgets zero = tt
spares_forgets (suc count) = (tt, spares_forgets count)

spares_value : (count : ℕ) → Spares (call_value count)
spares_value count = by (nat_lt count 61)
  where
    by : (b : Bool) → Spares (if b then Do (firm.CallValue count) else forgets count (Do firm.LoadNothing))
    by true = tt
    by false = spares_forgets count

module _ (p : Tables) (l : Layout) (k : Codes) where
  spares_move : (s : Step) → NoThis s → Spares (move p l k s)
  spares_move (Put v) h = tt
  spares_move (Literal a) h = tt
  spares_move This h = absurd h
  spares_move (Local i) h = tt
  spares_move (ComponentField f) h = spares_load (l.column f)
  spares_move (Register a) h = tt
  spares_move (ComponentMethod m) h = tt
  spares_move (Apply op t) h = tt
  spares_move (Operate at op t u) h = tt
  spares_move (CastTo at t u) h = spares_cast l t u
  spares_move (IsBelow c) h = tt
  spares_move (Field at f) h = spares_load_at (l.column f) (first_with p l f)
  spares_move (Item at t) h = tt
  spares_move (Length at t) h = tt
  spares_move (MethodOf at c s) h = tt
  spares_move (CallMethod at c s count) h = tt
  spares_move (CallValue at count t) h = spares_value count
  spares_move (CallComponent m count) h = tt
  spares_move (NewObject at c count) h = tt
  spares_move (NewArray at t) h = tt
  spares_move (SetLocal i t) h = tt
  spares_move (SetComponentField f) h = spares_store (l.column f) (width_in l (field_type p f))
  spares_move (SetRegister a) h = tt
  spares_move (SetField at f) h = spares_store_at (l.column f) (first_with p l f) (width_in l (field_type p f))
  spares_move (SetItem at t) h = tt
  spares_move Forget h = tt
  spares_move (Super c count) h = tt

  pub spares_replaced : (c : Code Step) → EachStep NoThis c → Spares (replaced (move p l k) c)
  spares_replaced Nothing h = tt
  spares_replaced (Then a b) (h, g) = (spares_replaced a h, spares_replaced b g)
  spares_replaced (Do s) h = spares_move s h
  spares_replaced (If a b) (h, g) = (spares_replaced a h, spares_replaced b g)
  spares_replaced (Loop c body next) (h, g, i) = (spares_replaced c h, spares_replaced body g, spares_replaced next i)
  spares_replaced Break h = tt
  spares_replaced Continue h = tt
  spares_replaced Return h = tt
