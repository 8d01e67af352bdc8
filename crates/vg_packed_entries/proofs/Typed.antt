-- Typed code of components has no step that names an object of its own.
use Rattle.std.specs.Prelude.{ℕ, Bool, true, List}
use Rattle.std.proofs.Common.{◌≡◌}
use Rattle.vg_meaning.specs.Code.{Code, Nothing, Then, Do, If, Loop, Break, Continue, Return}
use Rattle.vg_meaning.specs.Shapes.{Fits}
use Rattle.vg_core.specs.declared.types.CoreType.{CoreType}
use Rattle.vg_core.specs.declared.program.Owner.TheVariants.{InClass, InComponent}
use Rattle.vg_core.specs.declared.program.Tables.{Tables}
use Rattle.vg_core.specs.declared.step.Step.{Step}
use Rattle.vg_core.specs.declared.step.Step.TheVariants.{Put, Literal, This, Local, ComponentField, Register, ComponentMethod, Apply, Operate, CastTo}
use Rattle.vg_core.specs.declared.step.Step.TheVariants.{IsBelow, Field, Item, Length, MethodOf, CallMethod, CallValue, CallComponent, NewObject, NewArray}
use Rattle.vg_core.specs.declared.step.Step.TheVariants.{SetLocal, SetComponentField, SetRegister, SetField, SetItem, Forget, Super}
use Rattle.vg_core.specs.Typing.{Takes, known, t_this}
use Rattle.vg_flat_each.specs.Each.{EachStep}
use Rattle.vg_packed_entries.specs.Entries.{NoThis}

module _ (p : Tables) (ts : List CoreType) (k : ℕ) (r : CoreType) where
  no_object : (c : ℕ) → InComponent k ≡ InClass c → ⊥
  no_object c e = cc

  no_this : (s : Step) (x y : List CoreType) → Takes p ts (InComponent k) s x y → NoThis s
  no_this This x _ (t_this {c = c} e) = no_object c e
  no_this (Put v) x y t = tt
  no_this (Literal a) x y t = tt
  no_this (Local i) x y t = tt
  no_this (ComponentField f) x y t = tt
  no_this (Register a) x y t = tt
  no_this (ComponentMethod m) x y t = tt
  no_this (Apply op u) x y t = tt
  no_this (Operate at op u v) x y t = tt
  no_this (CastTo at u v) x y t = tt
  no_this (IsBelow c) x y t = tt
  no_this (Field at f) x y t = tt
  no_this (Item at u) x y t = tt
  no_this (Length at u) x y t = tt
  no_this (MethodOf at c s) x y t = tt
  no_this (CallMethod at c s count) x y t = tt
  no_this (CallValue at count u) x y t = tt
  no_this (CallComponent m count) x y t = tt
  no_this (NewObject at c count) x y t = tt
  no_this (NewArray at u) x y t = tt
  no_this (SetLocal i u) x y t = tt
  no_this (SetComponentField f) x y t = tt
  no_this (SetRegister a) x y t = tt
  no_this (SetField at f) x y t = tt
  no_this (SetItem at u) x y t = tt
  no_this Forget x y t = tt
  no_this (Super c count) x y t = tt

  pub each_typed : (looped : Bool) (c : Code Step) (x y : List CoreType) → Fits (known p ts (InComponent k) r) looped c x y → EachStep NoThis c
  each_typed looped Nothing x y f = tt
  each_typed looped (Then a b) x y f = (each_typed looped a x f.0 f.1, each_typed looped b f.0 y f.2)
  each_typed looped (Do s) x y f = no_this s x y f
  each_typed looped (If a b) x y f = (each_typed looped a f.0 y f.2, each_typed looped b f.0 y f.3)
  each_typed looped (Loop c body next) x y f = (each_typed looped c _ f.2 f.3, each_typed true body _ _ f.5, each_typed looped next _ _ f.6)
  each_typed looped Break x y f = tt
  each_typed looped Continue x y f = tt
  each_typed looped Return x y f = tt
