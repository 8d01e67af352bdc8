-- A step of a typed program takes and leaves as many values as the step of the source program for which it stands.
use Rattle.std.proofs.Common.{◌≡◌, refl, true}
use Rattle.vg_code_counts.specs.Counted.{AreAlike}
use Rattle.vg_core.specs.declared.program.Tables.{Tables}
use Rattle.vg_core.specs.declared.step.Step.{Step}
use Rattle.vg_core.specs.declared.step.Step.TheVariants.{Put, Literal, This, Local, ComponentField, Register, ComponentMethod, Apply, Operate, CastTo}
use Rattle.vg_core.specs.declared.step.Step.TheVariants.{IsBelow, Field, Item, Length, MethodOf, CallMethod, CallValue, CallComponent, NewObject, NewArray}
use Rattle.vg_core.specs.declared.step.Step.TheVariants.{SetLocal, SetComponentField, SetRegister, SetField, SetItem, Forget, Super}
use Rattle.vg_core.specs.Naming.{Naming, named_step}
use Rattle.vg_packed_typed.specs.Measured.{takes, leaves, sets, core_measures}
use Rattle.vg_source_counts.specs.Measures as source

module _ (n : Naming) (p : Tables) where
  takes_alike : (s : Step) → source.takes (named_step n p s) ≡ takes s
  takes_alike (Put v) = refl
  takes_alike (Literal k) = refl
  takes_alike This = refl
  takes_alike (Local k) = refl
  takes_alike (ComponentField f) = refl
  takes_alike (Register a) = refl
  takes_alike (ComponentMethod m) = refl
  takes_alike (Apply op t) = refl
  takes_alike (Operate at op t u) = refl
  takes_alike (CastTo at t u) = refl
  takes_alike (IsBelow c) = refl
  takes_alike (Field at f) = refl
  takes_alike (Item at t) = refl
  takes_alike (Length at t) = refl
  takes_alike (MethodOf at c s) = refl
  takes_alike (CallMethod at c s count) = refl
  takes_alike (CallValue at count f) = refl
  takes_alike (CallComponent m count) = refl
  takes_alike (NewObject at c count) = refl
  takes_alike (NewArray at t) = refl
  takes_alike (SetLocal k t) = refl
  takes_alike (SetComponentField f) = refl
  takes_alike (SetRegister a) = refl
  takes_alike (SetField at f) = refl
  takes_alike (SetItem at t) = refl
  takes_alike Forget = refl
  takes_alike (Super c count) = refl

  leaves_alike : (s : Step) → source.leaves (named_step n p s) ≡ leaves s
  leaves_alike (Put v) = refl
  leaves_alike (Literal k) = refl
  leaves_alike This = refl
  leaves_alike (Local k) = refl
  leaves_alike (ComponentField f) = refl
  leaves_alike (Register a) = refl
  leaves_alike (ComponentMethod m) = refl
  leaves_alike (Apply op t) = refl
  leaves_alike (Operate at op t u) = refl
  leaves_alike (CastTo at t u) = refl
  leaves_alike (IsBelow c) = refl
  leaves_alike (Field at f) = refl
  leaves_alike (Item at t) = refl
  leaves_alike (Length at t) = refl
  leaves_alike (MethodOf at c s) = refl
  leaves_alike (CallMethod at c s count) = refl
  leaves_alike (CallValue at count f) = refl
  leaves_alike (CallComponent m count) = refl
  leaves_alike (NewObject at c count) = refl
  leaves_alike (NewArray at t) = refl
  leaves_alike (SetLocal k t) = refl
  leaves_alike (SetComponentField f) = refl
  leaves_alike (SetRegister a) = refl
  leaves_alike (SetField at f) = refl
  leaves_alike (SetItem at t) = refl
  leaves_alike Forget = refl
  leaves_alike (Super c count) = refl

  sets_alike : (s : Step) → sets s ≡ true → source.sets (named_step n p s) ≡ true
  sets_alike (SetLocal k t) e = refl
  sets_alike (Put v) e = cc
  sets_alike (Literal k) e = cc
  sets_alike This e = cc
  sets_alike (Local k) e = cc
  sets_alike (ComponentField f) e = cc
  sets_alike (Register a) e = cc
  sets_alike (ComponentMethod m) e = cc
  sets_alike (Apply op t) e = cc
  sets_alike (Operate at op t u) e = cc
  sets_alike (CastTo at t u) e = cc
  sets_alike (IsBelow c) e = cc
  sets_alike (Field at f) e = cc
  sets_alike (Item at t) e = cc
  sets_alike (Length at t) e = cc
  sets_alike (MethodOf at c s) e = cc
  sets_alike (CallMethod at c s count) e = cc
  sets_alike (CallValue at count f) e = cc
  sets_alike (CallComponent m count) e = cc
  sets_alike (NewObject at c count) e = cc
  sets_alike (NewArray at t) e = cc
  sets_alike (SetComponentField f) e = cc
  sets_alike (SetRegister a) e = cc
  sets_alike (SetField at f) e = cc
  sets_alike (SetItem at t) e = cc
  sets_alike Forget e = cc
  sets_alike (Super c count) e = cc

  pub alike : AreAlike core_measures source.source_measures (named_step n p)
  alike = record { takes = takes_alike; leaves = leaves_alike; sets = sets_alike }
