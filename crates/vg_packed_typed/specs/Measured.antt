-- What the steps of a typed program take of the values that wait, and what they leave in their place.
use Rattle.std.specs.Prelude.{ℕ, suc, Bool, true, false}
use Rattle.vg_code_counts.specs.Counted.{Measures}
use Rattle.vg_core.specs.declared.step.Step.{Step}
use Rattle.vg_core.specs.declared.step.Step.TheVariants.{Apply, Operate, CastTo, IsBelow, Field, Item, Length, MethodOf, CallMethod, CallValue}
use Rattle.vg_core.specs.declared.step.Step.TheVariants.{CallComponent, NewObject, NewArray, SetLocal, SetComponentField, SetRegister, SetField}
use Rattle.vg_core.specs.declared.step.Step.TheVariants.{SetItem, Forget, Super}

-- So many of the newest values are taken: the operands and the arguments, and an object or a delegate below them.
abbrev pub takes : Step → ℕ
takes (Apply op t) = 1
takes (Operate at op t u) = 2
takes (CastTo at t u) = 1
takes (IsBelow c) = 1
takes (Field at f) = 1
takes (Item at t) = 2
takes (Length at t) = 1
takes (MethodOf at c s) = 1
takes (CallMethod at c s count) = suc count
takes (CallValue at count t) = suc count
takes (CallComponent m count) = count
takes (NewObject at c count) = count
takes (NewArray at t) = 1
takes (SetLocal i t) = 1
takes (SetComponentField f) = 1
takes (SetRegister address) = 1
takes (SetField at f) = 2
takes (SetItem at t) = 3
takes Forget = 1
takes (Super c count) = count
takes p = 0

-- So many wait in their place.
abbrev pub leaves : Step → ℕ
leaves (SetLocal i t) = 0
leaves (SetComponentField f) = 0
leaves (SetRegister address) = 0
leaves (SetField at f) = 0
leaves (SetItem at t) = 0
leaves Forget = 0
leaves (Super c count) = 0
leaves p = 1

-- Whether a step sets a local.
abbrev pub sets : Step → Bool
sets (SetLocal i t) = true
sets p = false

abbrev pub core_measures : Measures Step
core_measures = record { takes = takes; leaves = leaves; sets = sets }
