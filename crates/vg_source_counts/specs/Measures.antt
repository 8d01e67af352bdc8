-- What the steps of a source program take of the values that wait, and what they leave in their place.
use Rattle.std.specs.Prelude.{ℕ, suc, Bool, true, false}
use Rattle.vg_code_counts.specs.Counted.{Measures}
use Rattle.vg_source.specs.Steps.{Step, Apply, Operate, CastTo, IsBelow, Field, Item, Length, MethodOf, CallMethod, CallValue, CallComponent, NewObject}
use Rattle.vg_source.specs.Steps.{NewArray, SetLocal, SetComponentField, SetRegister, SetField, SetItem, Forget, Super}

-- So many of the newest values are taken: the operands and the arguments, and an object or a delegate below them.
abbrev pub takes : Step → ℕ
takes (Apply op) = 1
takes (Operate at op) = 2
takes (CastTo at t) = 1
takes (IsBelow c) = 1
takes (Field at c f) = 1
takes (Item at t) = 2
takes (Length at t) = 1
takes (MethodOf at c m) = 1
takes (CallMethod at c m count) = suc count
takes (CallValue at count ps r) = suc count
takes (CallComponent c m count) = count
takes (NewObject at c count) = count
takes (NewArray at t) = 1
takes (SetLocal k) = 1
takes (SetComponentField c f) = 1
takes (SetRegister address) = 1
takes (SetField at c f) = 2
takes (SetItem at t) = 3
takes Forget = 1
takes (Super c count) = count
takes s = 0

-- So many wait in their place.
abbrev pub leaves : Step → ℕ
leaves (SetLocal k) = 0
leaves (SetComponentField c f) = 0
leaves (SetRegister address) = 0
leaves (SetField at c f) = 0
leaves (SetItem at t) = 0
leaves Forget = 0
leaves (Super c count) = 0
leaves s = 1

-- Whether a step sets a local.
abbrev pub sets : Step → Bool
sets (SetLocal k) = true
sets s = false

abbrev pub source_measures : Measures Step
source_measures = record { takes = takes; leaves = leaves; sets = sets }
