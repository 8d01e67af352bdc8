-- When code is not expanded.
use Rattle.std.specs.Prelude.{◌*◌, ◌<◌, List, length, Result, Ok, Err}
use Rattle.vg_base.specs.declared.refusal.Refusal.{Refusal}
use Rattle.vg_base.specs.declared.refusal.Refusal.TheVariants.{Fault as Faulty, NoMemory as Memory}
use Rattle.vg_lin.specs.declared.instr.Instr.{Instr}
use Rattle.vg_expand.specs.declared.too_long.TooLong.{TooLong}

-- There are more than 32,767 instructions: at most two stand for one, so fewer ones all get a place.
abbrev pub IsCause : Refusal TooLong → List Instr → Type 0
IsCause Memory is = Unit {0}
IsCause (Faulty why) is = 65535 < 2 * length is

abbrev pub IsRefusedFor : {A : Type 0} → Result A (Refusal TooLong) → List Instr → Type 0
IsRefusedFor (Ok x) is = Unit {0}
IsRefusedFor (Err e) is = IsCause e is
