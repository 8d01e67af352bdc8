-- What the code of a guess keeps of what flattened code has.
use Rattle.std.specs.Prelude.{◌≡◌, ◌⊎◌, ◌+◌, ◌<◌, List, length}
use Rattle.std.specs.List.{AllByRecursion, AllZip}
use Rattle.vg_meaning.specs.Device.{IsDeviceAddress}
use Rattle.vg_lin.specs.declared.instr.Call.{Call as Calling}
use Rattle.vg_lin.specs.declared.instr.Plain.{Plain as PlainInstr}
use Rattle.vg_lin.specs.declared.instr.Plain.TheVariants.{DivideSteps, ReadDevice, WriteDevice}
use Rattle.vg_lin.specs.declared.instr.Instr.{Instr}
use Rattle.vg_lin.specs.declared.instr.Instr.TheVariants.{Plain, Call}
use Rattle.vg_lin.specs.Meaning.{operands}
use Rattle.vg_lin.specs.Program.{Procedure}

-- An instruction reads and writes device registers alone, and is no step of a division, which only routines have.
abbrev pub IsPlainApt : PlainInstr → Type 0
IsPlainApt (DivideSteps r d a) = ⊥
IsPlainApt (ReadDevice to address) = IsDeviceAddress address
IsPlainApt (WriteDevice address a) = IsDeviceAddress address
IsPlainApt q = Unit {0}

-- A call pushes no argument, or has more than four.
abbrev pub Splits : Calling → Type 0
Splits c = (c.pushed ≡ 0) ⊎ (4 < c.pushed + length (operands c.registers))

abbrev pub IsApt : Instr → Type 0
IsApt (Plain q) = IsPlainApt q
IsApt (Call c) = Splits c
IsApt i = Unit {0}

abbrev pub AreApt : List Instr → Type 0
AreApt = AllByRecursion IsApt

-- If the code of a procedure has this, that of another one keeps it.
abbrev pub KeepsApt : Procedure → Procedure → Type 0
KeepsApt old new = AreApt old.code → AreApt new.code

-- One for one.
abbrev pub AllKeepApt : List Procedure → List Procedure → Type 0
AllKeepApt = AllZip KeepsApt
