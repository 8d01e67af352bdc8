-- Which programs name registers and interrupts of the chip alone.
use Rattle.std.specs.Prelude.{ℕ, List}
use Rattle.std.specs.List.{AllByRecursion}
use Rattle.vg_meaning.specs.Device.{IsDeviceAddress}
use Rattle.vg_meaning.specs.Outside.{IsVector}
use Rattle.vg_core.specs.declared.step.Step.{Step}
use Rattle.vg_core.specs.declared.step.Step.TheVariants.{Register, SetRegister}
use Rattle.vg_core.specs.declared.program.Handler.{Handler}
use Rattle.vg_core.specs.Program.{Program}
use Rattle.vg_live.specs.Uses.{steps_of}

-- What a step reads or writes is a register of a device.
abbrev pub IsOfChip : Step → Type 0
IsOfChip (Register address) = IsDeviceAddress address
IsOfChip (SetRegister address) = IsDeviceAddress address
IsOfChip _ = Unit {0}

abbrev pub AreOfChip : List Step → Type 0
AreOfChip = AllByRecursion IsOfChip

-- Handlers are those of interrupts.
abbrev pub AreOfInterrupts : List Handler → Type 0
AreOfInterrupts = AllByRecursion (λ h. IsVector h.vector)

-- The methods of a program read and write registers of devices alone, and its handlers are those of interrupts.
pub record NamesChip (p : Program) : Type 0 where
  pub registers : (m : ℕ) → AreOfChip (steps_of p m)
  pub handlers : AreOfInterrupts p.handlers
