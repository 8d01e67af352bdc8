-- What a machine holds: bytes, and addresses of sixteen bits.
use Rattle.std.specs.Prelude.{ℕ, ◌<◌, List, slice_index}
use Rattle.vg_meaning.specs.Outside.{AreReads, AreVectors}
use Rattle.avr_isa.specs.Cpu.{CpuState, flash_byte}
use Rattle.avr_isa.specs.Machine.{State}

-- each number of the list is a byte; behind its end it counts as 0
abbrev pub AreBytes : List ℕ → Type 0
AreBytes numbers = (k : ℕ) → slice_index numbers k < 256

-- the flash is made of bytes
abbrev pub IsFlash : List ℕ → Type 0
IsFlash flash = (address : ℕ) → flash_byte flash address < 256

-- the processor holds bytes; SP is a data address and PC a word address of sixteen bits
pub record HasBytes (cpu : CpuState) : Type 0 where
  pub registers : AreBytes cpu.registers
  pub sram : AreBytes cpu.sram
  pub sreg : cpu.sreg < 256
  pub rampz : cpu.rampz < 256
  pub sp : cpu.sp < 65536
  pub pc : cpu.pc < 65536

-- so does the machine, and its outside gives bytes and interrupts of the chip
pub record HoldsBytes (s : State) : Type 0 where
  pub cpu : HasBytes s.cpu
  pub interrupts : AreVectors s.outside.interrupts
  pub reads : AreReads s.outside.reads
