-- What the lowest address of the stack says of SRAM and of the stack pointer.
use Rattle.std.specs.Prelude.{ℕ, ◌≡◌, ◌<◌, ◌≤◌, ◌+◌, ◌-◌, slice_index}
use Rattle.avr_instr.specs.declared.instr.Instr.{Instr}
use Rattle.avr_instr.specs.declared.instr.Instr.TheVariants.{Out, StX, StXPlus, StMinusX, Std, Sts}
use Rattle.avr_isa.specs.Cpu.{CpuState}
use Rattle.avr_isa.specs.Change.{pair_of, previous}
use Rattle.avr_isa.specs.Access.{displaced}
use Rattle.avr_isa.specs.Machine.{State}

-- the byte of SRAM at a data address from 0x0100 on
abbrev pub sram_byte : CpuState → ℕ → ℕ
sram_byte cpu address = slice_index cpu.sram (address - 0x100)

-- each byte of SRAM below the lowest address that the stack has reached is what it was
abbrev pub KeepsBelow : (old new : State) → Type 0
KeepsBelow old new = (address : ℕ) → 0x100 ≤ address → address < new.lowest → sram_byte new.cpu address ≡ sram_byte old.cpu address

-- the instruction stores a byte at the data address of SPL
abbrev pub WritesSpl : Instr → CpuState → Type 0
WritesSpl (Out a r) cpu = a + 0x20 ≡ 0x5D
WritesSpl (StX r) cpu = pair_of cpu 26 ≡ 0x5D
WritesSpl (StXPlus r) cpu = pair_of cpu 26 ≡ 0x5D
WritesSpl (StMinusX r) cpu = previous (pair_of cpu 26) ≡ 0x5D
WritesSpl (Std b q r) cpu = displaced cpu b q ≡ 0x5D
WritesSpl (Sts k r) cpu = k ≡ 0x5D
WritesSpl _ cpu = ⊥

-- the byte above the stack pointer counts as reached, and all of SRAM where the pointer is above its last byte
pub record SeesPointer (s : State) : Type 0 where
  pub above : s.lowest ≤ s.cpu.sp + 1
  pub outside : 0x10FF < s.cpu.sp → s.lowest ≡ 0
