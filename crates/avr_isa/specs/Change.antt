-- What an instruction leaves, and the parts of the processor that it changes.
use Rattle.std.specs.Prelude.{ℕ, ◌+◌, ◌*◌, ◌/◌, ◌%◌, ◌<◌, slice_index, slice_set}
use Rattle.avr_isa.specs.declared.effect.Effect.{Effect}
use Rattle.avr_isa.specs.declared.effect.Effect.TheVariants.{Next, ReadDevice}
use Rattle.avr_isa.specs.Cpu.{CpuState, forward}

-- what an instruction leaves: the processor, and what is to be done outside it
pub record Change : Type 0 where
  pub cpu : CpuState
  pub effect : Effect

-- nothing is left to be done
abbrev pub going : CpuState → Change
going cpu = record { cpu = cpu; effect = Next }

-- the processor stays as it was
abbrev pub staying : CpuState → Effect → Change
staying cpu effect = record { cpu = cpu; effect = effect }

-- a register that waits for a read is one of r0 to r31
abbrev pub WaitsInRegister : Effect → Type 0
WaitsInRegister (ReadDevice address register) = register < 32
WaitsInRegister _ = Unit {0}

-- the processor some words on
abbrev pub moved : ℕ → CpuState → CpuState
moved words cpu = record cpu { pc = forward words cpu.pc }

abbrev pub register_of : CpuState → ℕ → ℕ
register_of cpu d = slice_index cpu.registers d

abbrev pub with_register : CpuState → ℕ → ℕ → CpuState
with_register cpu d value = record cpu { registers = slice_set cpu.registers d value }

abbrev pub with_sreg : CpuState → ℕ → CpuState
with_sreg cpu sreg = record cpu { sreg = sreg }

-- two registers as one number, the low byte in the first: X is 26, Y is 28, Z is 30
abbrev pub pair_of : CpuState → ℕ → ℕ
pair_of cpu d = register_of cpu d + 256 * register_of cpu (d + 1)

abbrev pub with_pair : CpuState → ℕ → ℕ → CpuState
with_pair cpu d value = with_register (with_register cpu d (value % 256)) (d + 1) (value / 256)

-- a pointer with 1 added
abbrev pub with_next : CpuState → ℕ → CpuState
with_next cpu d = with_pair cpu d ((pair_of cpu d + 1) % 65536)

-- a data address with 1 taken away
abbrev pub previous : ℕ → ℕ
previous address = (address + 65535) % 65536
