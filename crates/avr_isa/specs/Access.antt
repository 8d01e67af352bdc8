-- What an access to a data address does, by the memory map of the ATmega128 datasheet.
use Rattle.std.specs.Prelude.{ℕ, ◌+◌, ◌-◌, ◌*◌, ◌/◌, ◌%◌, Bool, ◌&&◌, ◌==◌, nat_lt, nat_le, if◌then◌else◌, slice_index, slice_set}
use Rattle.avr_instr.specs.declared.operand.Base.{Base}
use Rattle.avr_instr.specs.declared.operand.Base.TheVariants.{Y, Z}
use Rattle.avr_isa.specs.declared.effect.Effect.{Effect}
use Rattle.avr_isa.specs.declared.effect.Effect.TheVariants.{ReadDevice, WriteDevice, Outside}
use Rattle.avr_isa.specs.Cpu.{CpuState}
use Rattle.avr_isa.specs.Change.{Change, going, staying, register_of, with_register, with_sreg, pair_of, with_next}

-- the low register of a pointer with a displacement
abbrev pub low_of : Base → ℕ
low_of Y = 28
low_of Z = 30

-- the data address at a displacement from a pointer
abbrev pub displaced : CpuState → Base → ℕ → ℕ
displaced cpu b q = (pair_of cpu (low_of b) + q) % 65536

-- a store at a data address: r0 to r31, RAMPZ, SPL, SPH, SREG, the device registers, SRAM, and nothing above; old is the processor before the
-- instruction, made is what the instruction has made else
abbrev pub stored : (old made : CpuState) (address value : ℕ) → Change
stored old made address value =
    if nat_lt address 0x20 then going (with_register made address value)
    else if address == 0x5B then going (record made { rampz = value })
    else if address == 0x5D then going (record made { sp = made.sp / 256 * 256 + value })
    else if address == 0x5E then going (record made { sp = value * 256 + made.sp % 256 })
    else if address == 0x5F then going (with_sreg made value)
    else if nat_lt address 0x100 then record { cpu = made; effect = WriteDevice address value }
    else if nat_lt address 0x1100 then going (record made { sram = slice_set made.sram (address - 0x100) value })
    else staying old Outside

-- a load from a data address into the register d; a device register's value comes later
abbrev pub loaded : (old made : CpuState) (d address : ℕ) → Change
loaded old made d address =
    if nat_lt address 0x20 then going (with_register made d (register_of made address))
    else if address == 0x5B then going (with_register made d made.rampz)
    else if address == 0x5D then going (with_register made d (made.sp % 256))
    else if address == 0x5E then going (with_register made d (made.sp / 256))
    else if address == 0x5F then going (with_register made d made.sreg)
    else if nat_lt address 0x100 then record { cpu = made; effect = ReadDevice address d }
    else if nat_lt address 0x1100 then going (with_register made d (slice_index made.sram (address - 0x100)))
    else staying old Outside

-- behind an access the pointer has 1 more, unless the access was to nothing
abbrev pub pointer_behind : Effect → ℕ → CpuState → CpuState
pointer_behind Outside d cpu = cpu
pointer_behind _ d cpu = with_next cpu d

abbrev pub then_next : ℕ → Change → Change
then_next d made = record made { cpu = pointer_behind made.effect d made.cpu }

-- one byte goes on the stack, which must be SRAM
abbrev pub pushed : (old made : CpuState) (value : ℕ) → Change
pushed old made value =
    if nat_le 0x100 old.sp && nat_lt old.sp 0x1100
    then going (record made { sram = slice_set made.sram (old.sp - 0x100) value; sp = old.sp - 1 })
    else staying old Outside

-- one byte comes from the stack into the register d
abbrev pub popped : (old made : CpuState) (d : ℕ) → Change
popped old made d =
    if nat_le 0xFF old.sp && nat_lt (old.sp + 1) 0x1100
    then going (with_register (record made { sp = old.sp + 1 }) d (slice_index made.sram (old.sp + 1 - 0x100)))
    else staying old Outside

-- both bytes that a call or an interrupt pushes at SP lie in SRAM
abbrev pub can_push_two : ℕ → Bool
can_push_two sp = nat_lt 0x100 sp && nat_lt sp 0x1100

-- both bytes that a return pops above SP lie in SRAM
abbrev pub can_pop_two : ℕ → Bool
can_pop_two sp = nat_le 0xFF sp && nat_lt (sp + 2) 0x1100

-- a word address is pushed, low byte first
abbrev pub with_pushed : CpuState → ℕ → CpuState
with_pushed cpu address = record cpu {
  sram = slice_set (slice_set cpu.sram (cpu.sp - 0x100) (address % 256)) (cpu.sp - 1 - 0x100) (address / 256);
  sp = cpu.sp - 2;
}

-- a word address is popped, high byte first, and the processor goes there
abbrev pub with_popped : CpuState → CpuState
with_popped cpu = record cpu {
  pc = slice_index cpu.sram (cpu.sp + 1 - 0x100) * 256 + slice_index cpu.sram (cpu.sp + 2 - 0x100);
  sp = cpu.sp + 2;
}
