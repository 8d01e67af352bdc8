-- Where the processor goes next.
use Rattle.std.specs.Prelude.{ℕ, ◌+◌, ◌%◌, Bool, not, ◌&&◌, ◌==◌, nat_lt, if◌then◌else◌}
use Rattle.avr_isa.specs.declared.effect.Effect.TheVariants.{Halt, Outside}
use Rattle.avr_isa.specs.Cpu.{CpuState, is_enabled}
use Rattle.avr_isa.specs.Change.{Change, going, staying, moved}
use Rattle.avr_isa.specs.Access.{can_push_two, can_pop_two, with_pushed, with_popped}

-- a jump; one to itself that no interrupt can end is a stop
abbrev pub jumped : CpuState → ℕ → Change
jumped cpu to =
    if (to == cpu.pc) && not (is_enabled cpu.sreg)
    then staying cpu Halt
    else going (record cpu { pc = to })

-- the word address at a signed distance of twelve bits from the next instruction
abbrev pub far_from : ℕ → ℕ → ℕ
far_from pc k = (pc + 1 + k + (if nat_lt k 0x800 then 0 else 0xF000)) % 65536

-- the word address at a signed distance of seven bits from the next instruction
abbrev pub near_from : ℕ → ℕ → ℕ
near_from pc k = (pc + 1 + k + (if nat_lt k 0x40 then 0 else 0xFF80)) % 65536

-- a branch is taken or passed over
abbrev pub branched : CpuState → Bool → ℕ → Change
branched cpu taken k = going (if taken then record cpu { pc = near_from cpu.pc k } else moved 1 cpu)

-- a call pushes the word address behind it
abbrev pub subroutine_called : CpuState → (behind to : ℕ) → Change
subroutine_called cpu behind to = if can_push_two cpu.sp then going (record (with_pushed cpu behind) { pc = to }) else staying cpu Outside

-- a return goes to the word address that it pops
abbrev pub returned : CpuState → Change
returned cpu = if can_pop_two cpu.sp then going (with_popped cpu) else staying cpu Outside
