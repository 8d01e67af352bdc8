-- How deep a run goes with the stack: a history that the machine keeps.
use Rattle.std.specs.Prelude.{ℕ, ◌+◌, ◌==◌, nat_le, min, if◌then◌else◌}
use Rattle.avr_instr.specs.declared.instr.Instr.{Instr}
use Rattle.avr_instr.specs.declared.instr.Instr.TheVariants.{Call, Icall, Out, Push, Rcall, StX, StXPlus, StMinusX, Std, Sts}
use Rattle.avr_isa.specs.declared.stack.StackUse.{StackUse}
use Rattle.avr_isa.specs.declared.stack.StackUse.TheVariants.{Nothing, PushesByte, PushesWord, Stores}
use Rattle.avr_isa.specs.Cpu.{CpuState}
use Rattle.avr_isa.specs.Change.{pair_of, previous}
use Rattle.avr_isa.specs.Access.{displaced}

-- what an instruction does that tells how deep the stack is
abbrev pub stack_use : Instr → CpuState → StackUse
stack_use (Call k) cpu = PushesWord cpu.sp
stack_use Icall cpu = PushesWord cpu.sp
stack_use (Out a r) cpu = Stores (a + 0x20)
stack_use (Push r) cpu = PushesByte cpu.sp
stack_use (Rcall k) cpu = PushesWord cpu.sp
stack_use (StX r) cpu = Stores (pair_of cpu 26)
stack_use (StXPlus r) cpu = Stores (pair_of cpu 26)
stack_use (StMinusX r) cpu = Stores (previous (pair_of cpu 26))
stack_use (Std b q r) cpu = Stores (displaced cpu b q)
stack_use (Sts k r) cpu = Stores k
stack_use _ cpu = Nothing

-- the lowest address once two bytes were pushed at SP, or were not because they must not go there
abbrev pub lowest_by_push_two : (sp lowest : ℕ) → ℕ
lowest_by_push_two sp lowest = min (min lowest sp) (previous sp)

-- the lowest address once a byte was stored and has left this SP: where SPL was written, the byte above SP counts, and a pointer above SRAM counts as the least
abbrev pub lowest_by_store : (address sp lowest : ℕ) → ℕ
lowest_by_store address sp lowest =
    if address == 0x5D then min lowest (if nat_le sp 0x10FF then sp + 1 else 0) else lowest

-- the lowest address behind an instruction that has left this SP
abbrev pub lowest_by : StackUse → (sp lowest : ℕ) → ℕ
lowest_by Nothing sp lowest = lowest
lowest_by (PushesByte address) sp lowest = min lowest address
lowest_by (PushesWord address) sp lowest = lowest_by_push_two address lowest
lowest_by (Stores address) sp lowest = lowest_by_store address sp lowest

-- the lowest address behind an instruction that has made new of old
abbrev pub lowest_behind : Instr → (old new : CpuState) → ℕ → ℕ
lowest_behind i old new lowest = lowest_by (stack_use i old) new.sp lowest
