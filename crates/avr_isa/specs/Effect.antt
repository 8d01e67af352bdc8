-- What each instruction makes of the processor, in the order of the AVR Instruction Set Manual.
use Rattle.std.specs.Prelude.{ℕ, ◌+◌, ◌-◌, ◌*◌, ◌/◌, ◌%◌, not, List, if◌then◌else◌, bit_and, bit_or, bit_xor}
use Rattle.avr_instr.specs.declared.instr.Instr.{Instr}
use Rattle.avr_instr.specs.declared.instr.Instr.TheVariants.{Adc, Add, Adiw, And, Andi, Asr, Brbc, Brbs, Call, Cli, Com, Cp, Cpc, Cpi, Dec, Eor}
use Rattle.avr_instr.specs.declared.instr.Instr.TheVariants.{Icall, Ijmp, In, Inc, Jmp, LdX, LdXPlus, LdMinusX, Ldd, Ldi, Lds, LpmZ, LpmZPlus, Lsr}
use Rattle.avr_instr.specs.declared.instr.Instr.TheVariants.{Mov, Movw, Mul, Neg, Nop, Or, Ori, Out, Pop, Push, Rcall, Ret, Reti, Rjmp, Ror, Sbc}
use Rattle.avr_instr.specs.declared.instr.Instr.TheVariants.{Sbci, Sbiw, Sei, Sleep as SleepInstr, StX, StXPlus, StMinusX, Std, Sts, Sub, Subi}
use Rattle.avr_isa.specs.declared.flags.Flags.{Flags}
use Rattle.avr_isa.specs.declared.effect.Effect.TheVariants.{Sleep, Outside}
use Rattle.avr_isa.specs.Cpu.{CpuState, flash_byte, forward, is_enabled, enabled, disabled}
use Rattle.avr_isa.specs.Change.{Change, going, staying, moved, register_of, with_register, with_sreg, pair_of, with_pair, with_next, previous}
use Rattle.avr_isa.specs.Flags.{is_set, carry_of, with_flags, sum_of, flags_of_sum, difference_of, flags_of_difference, sticky, flags_of_logic}
use Rattle.avr_isa.specs.Flags.{flags_of_complement, flags_of_count, flags_of_shift, flags_of_wide_sum, flags_of_wide_difference, sreg_of_product}
use Rattle.avr_isa.specs.Access.{displaced, stored, loaded, then_next, pushed, popped, can_pop_two, with_popped}
use Rattle.avr_isa.specs.Flow.{jumped, far_from, branched, subroutine_called, returned}

-- an instruction of one word leaves these flags alone
abbrev pub flagging : CpuState → Flags → Change
flagging cpu flags = going (with_sreg (moved 1 cpu) (with_flags cpu.sreg flags))

-- an instruction of one word leaves this value in the register d, and these flags
abbrev pub resulting : CpuState → (d value : ℕ) → Flags → Change
resulting cpu d value flags = going (with_sreg (with_register (moved 1 cpu) d value) (with_flags cpu.sreg flags))

-- the same for two registers
abbrev pub resulting_wide : CpuState → (d value : ℕ) → Flags → Change
resulting_wide cpu d value flags = going (with_sreg (with_pair (moved 1 cpu) d value) (with_flags cpu.sreg flags))

-- Rd ← Rd + b + carry
abbrev pub added : CpuState → (d b carry : ℕ) → Change
added cpu d b carry =
    let a = register_of cpu d in resulting cpu d (sum_of a b carry) (flags_of_sum a b carry)

-- Rd ← Rd - b
abbrev pub subtracted : CpuState → (d b : ℕ) → Change
subtracted cpu d b =
    let a = register_of cpu d in resulting cpu d (difference_of a b 0) (flags_of_difference a b 0)

-- Rd ← Rd - b - C, where Z stays set only where it was set
abbrev pub subtracted_on : CpuState → (d b : ℕ) → Change
subtracted_on cpu d b =
    let a = register_of cpu d in
    let borrow = carry_of cpu.sreg in
    resulting cpu d (difference_of a b borrow) (sticky cpu.sreg (flags_of_difference a b borrow))

-- Rd ← value, by a logical operation
abbrev pub combined : CpuState → (d value : ℕ) → Change
combined cpu d value = resulting cpu d value (flags_of_logic cpu.sreg value)

-- Rd ← value, by a shift to the right
abbrev pub shifted : CpuState → (d value : ℕ) → Change
shifted cpu d value = resulting cpu d value (flags_of_shift cpu.sreg (register_of cpu d) value)

-- Rd ← value, one more or one less
abbrev pub counted : CpuState → (d value overflows_to : ℕ) → Change
counted cpu d value overflows_to = resulting cpu d value (flags_of_count cpu.sreg value overflows_to)

-- r1:r0 ← product
abbrev pub multiplied : CpuState → ℕ → Change
multiplied cpu product = going (with_sreg (with_pair (moved 1 cpu) 0 product) (sreg_of_product cpu.sreg product))

-- what an instruction makes of the processor, on this flash
abbrev pub change : List ℕ → Instr → CpuState → Change
-- ADC: Rd ← Rd + Rr + C
change flash (Adc d r) cpu = added cpu d (register_of cpu r) (carry_of cpu.sreg)
-- ADD: Rd ← Rd + Rr
change flash (Add d r) cpu = added cpu d (register_of cpu r) 0
-- ADIW: Rd+1:Rd ← Rd+1:Rd + K
change flash (Adiw d k) cpu = let a = pair_of cpu d in resulting_wide cpu d ((a + k) % 65536) (flags_of_wide_sum cpu.sreg a k)
-- AND: Rd ← Rd · Rr
change flash (And d r) cpu = combined cpu d (bit_and (register_of cpu d) (register_of cpu r))
-- ANDI: Rd ← Rd · K
change flash (Andi d k) cpu = combined cpu d (bit_and (register_of cpu d) k)
-- ASR: Rd ← Rd / 2, bit 7 stays
change flash (Asr d) cpu = let a = register_of cpu d in shifted cpu d (a / 2 + a / 128 * 128)
-- BRBC: if the bit s of SREG is 0 then PC ← PC + k + 1
change flash (Brbc s k) cpu = branched cpu (not (is_set s cpu.sreg)) k
-- BRBS: if the bit s of SREG is 1 then PC ← PC + k + 1
change flash (Brbs s k) cpu = branched cpu (is_set s cpu.sreg) k
-- CALL: STACK ← PC + 2, PC ← k
change flash (Call k) cpu = subroutine_called cpu (forward 2 cpu.pc) k
-- CLI: I ← 0
change flash Cli cpu = going (with_sreg (moved 1 cpu) (disabled cpu.sreg))
-- COM: Rd ← 0xFF - Rd
change flash (Com d) cpu = let r = 255 - register_of cpu d in resulting cpu d r (flags_of_complement cpu.sreg r)
-- CP: Rd - Rr
change flash (Cp d r) cpu = flagging cpu (flags_of_difference (register_of cpu d) (register_of cpu r) 0)
-- CPC: Rd - Rr - C
change flash (Cpc d r) cpu = flagging cpu (sticky cpu.sreg (flags_of_difference (register_of cpu d) (register_of cpu r) (carry_of cpu.sreg)))
-- CPI: Rd - K
change flash (Cpi d k) cpu = flagging cpu (flags_of_difference (register_of cpu d) k 0)
-- DEC: Rd ← Rd - 1
change flash (Dec d) cpu = counted cpu d ((register_of cpu d + 255) % 256) 0x7F
-- EOR: Rd ← Rd ⊕ Rr
change flash (Eor d r) cpu = combined cpu d (bit_xor (register_of cpu d) (register_of cpu r))
-- ICALL: STACK ← PC + 1, PC ← Z
change flash Icall cpu = subroutine_called cpu (forward 1 cpu.pc) (pair_of cpu 30)
-- IJMP: PC ← Z
change flash Ijmp cpu = going (record cpu { pc = pair_of cpu 30 })
-- IN: Rd ← I/O(A)
change flash (In d a) cpu = loaded cpu (moved 1 cpu) d (a + 0x20)
-- INC: Rd ← Rd + 1
change flash (Inc d) cpu = counted cpu d ((register_of cpu d + 1) % 256) 0x80
-- JMP: PC ← k
change flash (Jmp k) cpu = jumped cpu k
-- LD: Rd ← (X)
change flash (LdX d) cpu = loaded cpu (moved 1 cpu) d (pair_of cpu 26)
-- LD: Rd ← (X), X ← X + 1
change flash (LdXPlus d) cpu = then_next 26 (loaded cpu (moved 1 cpu) d (pair_of cpu 26))
-- LD: X ← X - 1, Rd ← (X)
change flash (LdMinusX d) cpu = let x = previous (pair_of cpu 26) in loaded cpu (with_pair (moved 1 cpu) 26 x) d x
-- LDD: Rd ← (Y + q) or (Z + q)
change flash (Ldd d b q) cpu = loaded cpu (moved 1 cpu) d (displaced cpu b q)
-- LDI: Rd ← K
change flash (Ldi d k) cpu = going (with_register (moved 1 cpu) d k)
-- LDS: Rd ← (k)
change flash (Lds d k) cpu = loaded cpu (moved 2 cpu) d k
-- LPM: Rd ← flash(Z)
change flash (LpmZ d) cpu = going (with_register (moved 1 cpu) d (flash_byte flash (pair_of cpu 30)))
-- LPM: Rd ← flash(Z), Z ← Z + 1
change flash (LpmZPlus d) cpu = going (with_next (with_register (moved 1 cpu) d (flash_byte flash (pair_of cpu 30))) 30)
-- LSR: Rd ← Rd / 2, bit 7 is 0
change flash (Lsr d) cpu = shifted cpu d (register_of cpu d / 2)
-- MOV: Rd ← Rr
change flash (Mov d r) cpu = going (with_register (moved 1 cpu) d (register_of cpu r))
-- MOVW: Rd+1:Rd ← Rr+1:Rr
change flash (Movw d r) cpu = going (with_register (with_register (moved 1 cpu) d (register_of cpu r)) (d + 1) (register_of cpu (r + 1)))
-- MUL: R1:R0 ← Rd × Rr
change flash (Mul d r) cpu = multiplied cpu (register_of cpu d * register_of cpu r)
-- NEG: Rd ← 0 - Rd
change flash (Neg d) cpu = let a = register_of cpu d in resulting cpu d (difference_of 0 a 0) (flags_of_difference 0 a 0)
-- NOP
change flash Nop cpu = going (moved 1 cpu)
-- OR: Rd ← Rd v Rr
change flash (Or d r) cpu = combined cpu d (bit_or (register_of cpu d) (register_of cpu r))
-- ORI: Rd ← Rd v K
change flash (Ori d k) cpu = combined cpu d (bit_or (register_of cpu d) k)
-- OUT: I/O(A) ← Rr
change flash (Out a r) cpu = stored cpu (moved 1 cpu) (a + 0x20) (register_of cpu r)
-- POP: SP ← SP + 1, Rd ← STACK
change flash (Pop d) cpu = popped cpu (moved 1 cpu) d
-- PUSH: STACK ← Rr, SP ← SP - 1
change flash (Push r) cpu = pushed cpu (moved 1 cpu) (register_of cpu r)
-- RCALL: STACK ← PC + 1, PC ← PC + k + 1
change flash (Rcall k) cpu = subroutine_called cpu (forward 1 cpu.pc) (far_from cpu.pc k)
-- RET: PC ← STACK
change flash Ret cpu = returned cpu
-- RETI: PC ← STACK, I ← 1
change flash Reti cpu = if can_pop_two cpu.sp then going (with_sreg (with_popped cpu) (enabled cpu.sreg)) else staying cpu Outside
-- RJMP: PC ← PC + k + 1
change flash (Rjmp k) cpu = jumped cpu (far_from cpu.pc k)
-- ROR: Rd ← Rd / 2, bit 7 is C
change flash (Ror d) cpu = shifted cpu d (register_of cpu d / 2 + carry_of cpu.sreg * 128)
-- SBC: Rd ← Rd - Rr - C
change flash (Sbc d r) cpu = subtracted_on cpu d (register_of cpu r)
-- SBCI: Rd ← Rd - K - C
change flash (Sbci d k) cpu = subtracted_on cpu d k
-- SBIW: Rd+1:Rd ← Rd+1:Rd - K
change flash (Sbiw d k) cpu = let a = pair_of cpu d in resulting_wide cpu d ((a + 65536 - k) % 65536) (flags_of_wide_difference cpu.sreg a k)
-- SEI: I ← 1
change flash Sei cpu = going (with_sreg (moved 1 cpu) (enabled cpu.sreg))
-- SLEEP: with I set the processor waits here for an interrupt
change flash SleepInstr cpu = if is_enabled cpu.sreg then staying cpu Sleep else going (moved 1 cpu)
-- ST: (X) ← Rr
change flash (StX r) cpu = stored cpu (moved 1 cpu) (pair_of cpu 26) (register_of cpu r)
-- ST: (X) ← Rr, X ← X + 1
change flash (StXPlus r) cpu = then_next 26 (stored cpu (moved 1 cpu) (pair_of cpu 26) (register_of cpu r))
-- ST: X ← X - 1, (X) ← Rr
change flash (StMinusX r) cpu = let x = previous (pair_of cpu 26) in stored cpu (with_pair (moved 1 cpu) 26 x) x (register_of cpu r)
-- STD: (Y + q) or (Z + q) ← Rr
change flash (Std b q r) cpu = stored cpu (moved 1 cpu) (displaced cpu b q) (register_of cpu r)
-- STS: (k) ← Rr
change flash (Sts k r) cpu = stored cpu (moved 2 cpu) k (register_of cpu r)
-- SUB: Rd ← Rd - Rr
change flash (Sub d r) cpu = subtracted cpu d (register_of cpu r)
-- SUBI: Rd ← Rd - K
change flash (Subi d k) cpu = subtracted cpu d k
