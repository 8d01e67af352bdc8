-- The machine: a processor with a flash that runs against an outside.
use Rattle.std.specs.Prelude.{ℕ, zero, suc, ◌*◌, List, [], ◌∷◌, Option, Some, None, if◌then◌else◌}
use Rattle.vg_meaning.specs.declared.event.Event.TheVariants.{Read, Write, Enter}
use Rattle.vg_meaning.specs.Outside.{Outside, before, with_event}
use Rattle.avr_instr.specs.declared.instr.Instr.{Instr}
use Rattle.avr_isa.specs.declared.effect.Effect.{Effect}
use Rattle.avr_isa.specs.declared.effect.Effect.TheVariants.{Next, ReadDevice, WriteDevice, Sleep, Halt, Outside as Forbidden}
use Rattle.avr_isa.specs.declared.ending.MachineEnd.{MachineEnd}
use Rattle.avr_isa.specs.declared.ending.MachineEnd.TheVariants.{Idle, Stop, Wants, Bad}
use Rattle.avr_isa.specs.Cpu.{CpuState, PowerOn, at_reset, flash_word, forward, disabled}
use Rattle.avr_instr.specs.Decoded.{decoded}
use Rattle.avr_isa.specs.Change.{register_of, with_register}
use Rattle.avr_isa.specs.Access.{can_push_two, with_pushed}
use Rattle.avr_isa.specs.Effect.{change}
use Rattle.avr_isa.specs.Stack.{lowest_behind, lowest_by_push_two}

-- the machine: its processor, its outside, the lowest data address that its stack has reached, and how its run has ended
pub record State : Type 0 where
  pub cpu : CpuState
  pub outside : Outside
  pub lowest : ℕ
  pub ended : Option MachineEnd

abbrev pub ending_with : State → MachineEnd → State
ending_with s end = record s { ended = Some end }

-- the next read goes into the waiting register; with none left the run ends, and the register waits on
abbrev pub answered : List ℕ → (address register : ℕ) → State → State
answered [] address register s = ending_with s (Wants address)
answered (value ∷ values) address register s = record s {
  cpu = with_register s.cpu register value;
  outside = with_event (record s.outside { reads = values }) (Read address value);
}

-- the next interrupt is taken: the address behind the SLEEP is pushed, I is cleared, and the vector's slot of two words follows
abbrev pub entered : CpuState → ℕ → CpuState
entered cpu vector = record (with_pushed cpu (forward 1 cpu.pc)) { pc = 2 * vector; sreg = disabled cpu.sreg }

-- a SLEEP with the I flag set; with no interrupt left the run is idle
abbrev pub woken : List ℕ → (word : ℕ) → State → State
woken [] word s = ending_with s Idle
woken (vector ∷ vectors) word s =
    let lowest = lowest_by_push_two s.cpu.sp s.lowest in
    if can_push_two s.cpu.sp
    then record s {
      cpu = entered s.cpu vector;
      outside = with_event (record s.outside { interrupts = vectors }) (Enter vector);
      lowest = lowest;
    }
    else record s { lowest = lowest; ended = Some (Bad s.cpu.pc word) }

-- what is left to be done outside the processor is done, once the instruction has changed it
abbrev pub done : Effect → (word : ℕ) → State → State
done Next word s = s
done (ReadDevice address register) word s = answered s.outside.reads address register s
done (WriteDevice address value) word s = record s { outside = with_event s.outside (Write address value) }
done Sleep word s = woken s.outside.interrupts word s
done Halt word s = ending_with s (Stop (register_of s.cpu 24))
done Forbidden word s = ending_with s (Bad s.cpu.pc word)

-- one instruction
abbrev pub performed : List ℕ → Option Instr → (word : ℕ) → State → State
performed flash None word s = ending_with s (Bad s.cpu.pc word)
performed flash (Some i) word s =
    let made = change flash i s.cpu in
    done made.effect word (record s { cpu = made.cpu; lowest = lowest_behind i s.cpu made.cpu s.lowest })

-- the word at PC
abbrev pub word_here : List ℕ → CpuState → ℕ
word_here flash cpu = flash_word flash cpu.pc

-- the instruction at PC
abbrev pub instr_here : List ℕ → CpuState → Option Instr
instr_here flash cpu = decoded (word_here flash cpu) (flash_word flash (forward 1 cpu.pc))

abbrev pub next_by : Option MachineEnd → List ℕ → State → State
next_by (Some end) flash s = s
next_by None flash s = performed flash (instr_here flash s.cpu) (word_here flash s.cpu) s

-- one step; a machine that has ended stays as it is
abbrev pub next_state : List ℕ → State → State
next_state flash s = next_by s.ended flash s

-- at most so many steps from a state
abbrev pub run_from : List ℕ → ℕ → State → State
run_from flash zero s = s
run_from flash (suc n) s = run_from flash n (next_state flash s)

-- the machine at reset, with these contents at power-on; no byte of its stack is in use
abbrev pub started : PowerOn → (reads interrupts : List ℕ) → State
started memory reads interrupts = record { cpu = at_reset memory; outside = before reads interrupts; lowest = 0x1100; ended = None }

-- the machine on this flash after at most so many instructions from reset
abbrev pub machine : (flash : List ℕ) → PowerOn → (reads interrupts : List ℕ) → ℕ → State
machine flash memory reads interrupts instructions = run_from flash instructions (started memory reads interrupts)
