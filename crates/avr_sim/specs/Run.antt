-- What a run of the simulator shows of the machine.
use Rattle.std.specs.Prelude.{ℕ, List}
use Rattle.std.specs.List.{flat_map}
use Rattle.vg_meaning.specs.declared.event.Event.{Event}
use Rattle.vg_script.specs.Traces.{event_line}
use Rattle.avr_isa.specs.Cpu.{marked}
use Rattle.avr_isa.specs.Machine.{State, machine}

-- the machine that the simulator runs: at power-on each register and each byte of SRAM holds 0xA5
abbrev pub simulated : (flash reads interrupts : List ℕ) → (instructions : ℕ) → State
simulated flash reads interrupts instructions = machine flash marked reads interrupts instructions

-- the lines of a trace
abbrev pub trace_lines : List Event → List ℕ
trace_lines events = flat_map event_line events
