-- What a simulation shows of a HEX text and a script.
use Rattle.std.specs.Prelude.{ℕ, List, ◌++◌, Option, Some, None}
use Rattle.vg_hex.specs.HexImage.{HexImage}
use Rattle.vg_script.specs.Script.{Lists, IsScript}
use Rattle.vg_script.specs.Traces.{ending_line}
use Rattle.vg_script.specs.declared.traces.EndLine.{EndLine}
use Rattle.vg_script.specs.declared.traces.EndLine.TheVariants as line
use Rattle.avr_isa.specs.declared.ending.MachineEnd.{MachineEnd}
use Rattle.avr_isa.specs.declared.ending.MachineEnd.TheVariants.{Idle, Stop, Wants, Bad}
use Rattle.avr_isa.specs.Machine.{State}
use Rattle.avr_sim.specs.Run.{simulated, trace_lines}

-- the ending that is put for a run; one that has not ended has spent its budget
abbrev pub end_line : Option MachineEnd → EndLine
end_line None = line.Budget
end_line (Some Idle) = line.Idle
end_line (Some (Stop code)) = line.Stop code
end_line (Some (Wants address)) = line.Wants address
end_line (Some (Bad pc word)) = line.Bad pc word

-- the lines of the trace, and then that of the ending
abbrev pub lines_of : State → List ℕ
lines_of m = trace_lines m.outside.trace ++ ending_line (end_line m.ended)

-- the text spells an image, the script is one, and P holds of the simulated machine on this image behind so many instructions
pub record ForRun (hex script : List ℕ) (budget : ℕ) (P : State → Type 0) : Type 0 where
  pub image : List ℕ
  pub spelled : HexImage hex image
  pub lists : Lists
  pub scripted : IsScript script lists
  pub holds : P (simulated image lists.reads lists.interrupts budget)
