-- What a source text shows on a script.
use Rattle.std.specs.Prelude.{ℕ, ◌≡◌, List, [], ◌++◌, Option, Some, None}
use Rattle.vg_meaning.specs.Ending.{Ending}
use Rattle.vg_meaning.specs.Ending as ending
use Rattle.vg_syntax.specs.Tree.{Node}
use Rattle.vg_source.specs.Values.{Heap}
use Rattle.vg_source.specs.Program.{source_of}
use Rattle.vg_source.specs.Session.{Session, Started, session, started}
use Rattle.vg_script.specs.Script.{IsScript, Lists}
use Rattle.vg_script.specs.Traces.{ending_line}
use Rattle.vg_script.specs.declared.traces.EndLine.{EndLine}
use Rattle.vg_script.specs.declared.traces.EndLine.TheVariants as line
use Rattle.avr_sim.specs.Run.{trace_lines}
use Rattle.vg_faults.specs.Judged.{IsLegal}
use Rattle.vg_faults.specs.Starting.{init_steps}
use Rattle.vg_run.specs.declared.playing.RunEnd.{RunEnd}
use Rattle.vg_run.specs.declared.playing.RunEnd.TheVariants.{Idle, Stop, Wants, Budget, Depth}

-- the ending that is told of
abbrev pub ending_in : RunEnd → Ending
ending_in Idle = ending.Idle
ending_in (Stop code) = ending.Stop code
ending_in (Wants address) = ending.Wants address
ending_in Budget = ending.Beyond
ending_in Depth = ending.Deep

-- the line that is put for an ending
abbrev pub end_line : Ending → EndLine
end_line ending.Idle = line.Idle
end_line (ending.Stop code) = line.Stop code
end_line (ending.Wants address) = line.Wants address
end_line ending.Beyond = line.Budget
end_line ending.Deep = line.Depth

-- its text; each session of a legal text has an ending
abbrev pub end_text : Option Ending → List ℕ
end_text None = []
end_text (Some e) = ending_line (end_line e)

-- the lines of the trace, and then that of the ending
abbrev pub lines_of : Session → List ℕ
lines_of s = trace_lines s.trace ++ end_text s.ending

-- The bytes are a legal text, which is initialised to a heap, the script is one, and P holds of the session of the text on it: from this heap, in so
-- many ticks and with at most 400 active calls.
pub record ForSession (bytes script : List ℕ) (steps : ℕ) (P : Session → Type 0) : Type 0 where
  pub tree : Node
  pub legal : IsLegal bytes tree
  pub heap : Heap
  pub starts : started (source_of tree) init_steps ≡ Started heap
  pub lists : Lists
  pub scripted : IsScript script lists
  pub holds : P (session (source_of tree) heap (Some 400) lists.reads lists.interrupts steps)
