-- The line of an ending, behind the lines of a trace.
use Rattle.std.proofs.Common.{◌≡◌, ℕ, List, [], ◌++◌, Option, ap, ◌∙◌, subst, append-nil}
use Rattle.vg_io.specs.Piece.{AppendsAll, AppendsFront}
use Rattle.vg_script.specs.declared.traces.EndLine.{EndLine}
use Rattle.vg_script.specs.Traces.{ending_line}
use Rattle.avr_isa.specs.declared.ending.MachineEnd.{MachineEnd}
use Rattle.avr_isa.specs.Machine.{State}
use Rattle.avr_sim.specs.Run.{trace_lines}
use Rattle.avr_sim.proofs.Told.{appends_nothing, appends_front}
use Rattle.vg_sim.specs.Shown.{end_line, lines_of}

-- a run in which a put failed
pub failed_run : (m : State) (a b : Option (List ℕ)) → AppendsFront a b (trace_lines m.outside.trace) → AppendsFront a b (lines_of m)
failed_run m a b h = appends_front a a b [] (trace_lines m.outside.trace) (ending_line (end_line m.ended)) (appends_nothing a) h

-- the line that is put is that of the machine
line_of : (m : State) (end : Option MachineEnd) (line : EndLine) → end ≡ m.ended → line ≡ end_line end → ending_line line ≡ ending_line (end_line m.ended)
line_of m end line e l = ap ending_line (l ∙ ap end_line e)

-- a run whose last put failed
pub failed_end : (m : State) (end : Option MachineEnd) (line : EndLine) (a b c : Option (List ℕ)) → end ≡ m.ended → line ≡ end_line end
    → AppendsAll a b (trace_lines m.outside.trace) → AppendsFront b c (ending_line line) → AppendsFront a c (lines_of m)
failed_end m end line a b c e l trace h =
    subst (λ x. AppendsFront a c (trace_lines m.outside.trace ++ x)) (append-nil (ending_line line) ∙ line_of m end line e l)
    (appends_front a b c (trace_lines m.outside.trace) (ending_line line) [] trace h)
