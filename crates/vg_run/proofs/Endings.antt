-- The line of an ending, behind the lines of a trace.
use Rattle.std.proofs.Common.{◌≡◌, ℕ, List, [], ◌++◌, Option, Some, Result, Ok, Err, refl, sym, ap, ◌∙◌, subst, append-nil}
use Rattle.vg_io.specs.Piece.{AppendsAll, AppendsFront}
use Rattle.vg_source.specs.Session.{Session}
use Rattle.vg_script.specs.Traces.{ending_line}
use Rattle.vg_script.specs.declared.traces.EndLine.{EndLine}
use Rattle.avr_sim.specs.Run.{trace_lines}
use Rattle.avr_sim.proofs.Told.{appends_nothing, appends_both, appends_front}
use Rattle.vg_session.specs.Ends.{EndsAs, Puts}
use Rattle.vg_session.specs.declared.session.SessionEnd.{SessionEnd}
use Rattle.vg_session.specs.declared.session.SessionEnd.TheVariants as session_end
use Rattle.vg_run.specs.declared.playing.RunEnd.{RunEnd}
use Rattle.vg_run.specs.declared.playing.RunEnd.TheVariants as run
use Rattle.vg_run.specs.declared.playing.Played.{Played}
use Rattle.vg_run.specs.declared.playing.Played.TheVariants.{Ended, WriteFault, NoMemory}
use Rattle.vg_run.specs.Shown.{end_line, end_text, ending_in}
use Rattle.vg_run.specs.Mirrors.{PlaysRun, run_end}

same_end : (a b : RunEnd) (r : Result RunEnd Played) → r ≡ Ok a → r ≡ Ok b → a ≡ b
same_end a b r h k = cc

-- where there is an ending, it is the session's, and the lines of the trace were put
abbrev HasEnded : RunEnd → Session → (before now : Option (List ℕ)) → Type 0
HasEnded end s before now = (s.ending ≡ Some (ending_in end)) × AppendsAll before now (trace_lines s.trace)

ended_as : (e : SessionEnd) (end : RunEnd) (s : Session) (a b : Option (List ℕ)) → Ok end ≡ run_end e → EndsAs e s.ending → Puts e a b s.trace
    → HasEnded end s a b
ended_as session_end.Idle end s a b is ends puts = subst (λ x. HasEnded x s a b) (sym (same_end end run.Idle (run_end session_end.Idle) (sym is) refl)) (ends, puts)
ended_as (session_end.Stop code) end s a b is ends puts = subst (λ x. HasEnded x s a b) (sym (same_end end (run.Stop code) (run_end (session_end.Stop code)) (sym is) refl)) (ends, puts)
ended_as (session_end.Wants address) end s a b is ends puts = subst (λ x. HasEnded x s a b) (sym (same_end end (run.Wants address) (run_end (session_end.Wants address)) (sym is) refl)) (ends, puts)
ended_as session_end.Budget end s a b is ends puts = subst (λ x. HasEnded x s a b) (sym (same_end end run.Budget (run_end session_end.Budget) (sym is) refl)) (ends, puts)
ended_as session_end.Depth end s a b is ends puts = subst (λ x. HasEnded x s a b) (sym (same_end end run.Depth (run_end session_end.Depth) (sym is) refl)) (ends, puts)
ended_as session_end.SinkFailed end s a b is ends puts = cc
ended_as session_end.NoMemory end s a b is ends puts = cc

-- all was put
pub shown_run : (e : SessionEnd) (end : RunEnd) (line : EndLine) (s : Session) (a b c : Option (List ℕ)) → Ok end ≡ run_end e → EndsAs e s.ending
    → Puts e a b s.trace → line ≡ end_line (ending_in end) → AppendsAll b c (ending_line line) → PlaysRun (Ended end) s a c
shown_run e end line s a b c is ends puts l last =
    let h = ended_as e end s a b is ends puts in (
      h.0,
      subst (λ x. AppendsAll a c (trace_lines s.trace ++ x)) (ap ending_line l ∙ sym (ap end_text h.0))
          (appends_both a b c (trace_lines s.trace) (ending_line line) h.1 last),
    )

-- the line of the ending was not put whole
pub failed_end : (e : SessionEnd) (end : RunEnd) (line : EndLine) (s : Session) (a b c : Option (List ℕ)) → Ok end ≡ run_end e → EndsAs e s.ending
    → Puts e a b s.trace → line ≡ end_line (ending_in end) → AppendsFront b c (ending_line line) → PlaysRun WriteFault s a c
failed_end e end line s a b c is ends puts l last =
    let h = ended_as e end s a b is ends puts in
    subst (λ x. AppendsFront a c (trace_lines s.trace ++ x)) (append-nil (ending_line line) ∙ ap ending_line l ∙ sym (ap end_text h.0))
    (appends_front a b c (trace_lines s.trace) (ending_line line) [] h.1 last)

same_answer : (a b : Played) (r : Result RunEnd Played) → r ≡ Err a → r ≡ Err b → a ≡ b
same_answer a b r h k = cc

-- a put of the trace failed, or memory was wanting
pub stopped_run : (e : SessionEnd) (answer : Played) (s : Session) (a b : Option (List ℕ)) → Err answer ≡ run_end e → Puts e a b s.trace
    → PlaysRun answer s a b
stopped_run session_end.Idle answer s a b is puts = cc
stopped_run (session_end.Stop code) answer s a b is puts = cc
stopped_run (session_end.Wants address) answer s a b is puts = cc
stopped_run session_end.Budget answer s a b is puts = cc
stopped_run session_end.Depth answer s a b is puts = cc
stopped_run session_end.SinkFailed answer s a b is puts =
    subst (λ x. PlaysRun x s a b) (sym (same_answer answer WriteFault (run_end session_end.SinkFailed) (sym is) refl))
    (appends_front a a b [] (trace_lines s.trace) (end_text s.ending) (appends_nothing a) puts)
stopped_run session_end.NoMemory answer s a b is puts = subst (λ x. PlaysRun x s a b) (sym (same_answer answer NoMemory (run_end session_end.NoMemory) (sym is) refl)) puts
