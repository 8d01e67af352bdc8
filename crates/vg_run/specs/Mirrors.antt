-- Mirrors: predicates by cases that follow the code's own functions. No clause of an exported function cites one.
use Rattle.std.specs.Prelude.{ℕ, ◌≡◌, ◌⊎◌, List, Option, Some, Result, Ok, Err}
use Rattle.vg_io.specs.Piece.{AppendsAll, AppendsFront}
use Rattle.vg_source.specs.Session.{Session}
use Rattle.vg_script.specs.Script.{IsScript, Lists, first_bad}
use Rattle.avr_sim.specs.Run.{trace_lines}
use Rattle.vg_session.specs.declared.session.SessionEnd.{SessionEnd}
use Rattle.vg_session.specs.declared.session.SessionEnd.TheVariants as session_end
use Rattle.vg_run.specs.declared.playing.RunEnd.{RunEnd}
use Rattle.vg_run.specs.declared.playing.RunEnd.TheVariants as run
use Rattle.vg_run.specs.declared.playing.Played.{Played}
use Rattle.vg_run.specs.declared.playing.Played.TheVariants.{Ended, WriteFault, Refused, ScriptRefused, NoMemory}
use Rattle.vg_run.specs.Shown.{ending_in, lines_of}

-- how a session ended, or the answer where there is no line to put
abbrev pub run_end : SessionEnd → Result RunEnd Played
run_end session_end.Idle = Ok run.Idle
run_end (session_end.Stop code) = Ok (run.Stop code)
run_end (session_end.Wants address) = Ok (run.Wants address)
run_end session_end.Budget = Ok run.Budget
run_end session_end.Depth = Ok run.Depth
run_end session_end.SinkFailed = Err WriteFault
run_end session_end.NoMemory = Err NoMemory

-- what an answer says of a session that was run
abbrev pub PlaysRun : Played → Session → (before now : Option (List ℕ)) → Type 0
PlaysRun (Ended end) s before now = (s.ending ≡ Some (ending_in end)) × AppendsAll before now (lines_of s)
PlaysRun WriteFault s before now = AppendsFront before now (lines_of s)
PlaysRun (Refused why) s before now = ⊥
PlaysRun (ScriptRefused line) s before now = ⊥
PlaysRun NoMemory s before now = AppendsFront before now (trace_lines s.trace)

-- what it says of a script and of the sessions that are made of its lists
abbrev pub PlaysScript : Played → (script : List ℕ) → (Lists → Session) → (before now : Option (List ℕ)) → Type 0
PlaysScript (Refused why) script make before now = ⊥
PlaysScript (ScriptRefused line) script make before now = (first_bad script ≡ Some line) × (now ≡ before)
PlaysScript NoMemory script make before now = (now ≡ before) ⊎ ((lists : Lists) × IsScript script lists × PlaysRun NoMemory (make lists) before now)
PlaysScript answer script make before now = (lists : Lists) × IsScript script lists × PlaysRun answer (make lists) before now
