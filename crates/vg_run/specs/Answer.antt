-- What an answer says of the source text and of the script, and of what was put: the sink held the first bytes, and then the second.
use Rattle.std.specs.Prelude.{ℕ, ◌≡◌, ◌⊎◌, List, Option, Some}
use Rattle.vg_io.specs.Piece.{AppendsAll, AppendsFront}
use Rattle.vg_script.specs.Script.{first_bad}
use Rattle.avr_sim.specs.Run.{trace_lines}
use Rattle.vg_faults.specs.Starting.{StartsIn, init_steps}
use Rattle.vg_faults.specs.Faults.{HasFault}
use Rattle.vg_run.specs.Shown.{ForSession, ending_in, lines_of}
use Rattle.vg_run.specs.declared.playing.Played.{Played}
use Rattle.vg_run.specs.declared.playing.Played.TheVariants.{Ended, WriteFault, Refused, ScriptRefused, NoMemory}

abbrev pub Plays : Played → (bytes script : List ℕ) → (steps : ℕ) → (before now : Option (List ℕ)) → Type 0
Plays (Ended end) bytes script steps before now =
    ForSession bytes script steps (λ s. (s.ending ≡ Some (ending_in end)) × AppendsAll before now (lines_of s))
Plays WriteFault bytes script steps before now = ForSession bytes script steps (λ s. AppendsFront before now (lines_of s))
Plays (Refused why) bytes script steps before now = HasFault why bytes init_steps × (now ≡ before)
Plays (ScriptRefused line) bytes script steps before now = StartsIn bytes init_steps × (first_bad script ≡ Some line) × (now ≡ before)
Plays NoMemory bytes script steps before now = (now ≡ before) ⊎ ForSession bytes script steps (λ s. AppendsFront before now (trace_lines s.trace))
