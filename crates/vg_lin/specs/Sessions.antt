-- That the runs of a program of linear code follow those of structured code.
use Rattle.std.specs.Prelude.{◌≡◌, ℕ, ◌+◌, ◌≤◌, List, length, Option, None}
use Rattle.vg_meaning.specs.Outside.{before}
use Rattle.vg_meaning.specs.History.{History, no_history}
use Rattle.vg_meaning.specs.World.{World, Running}
use Rattle.vg_meaning.specs.Answer.{End, Over, Answer, Ends}
use Rattle.vg_meaning.specs.Code.{Code}
use Rattle.vg_lin.specs.declared.instr.Call.{Call}
use Rattle.vg_lin.specs.Steps.{Config}
use Rattle.vg_lin.specs.Program.{Program}
use Rattle.vg_lin.specs.State.{State}
use Rattle.vg_lin.specs.Meaning.{language, first_state, run, counted_steps}
use Rattle.vg_lin.specs.Structured.{Step, Deciding, fresh, running}
use Rattle.vg_lin.specs.Follows.{EndsBy, IsLegal}

-- The world before a run, with so many ticks and perhaps a limit on active calls.
abbrev pub world : (clock : ℕ) → (deepest : Option ℕ) → (reads interrupts : List ℕ) → World History
world clock deepest reads interrupts =
    record { phase = Running; deepest = deepest; largest = None; clock = clock; outside = before reads interrupts; history = no_history }

-- The session of structured bodies over the states of the program.
abbrev pub session : Program → (ℕ → Code Step) → Call → (clock : ℕ) → (deepest : Option ℕ) → (reads interrupts : List ℕ) → Answer (Deciding State) History
session p bodies c clock deepest reads interrupts =
    running (language p) bodies c (length interrupts) (fresh (first_state p)) (world clock deepest reads interrupts)

-- What a configuration shows of a run that is over for a reason, in this world.
pub record ShowsEnd (why : End) (v : World History) (d : Config State) : Type 0 where
  pub ending : EndsBy why d
  pub outside : d.outside ≡ v.outside
  pub openings : d.openings ≡ v.history.at_openings

-- Where the session is over for a legal reason, the program's run shows it, after at least as many steps that count as ticks were spent.
abbrev pub FollowsSessions : Program → (ℕ → Code Step) → Call → Type 0
FollowsSessions p bodies c =
    (clock : ℕ) (deepest : Option ℕ) (reads interrupts : List ℕ) (t : Deciding State) (v : World History) (why : End) → IsLegal why
    → session p bodies c clock deepest reads interrupts ≡ Ends (Over why) t v
    → (j : ℕ) × (clock ≤ v.clock + counted_steps p j reads interrupts) × ShowsEnd why v (run p j reads interrupts)
