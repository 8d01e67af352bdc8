-- That programs with expanded procedures do what they did.
use Rattle.std.specs.Prelude.{◌≡◌, ◌≢◌, ℕ, ◌+◌, ◌<◌, ◌≤◌, List, length, Option, Some, slice_get}
use Rattle.vg_meaning.specs.History.{History}
use Rattle.vg_meaning.specs.World.{World}
use Rattle.vg_meaning.specs.Answer.{End, Wrong, Over, Ends}
use Rattle.vg_meaning.specs.Code.{Code}
use Rattle.vg_lin.specs.declared.instr.Call.{Call}
use Rattle.vg_lin.specs.Sound.{IsSound}
use Rattle.vg_lin.specs.Program.{Procedure, Program}
use Rattle.vg_lin.specs.State.{State}
use Rattle.vg_lin.specs.Meaning.{run}
use Rattle.vg_lin.specs.Steps.{Config}
use Rattle.vg_lin.specs.Structured.{Step, Deciding}
use Rattle.vg_lin.specs.Follows.{IsLegal}
use Rattle.vg_lin.specs.Sessions.{session, ShowsEnd}
use Rattle.vg_expand.specs.Expansion.{Expands}
use Rattle.vg_expand.specs.Unpushed.{unpushed_steps}

-- The program with these procedures in place of its own.
abbrev pub with_procedures : Program → List Procedure → Program
with_procedures p ms = record p { procedures = ms }

-- Each procedure has its expanded one under the same number; the routines stand among the others.
abbrev pub AllExpand : (first : ℕ) → (old new : List Procedure) → Type 0
AllExpand first ms ns =
    (q : ℕ) (m : Procedure) → slice_get ms q ≡ Some m → IsSound m × ((n : Procedure) × (slice_get ns q ≡ Some n) × Expands first m n)

-- The start and the handlers of a program are procedures of it.
pub record IsClosed (p : Program) : Type 0 where
  pub start : p.start < length p.procedures
  pub handlers : (v q : ℕ) → p.handler v ≡ Some q → q < length p.procedures

-- What a run shows: the same events, the same open calls at each opening, and the same ending.
pub record ShowsSame (c d : Config State) : Type 0 where
  pub outside : d.outside ≡ c.outside
  pub openings : d.openings ≡ c.openings
  pub ending : d.ending ≡ c.ending

-- Wherever a run of the first program has come that is not Wrong, the second one comes in at least as many steps that are no pushes, and shows the same.
abbrev pub RunsAs : (old new : Program) → Type 0
RunsAs p n =
    (steps : ℕ) (reads interrupts : List ℕ) → (run p steps reads interrupts).ending ≢ Some Wrong
    → (j : ℕ) × (unpushed_steps p steps reads interrupts ≤ unpushed_steps n j reads interrupts)
    × ShowsSame (run p steps reads interrupts) (run n j reads interrupts)

-- The runs of the second program follow the sessions of structured bodies over the first one: where a session is over for a legal
-- reason, a run shows it, after at least as many steps as ticks were spent.
abbrev pub FollowsSessionsOf : (old new : Program) → (ℕ → Code Step) → Call → Type 0
FollowsSessionsOf p n bodies c =
    (clock : ℕ) (deepest : Option ℕ) (reads interrupts : List ℕ) (t : Deciding State) (v : World History) (why : End) → IsLegal why
    → session p bodies c clock deepest reads interrupts ≡ Ends (Over why) t v
    → (j : ℕ) × (clock ≤ v.clock + j) × ShowsEnd why v (run n j reads interrupts)
