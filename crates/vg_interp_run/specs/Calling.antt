-- Calls, as the code prepares and ends them.
use Rattle.std.specs.Prelude.{◌≡◌, ◌+◌, ℕ, List, ◌++◌, drop, length, reverse, Result, Ok, Err}
use Rattle.vg_meaning.specs.World.{World}
use Rattle.vg_meaning.specs.Answer.{Answer, Gives, Piece}
use Rattle.vg_core.specs.declared.value.CoreValue.{CoreValue}
use Rattle.vg_core.specs.declared.types.CoreType.{CoreType}
use Rattle.vg_core.specs.declared.program.Tables.{Tables}
use Rattle.vg_core.specs.Program.{Body}
use Rattle.vg_core.specs.State.{State, entered}
use Rattle.vg_core.specs.Meaning.{Caller, back_in}
use Rattle.vg_interp_run.specs.declared.run.Run.{Run}
use Rattle.vg_interp_run.specs.declared.calling.Call.{Call}
use Rattle.vg_interp_run.specs.declared.calling.Outside.{Outside}
use Rattle.vg_interp_run.specs.declared.signal.Signal.{Signal}
use Rattle.vg_interp_run.specs.declared.signal.Exit.{Exit}
use Rattle.vg_interp_run.specs.Exits.{Comes}
use Rattle.vg_interp_run.specs.Run.{state, world, Signals}

-- What is called was found, or the run ends.
abbrev pub Calls : Result Call Signal → Caller ℕ → State → World ℕ → Answer State ℕ → Type 0
Calls (Ok x) call s w a = a ≡ call x.target x.count x.receiver s w
Calls (Err why) call s w a = Signals why s w a

-- A cell was made, or the run ends.
abbrev pub Makes : Result ℕ Signal → (ℕ → Piece State ℕ) → State → World ℕ → Answer State ℕ → Type 0
Makes (Ok k) go s w a = a ≡ go k s w
Makes (Err why) go s w a = Signals why s w a

-- What lies below a body that a caller opens with so many arguments.
abbrev pub under : (count : ℕ) → (caller : Run) → List CoreValue
under count r = r.frames.below ++ r.frames.locals ++ reverse (drop count r.frames.values)

-- What a caller has outside of its waiting values and locals.
abbrev pub IsOutside : Outside → (caller : Run) → Type 0
IsOutside o r =
    (o.mark.start ≡ length r.frames.below) × (o.mark.base ≡ length r.frames.below + length r.frames.locals) × (o.receiver ≡ r.receiver)

-- A body was entered.
abbrev pub Opened : Outside → Body → (count : ℕ) → (self : CoreValue) → (before now : Run) → Type 0
Opened o b count self before now =
    IsOutside o before
    × (state now ≡ entered b count self (state before))
    × (world now ≡ world before)
    × (now.frames.below ≡ under count before)

-- Below a caller is what was there.
abbrev pub StaysUnder : {A E : Type 0} → Result A E → (caller now : Run) → Type 0
StaysUnder (Ok u) r s = s.frames.below ≡ r.frames.below
StaysUnder (Err why) r s = Unit {0}

-- A body was left, and its caller goes on with what it had.
abbrev pub Leaves : {A : Type 0} → Result A Exit → Tables → CoreType → Outside → (before now : Run) → Type 0
Leaves result p t o before now = (count : ℕ) (caller : Run) → IsOutside o caller → before.frames.below ≡ under count caller
    → Comes result now (back_in p t count (state caller) (state before) (world before)) × StaysUnder result caller now
