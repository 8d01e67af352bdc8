-- What code and calls of a program do, for a history that is the depth alone, and what a result of the code says of it.
use Rattle.std.specs.Prelude.{◌≡◌, ◌==◌, ℕ, Bool, true, false, List, [], length, take, Option, Result, Ok, Err}
use Rattle.vg_meaning.specs.History.{depth_alone}
use Rattle.vg_meaning.specs.Answer.{Answer, Gives, Piece, and_then}
use Rattle.vg_meaning.specs.Calls.{opened, returned}
use Rattle.vg_meaning.specs.Code.{Code, performed}
use Rattle.vg_meaning_laws.specs.Grows.{trace_of}
use Rattle.vg_core.specs.declared.step.Step.{Step}
use Rattle.vg_core.specs.declared.program.Target.{Target}
use Rattle.vg_core.specs.declared.value.CoreValue.{CoreValue}
use Rattle.vg_core.specs.declared.types.CoreType.{CoreType}
use Rattle.vg_core.specs.Program.{Body, Program, signature_of, body_of}
use Rattle.vg_core.specs.State.{State, are_of, entered, onto}
use Rattle.vg_core.specs.Meaning.{Caller, activity, back_in, called, checked, put, step, truth, with_found}
use Rattle.vg_core.specs.Heap.{default}
use Rattle.vg_interp_run.specs.declared.run.Run.{Run}
use Rattle.vg_interp_run.specs.declared.signal.Exit.{Exit}
use Rattle.vg_interp_run.specs.declared.signal.Exit.TheVariants.{Break, Continue, Return}
use Rattle.vg_interp_run.specs.Exits.{Exits}
use Rattle.vg_interp_run.specs.Run.{state, world, Kept}
use Rattle.vg_outlet.specs.Puts.{moment, PutsOf}
use Rattle.vg_interp.specs.declared.playing.Playing.{Playing}

-- Calls of a program, at most so deep.
abbrev pub calling : Program → (most : ℕ) → Caller ℕ
calling p most = called depth_alone p most

-- Code of a program, whose calls are at most so deep.
abbrev pub does : Program → (most : ℕ) → Code Step → Piece State ℕ
does p most code s w = performed depth_alone (step p.tables (calling p most)) truth code s w

-- A body as a call of it, with a result of this type.
abbrev pub runs : Program → (most : ℕ) → CoreType → Body → (count : ℕ) → (self : CoreValue) → Piece State ℕ
runs p most result b count self s w =
    and_then (returned (does p most b.code (entered b count self s) w) (put (default result))) (back_in p.tables result count s)

-- A call of this body that is opened, where the arguments are of the types of its parameters.
abbrev pub opens : Program → (most : ℕ) → Target → List CoreType → CoreType → Body → (count : ℕ) → (self : CoreValue) → Piece State ℕ
opens p most t params result b count self s w =
    checked (length params == count) (λ s1. checked (are_of p.tables s1.heap.cells (onto params []) (take count s1.values))
    (opened depth_alone (activity t) (runs p most result b count self)) s1) s w

-- A call of a target, where it is there.
abbrev pub looks_up : Program → (most : ℕ) → Target → (count : ℕ) → (self : CoreValue) → Piece State ℕ
looks_up p most t count self s w =
    with_found (signature_of p.tables t) (λ g. with_found (body_of p t) (λ b. opens p most t g.params g.result b count self)) s w

-- Where the run is not over, what lies below the body is kept.
abbrev pub GoesOn : {A : Type 0} → Result A Exit → (before now : Run) → Type 0
GoesOn (Ok u) before now = Kept before now
GoesOn (Err Break) before now = Kept before now
GoesOn (Err Continue) before now = Kept before now
GoesOn (Err Return) before now = Kept before now
GoesOn (Err _) before now = Unit {0}

-- The meaning goes on as this piece, or ends well here, or code does not go on.
abbrev pub Chooses : Result Bool Exit → Piece State ℕ → Run → Answer State ℕ → Type 0
Chooses (Ok true) go r a = a ≡ go (state r) (world r)
Chooses (Ok false) go r a = a ≡ Gives (state r) (world r)
Chooses (Err why) go r a = Exits why r a

-- What was put between two moments is of the trace of this answer.
abbrev pub Shows : (told : Option (List ℕ)) → (faults : ℕ) → Playing → (told_now : Option (List ℕ)) → (faults_now : ℕ) → Playing → Answer State ℕ → Type 0
Shows told faults before told_now faults_now now a =
    PutsOf (moment told faults before.outlet) (moment told_now faults_now now.outlet) (trace_of a)
