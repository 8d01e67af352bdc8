-- A run as the state and the world of the meaning, and what functions of the code answer.
use Rattle.std.specs.Prelude.{◌≡◌, ℕ, Bool, [], ◌∷◌, Result, Ok, Err}
use Rattle.vg_meaning.specs.World.{World}
use Rattle.vg_meaning.specs.Answer as answer
use Rattle.vg_meaning.specs.Answer.{End, Over, Breaks, Continues, Returns, Answer, Gives, Ends, Piece, kept, over}
use Rattle.vg_core.specs.declared.step.Step.{Step}
use Rattle.vg_core.specs.declared.step.Step.TheVariants.{Put, Local, Operate, SetLocal, CallMethod, CallValue, CallComponent, NewObject, Super}
use Rattle.vg_core.specs.declared.value.CoreValue.{CoreValue}
use Rattle.vg_core.specs.Heap.{Place, OfArray}
use Rattle.vg_core.specs.State.{State}
use Rattle.vg_core.specs.Meaning.{Caller}
use Rattle.vg_interp_run.specs.declared.run.Run.{Run}
use Rattle.vg_interp_run.specs.declared.run.Element.{Element}
use Rattle.vg_interp_run.specs.declared.signal.Signal.{Signal}
use Rattle.vg_interp_run.specs.declared.signal.Signal.TheVariants.{Break, Continue, Return, Stops, Wants, Touches, Done, OutOfClock, OutOfDepth, OutOfRoom, Wrong, NoMemory}

-- The state of a run.
abbrev pub state : Run → State
state r = record { values = r.frames.values; locals = r.frames.locals; self = r.receiver; heap = r.store }

-- Its world.
abbrev pub world : Run → World ℕ
world r = r.around

-- A caller for the steps that call nothing.
abbrev pub uncalled : Caller ℕ
uncalled target count self s w = over answer.Wrong s w

-- What a body keeps of a run: what lies below it.
abbrev pub Kept : (before now : Run) → Type 0
Kept before now = now.frames.below ≡ before.frames.below

-- The run is Wrong.
abbrev pub IsWrong : Answer State ℕ → Type 0
IsWrong (Ends (Over answer.Wrong) s w) = Unit {0}
IsWrong _ = ⊥

-- The run is over for this reason.
abbrev pub IsOver : End → State → World ℕ → Answer State ℕ → Type 0
IsOver why s w a = a ≡ Ends (Over why) s w

-- A signal is what the meaning answers, with the state and the world behind it. Nothing is asked of a state that is Wrong, nor where
-- memory ran out.
abbrev pub Signals : Signal → State → World ℕ → Answer State ℕ → Type 0
Signals Break s w a = a ≡ Ends Breaks s w
Signals Continue s w a = a ≡ Ends Continues s w
Signals Return s w a = a ≡ Ends Returns s w
Signals (Stops code at) s w a = IsOver (answer.Stops code (kept w.phase at)) s w a
Signals (Wants x) s w a = IsOver (answer.Wants x) s w a
Signals (Touches x) s w a = IsOver (answer.Touches x) s w a
Signals Done s w a = IsOver answer.Done s w a
Signals OutOfClock s w a = IsOver answer.OutOfClock s w a
Signals OutOfDepth s w a = IsOver answer.OutOfDepth s w a
Signals OutOfRoom s w a = IsOver answer.OutOfRoom s w a
Signals Wrong s w a = IsWrong a
Signals NoMemory s w a = Unit {0}

-- A result is what the meaning answers.
abbrev pub Answers : {A : Type 0} → Result A Signal → State → World ℕ → Answer State ℕ → Type 0
Answers (Ok u) s w a = a ≡ Gives s w
Answers (Err why) s w a = Signals why s w a

-- The newest value was taken, or there is none.
abbrev pub Pops : Result CoreValue Signal → (before now : Run) → Type 0
Pops (Ok v) before now =
    (before.frames.values ≡ v ∷ now.frames.values)
    × (now ≡ record before { frames = record before.frames { values = now.frames.values } })
Pops (Err Wrong) before now = (before.frames.values ≡ []) × (now ≡ before)
Pops (Err _) before now = ⊥

-- The place of an element was reached, or the run ends.
abbrev pub Reaches : Result Element Signal → (Place → Piece State ℕ) → State → World ℕ → Answer State ℕ → Type 0
Reaches (Ok e) go s w a = a ≡ go (OfArray e.array e.index) s w
Reaches (Err why) go s w a = Signals why s w a

-- The value below others was taken, or there is none.
abbrev pub TakesBelow : Result CoreValue Signal → (CoreValue → Piece State ℕ) → State → World ℕ → Answer State ℕ → Type 0
TakesBelow (Ok v) go s w a = a ≡ go v s w
TakesBelow (Err why) go s w a = Signals why s w a

-- A step that may call.
abbrev pub IsCall : Step → Type 0
IsCall (CallMethod at class selector count) = Unit {0}
IsCall (CallValue at count t) = Unit {0}
IsCall (CallComponent method count) = Unit {0}
IsCall (NewObject at class count) = Unit {0}
IsCall (Super class count) = Unit {0}
IsCall _ = ⊥

-- A step that calls nothing.
abbrev pub IsAlone : Step → Type 0
IsAlone (CallMethod at class selector count) = ⊥
IsAlone (CallValue at count t) = ⊥
IsAlone (CallComponent method count) = ⊥
IsAlone (NewObject at class count) = ⊥
IsAlone (Super class count) = ⊥
IsAlone _ = Unit {0}

-- A step that calls nothing, and is none of those that come most.
abbrev pub IsRare : Step → Type 0
IsRare (Put v) = ⊥
IsRare (Local number) = ⊥
IsRare (Operate at op left right) = ⊥
IsRare (SetLocal number t) = ⊥
IsRare (CallMethod at class selector count) = ⊥
IsRare (CallValue at count t) = ⊥
IsRare (CallComponent method count) = ⊥
IsRare (NewObject at class count) = ⊥
IsRare (Super class count) = ⊥
IsRare _ = Unit {0}
