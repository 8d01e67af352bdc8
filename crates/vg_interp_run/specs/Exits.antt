-- What an exit of code says, with the cause that the run keeps.
use Rattle.std.specs.Prelude.{◌≡◌, ℕ, Bool, Result, Ok, Err}
use Rattle.vg_meaning.specs.Answer as answer
use Rattle.vg_meaning.specs.Answer.{Breaks, Continues, Returns, Answer, Gives, Ends, Piece, kept}
use Rattle.vg_meaning.specs.Loops.{Test, Tested, Untested}
use Rattle.vg_core.specs.State.{State}
use Rattle.vg_core.specs.Meaning.{Caller}
use Rattle.vg_interp_run.specs.declared.run.Run.{Run}
use Rattle.vg_interp_run.specs.declared.calling.Call.{Call}
use Rattle.vg_interp_run.specs.declared.signal.Cause.{Cause}
use Rattle.vg_interp_run.specs.declared.signal.Exit.{Exit}
use Rattle.vg_interp_run.specs.declared.signal.Exit.TheVariants.{Break, Continue, Return, Stops, Wants, Touches, Done, OutOfClock, OutOfDepth, OutOfRoom, Wrong, NoMemory}
use Rattle.vg_interp_run.specs.declared.signal.Signal.{Signal}
use Rattle.vg_interp_run.specs.declared.signal.Signal.TheVariants as signal
use Rattle.vg_interp_run.specs.Run.{state, world, IsOver, IsWrong}

-- The signal of a kind and a cause.
abbrev pub told : Exit → Cause → Signal
told Break c = signal.Break
told Continue c = signal.Continue
told Return c = signal.Return
told Stops c = signal.Stops c.code c.at
told Wants c = signal.Wants c.address
told Touches c = signal.Touches c.address
told Done c = signal.Done
told OutOfClock c = signal.OutOfClock
told OutOfDepth c = signal.OutOfDepth
told OutOfRoom c = signal.OutOfRoom
told Wrong c = signal.Wrong
told NoMemory c = signal.NoMemory

-- An exit is what the meaning answers, with the state and the world of the run behind it, as its signal is.
abbrev pub Exits : Exit → Run → Answer State ℕ → Type 0
Exits Break r a = a ≡ Ends Breaks (state r) (world r)
Exits Continue r a = a ≡ Ends Continues (state r) (world r)
Exits Return r a = a ≡ Ends Returns (state r) (world r)
Exits Stops r a = IsOver (answer.Stops r.cause.code (kept (world r).phase r.cause.at)) (state r) (world r) a
Exits Wants r a = IsOver (answer.Wants r.cause.address) (state r) (world r) a
Exits Touches r a = IsOver (answer.Touches r.cause.address) (state r) (world r) a
Exits Done r a = IsOver answer.Done (state r) (world r) a
Exits OutOfClock r a = IsOver answer.OutOfClock (state r) (world r) a
Exits OutOfDepth r a = IsOver answer.OutOfDepth (state r) (world r) a
Exits OutOfRoom r a = IsOver answer.OutOfRoom (state r) (world r) a
Exits Wrong r a = IsWrong a
Exits NoMemory r a = Unit {0}

-- A result of code is what the meaning answers.
abbrev pub Comes : {A : Type 0} → Result A Exit → Run → Answer State ℕ → Type 0
Comes (Ok u) r a = a ≡ Gives (state r) (world r)
Comes (Err why) r a = Exits why r a

-- A truth value was taken, or there is none.
abbrev pub Takes : Result Bool Exit → State → Test State → Type 0
Takes (Ok b) s t = t ≡ Tested b s
Takes (Err Wrong) s t = t ≡ Untested
Takes (Err _) s t = ⊥

-- What is called was found, or code does not go on.
abbrev pub Finds : Result Call Exit → Caller ℕ → Run → Answer State ℕ → Type 0
Finds (Ok x) call r a = a ≡ call x.target x.count x.receiver (state r) (world r)
Finds (Err why) call r a = Exits why r a

-- A cell was made, or code does not go on.
abbrev pub Adds : Result ℕ Exit → (ℕ → Piece State ℕ) → Run → Answer State ℕ → Type 0
Adds (Ok k) go r a = a ≡ go k (state r) (world r)
Adds (Err why) go r a = Exits why r a
