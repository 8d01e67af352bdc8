-- What initialisation gives.
use Rattle.std.specs.Prelude.{◌≡◌, ℕ, Result, Ok, Err}
use Rattle.vg_meaning.specs.World.{World}
use Rattle.vg_meaning.specs.Answer.{Answer}
use Rattle.vg_core.specs.declared.heap.Heap.{Heap}
use Rattle.vg_core.specs.Session.{Started, start_of}
use Rattle.vg_core.specs.State.{State}
use Rattle.vg_interp_run.specs.declared.signal.Signal.{Signal}
use Rattle.vg_interp_run.specs.Run.{Signals}

-- The heap that the meaning starts with, or a signal of its answer, with some state and world.
abbrev pub Starts : Result Heap Signal → Answer State ℕ → Type 0
Starts (Ok h) a = start_of a ≡ Started h
Starts (Err why) a = (s : State) × (w : World ℕ) × Signals why s w a
