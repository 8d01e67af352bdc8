-- What it means that the machine does what a program does.
use Rattle.std.specs.Prelude.{◌≡◌, ◌+◌, ◌≤◌, ℕ, List, Option}
use Rattle.avr_isa.specs.Cpu.{PowerOn, IsPowerOn}
use Rattle.avr_view.specs.Run.{Run}
use Rattle.vg_meaning.specs.Answer.{End, Over, Ends}
use Rattle.vg_meaning.specs.History.{full, no_history, History}
use Rattle.vg_meaning.specs.Outside.{AreReads, AreVectors}
use Rattle.vg_meaning.specs.World.{World}
use Rattle.vg_core.specs.declared.heap.Heap.{Heap}
use Rattle.vg_core.specs.Program.{Program}
use Rattle.vg_core.specs.Session.{running}
use Rattle.vg_core.specs.State.{State}
use Rattle.vg_lin.specs.Follows.{IsLegal}
use Rattle.vg_peaks.specs.Peaks.{DoesWithinPeak}

-- Where a run of the program from its heap is over for a legal reason, the machine does as it, or it reaches below the floor of its stack first, for which the
-- calls that were active, and so many bytes beside them, must cost more than the stack.
abbrev pub DoesAsProgram : Run → (extra : ℕ) (costs : List ℕ) → Program → Heap → Type 0
DoesAsProgram e extra costs p h =
    (memory : PowerOn) → IsPowerOn memory → (clock : ℕ) (deepest : Option ℕ) (reads interrupts : List ℕ) → AreReads reads → AreVectors interrupts
    → (t : State) (v : World History) (why : End) → IsLegal why → running full no_history p h deepest reads interrupts clock ≡ Ends (Over why) t v
    → e.whole ≡ v.outside.trace → (steps : ℕ) × (clock ≤ v.clock + steps) × DoesWithinPeak e extra costs steps memory reads interrupts why v
