-- When a stack holds what active calls cost.
use Rattle.std.specs.Prelude.{ℕ, ◌≡◌, ◌+◌, ◌≤◌, List, None}
use Rattle.vg_meaning.specs.Answer.{End, Over, Ends}
use Rattle.vg_meaning.specs.History.{History, full, no_history}
use Rattle.vg_meaning.specs.Outside.{AreReads, AreVectors}
use Rattle.vg_meaning.specs.World.{World}
use Rattle.vg_source.specs.Peak.{most}
use Rattle.vg_core.specs.declared.heap.Heap.{Heap}
use Rattle.vg_core.specs.Program.{Program}
use Rattle.vg_core.specs.Session.{running}
use Rattle.vg_core.specs.State.{State}
use Rattle.vg_lin.specs.Follows.{IsLegal}

-- in each run of the program, the largest cost of calls that were active behind a tick, and so many bytes more, reach from the end of SRAM down to the floor at most
abbrev pub HoldsPeaks : (floor extra : ℕ) (costs : List ℕ) → Program → Heap → Type 0
HoldsPeaks floor extra costs p h =
    (reads interrupts : List ℕ) (clock : ℕ) (t : State) (v : World History) (why : End) → AreReads reads → AreVectors interrupts → IsLegal why
    → running full no_history p h None reads interrupts clock ≡ Ends (Over why) t v → floor + (extra + most costs v.history.behind_ticks) ≤ 0x1100
