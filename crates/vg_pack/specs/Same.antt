-- A packed program does what the program does.
use Rattle.std.specs.Prelude.{ℕ, List, length, Option}
use Rattle.vg_codes.specs.Codes.{Codes, AreCodes}
use Rattle.vg_core.specs.declared.heap.Heap.{Heap}
use Rattle.vg_core.specs.Program.{Program}
use Rattle.vg_core.specs.Session.{running}
use Rattle.vg_firm.specs.Session as firm
use Rattle.vg_meaning.specs.History.{full, no_history}
use Rattle.vg_meaning.specs.Outside.{AreReads}
use Rattle.vg_meaning.specs.Safe.{Alike}
use Rattle.vg_source.specs.Session.{running_world}
use Rattle.vg_packed.specs.declared.program.FirmProgram.{FirmProgram}
use Rattle.vg_packed.specs.Programs.{program_of}

-- From its heap a program does what the packed one does from its columns: each run ends for the same reason in the very same world, with the same
-- trace and the same active calls at each opening and behind each tick, whatever the code numbers of the procedures, the interrupts, the limit of
-- depth and the clock, and whatever bytes the devices give.
abbrev pub DoTheSame : Program → Heap → FirmProgram → Type 0
DoTheSame p h f =
    (k : Codes) → AreCodes (length f.procedures) k → (deepest : Option ℕ) (reads interrupts : List ℕ) (clock : ℕ) → AreReads reads
    → Alike (running full no_history p h deepest reads interrupts clock)
    (firm.running full k (program_of k f) (length interrupts) (firm.first_state (program_of k f))
    (running_world no_history deepest reads interrupts clock))
