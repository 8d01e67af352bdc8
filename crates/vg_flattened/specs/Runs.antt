-- That the runs of a flattened program are those of the packed one.
use Rattle.std.specs.Prelude.{◌≡◌, ℕ, ◌+◌, ◌≤◌, List, length, Option}
use Rattle.vg_meaning.specs.History.{full, History}
use Rattle.vg_meaning.specs.Outside.{AreReads}
use Rattle.vg_meaning.specs.World.{World}
use Rattle.vg_meaning.specs.Answer.{End, Over, Ends}
use Rattle.vg_codes.specs.Codes.{Codes}
use Rattle.vg_firm.specs.Program.{Program as FirmProgram}
use Rattle.vg_firm.specs.Meaning.{State as Firm}
use Rattle.vg_firm.specs.Session.{first_state, running}
use Rattle.vg_lin.specs.Program.{Program}
use Rattle.vg_lin.specs.Meaning.{run, counted_steps}
use Rattle.vg_lin.specs.Follows.{IsLegal}
use Rattle.vg_lin.specs.Sessions.{world, ShowsEnd}

-- Where the run of the packed program is over for a legal reason, that of linear code shows it: the same ending, the same outside,
-- the same calls open at each opening, after at least as many steps that count as ticks were spent. Reads are bytes.
abbrev pub FollowsPacked : Codes → FirmProgram → Program → Type 0
FollowsPacked k f p =
    (clock : ℕ) (deepest : Option ℕ) (reads interrupts : List ℕ) (t : Firm) (v : World History) (why : End) → AreReads reads → IsLegal why
    → running full k f (length interrupts) (first_state f) (world clock deepest reads interrupts) ≡ Ends (Over why) t v
    → (j : ℕ) × (clock ≤ v.clock + counted_steps p j reads interrupts) × ShowsEnd why v (run p j reads interrupts)
