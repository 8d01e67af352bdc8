-- How much is enough for the active calls of a packed program.
use Rattle.std.specs.Prelude.{ℕ, ◌≤◌, List}
use Rattle.vg_meaning.specs.History.{Active}
use Rattle.vg_source.specs.Peak.{total_cost}
use Rattle.vg_firm.specs.Program.{Program}
use Rattle.vg_walks.specs.Walks.{IsWalk}

-- No active calls that lie along the calls that procedures name cost more than so many bytes.
abbrev pub IsEnough : Program → (costs : List ℕ) → (bytes : ℕ) → Type 0
IsEnough f costs bytes = (calls : List Active) → IsWalk f calls → total_cost costs calls ≤ bytes
