-- What calls need by frames within what the calls of some way cost.
use Rattle.std.specs.Prelude.{ℕ, ◌+◌, ◌≤◌, List}
use Rattle.vg_packed.specs.declared.program.FirmProgram.{FirmProgram}
use Rattle.vg_calls_packed.specs.Ways.{IsSpent}
use Rattle.vg_call_need.specs.declared.need.Need.{Need}
use Rattle.vg_call_need.specs.declared.need.Need.TheVariants.{Bytes, Cycle}
use Rattle.vg_call_need.specs.Need.{IsNeed}

-- So many bytes are at least four, and at most four more than the calls of some way cost.
abbrev pub IsSpentWithin : FirmProgram → (costs : List ℕ) → (need : ℕ) → Type 0
IsSpentWithin f costs need = (4 ≤ need) × ((bytes : ℕ) × (need ≤ 4 + bytes) × IsSpent f costs bytes)

-- The bytes that are needed are such; of a cycle nothing is said.
abbrev pub IsSpentBy : FirmProgram → (costs : List ℕ) → Need → Type 0
IsSpentBy f costs (Bytes need) = IsSpentWithin f costs need
IsSpentBy f costs (Cycle procedures) = Unit {0}

-- This is what calls need by frames, and the calls of some way cost as much, but for four bytes.
pub record IsNeedWithin (extra : ℕ) (f : FirmProgram) (frames costs : List ℕ) (need : Need) : Type 0 where
  pub spent : IsSpentBy f costs need
  pub is_need : IsNeed extra f frames need
