-- How much stack the active calls of a packed program need.
use Rattle.std.specs.Prelude.{ℕ, ◌≡◌, ◌+◌, List}
use Rattle.vg_codes.specs.Codes.{Codes}
use Rattle.vg_packed.specs.declared.program.FirmProgram.{FirmProgram}
use Rattle.vg_packed.specs.Programs.{program_of}
use Rattle.vg_calls_packed.specs.Enough.{IsEnough}
use Rattle.vg_calls_packed.specs.Ways.{HasNoCycle, IsCycleIn, IsSpent}
use Rattle.vg_call_need.specs.declared.need.Need.{Need}
use Rattle.vg_call_need.specs.declared.need.Need.TheVariants.{Bytes, Cycle}

-- No cycle is reached, so many bytes, `extra` of them for what lies beside the calls, are enough by frames of methods, and the calls of some way take all of
-- them; or these procedures call one another in turn, and calls lead to them.
abbrev pub IsNeed : (extra : ℕ) → FirmProgram → (frames : List ℕ) → Need → Type 0
IsNeed extra f frames (Bytes need) =
    HasNoCycle f × ((bytes : ℕ) × (need ≡ extra + bytes) × ((k : Codes) → IsEnough (program_of k f) frames bytes) × IsSpent f frames bytes)
IsNeed extra f frames (Cycle procedures) = IsCycleIn f procedures
