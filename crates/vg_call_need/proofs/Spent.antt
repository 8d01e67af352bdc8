-- What is needed within the cost of the dearest way.
use Rattle.std.specs.Prelude.{ℕ, ◌≤◌, List}
use Rattle.std.proofs.Common.{subst}
use Rattle.vg_packed.specs.declared.program.FirmProgram.{FirmProgram}
use Rattle.vg_call_need.specs.Need.{IsNeed}
use Rattle.vg_call_need.specs.Within.{IsSpentWithin}
use Rattle.vg_call_need.specs.declared.need.Need.TheVariants.{Bytes}

pub spent_within : (f : FirmProgram) (costs : List ℕ) (paid need : ℕ) → IsNeed 4 f costs (Bytes paid) → (4 ≤ need) × (need ≤ paid) → IsSpentWithin f costs need
spent_within f costs paid need is (four, most) =
    let (none, (bytes, sum, enough, spent)) = is in (four, (bytes, subst (λ z. need ≤ z) sum most, spent))
