-- What calls need by frames within which all procedures are.
use Rattle.std.specs.Prelude.{ℕ, ◌≤◌, List, min}
use Rattle.std.proofs.Common.{◌≡◌, subst, arith}
use Rattle.vg_packed.specs.declared.program.FirmProgram.{FirmProgram}
use Rattle.vg_call_need.specs.Need.{IsNeed}
use Rattle.vg_call_need.specs.Within.{IsNeedWithin, IsSpentBy}
use Rattle.vg_call_need.specs.declared.need.Need.{Need}
use Rattle.vg_call_need.specs.declared.need.Need.TheVariants.{Bytes}
use Rattle.vg_compile.specs.Bounds.{NeedsAtLeast}

pub need_in : (extra : ℕ) (f : FirmProgram) (row frames costs : List ℕ) (need : Need) → row ≡ frames → IsSpentBy f costs need → IsNeed extra f row need
    → IsNeedWithin extra f frames costs need
need_in extra f row frames costs need same spent is = record { spent = spent; is_need = subst (λ z. IsNeed extra f z need) same is }

-- what is said of bytes that are more than a stack has is at most these bytes
said_four : (said total : ℕ) → said ≡ min total 4294967295 → 4 ≤ total → 4 ≤ said
said_four said total e four = omega (arith, e, four)

said_most : (said total : ℕ) → said ≡ min total 4294967295 → said ≤ total
said_most said total e = omega (arith, e)

pub needs_said : (extra : ℕ) (f : FirmProgram) (frames costs : List ℕ) (said total : ℕ) → said ≡ min total 4294967295
    → IsNeedWithin extra f frames costs (Bytes total) → NeedsAtLeast f costs said
needs_said extra f frames costs said total e is =
    (said_four said total e is.spent.0, (extra, frames, total, said_most said total e, is))
