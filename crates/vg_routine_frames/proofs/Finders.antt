-- What the finders take of the stack.
use Rattle.std.specs.Prelude.{ℕ, ◌≤◌, length}
use Rattle.std.proofs.Common.{◌≡◌, refl, arith}
use Rattle.vg_finding.specs.Finders.{finder}
use Rattle.vg_frame_costs.specs.Bytes.{opening_bytes, pushed_bytes, procedure_bytes}
use Rattle.vg_frame_costs.specs.Fitting.{IsRoutineWithin}

finder_bytes : (d : ℕ) → procedure_bytes (finder d) ≡ 2
unfolding opening_bytes pushed_bytes
finder_bytes d = refl

pub finder_within : (above d : ℕ) → 16 ≤ above → IsRoutineWithin above (finder d)
finder_within above d room =
    record { unnamed = refl; bytes = let e = finder_bytes d in omega (arith, e, room); code = (tt, (tt, tt)) }

pub finder_short : (d : ℕ) → length (finder d).code ≤ 65535
finder_short d = omega arith
