-- What the procedure with which a run begins takes of the stack.
use Rattle.std.specs.Prelude.{ℕ, ◌<◌, ◌≤◌, Bool, length}
use Rattle.std.proofs.Common.{◌≡◌, refl, arith}
use Rattle.vg_expand.specs.Code.{expanded}
use Rattle.vg_flatten.specs.Flattened.{start_of}
use Rattle.vg_frame_costs.specs.Bytes.{opening_bytes, pushed_bytes, procedure_bytes}
use Rattle.vg_frame_costs.specs.Fitting.{IsStartWithin}

start_bytes : (first main : ℕ) (receives : Bool) → procedure_bytes (expanded first (start_of main receives)) ≡ 2
unfolding opening_bytes pushed_bytes
start_bytes first main receives = refl

pub start_within : (first start main below : ℕ) (receives : Bool) → main < start → 6 ≤ below
    → IsStartWithin start below (expanded first (start_of main receives))
start_within first start main below receives lt room =
    record {
      unnamed = refl;
      bytes = let e = start_bytes first main receives in omega (arith, e, room);
      first = tt;
      code = (lt, (tt, (tt, tt)));
    }

pub start_short : (first main : ℕ) (receives : Bool) → length (expanded first (start_of main receives)).code ≤ 65535
start_short first main receives = omega arith
