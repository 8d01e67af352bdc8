-- The bytes of the locals of flattened procedures.
use Rattle.std.specs.Prelude.{ℕ, zero, suc, ◌+◌, ◌*◌, ◌≤◌, Bool, true, false, List, [], ◌∷◌, ◌++◌, length, replicate, Some, slice_get}
use Rattle.std.proofs.Common.{◌≡◌, refl, arith}
use Rattle.vg_firm.specs.Program.{Procedure as FirmProcedure}
use Rattle.vg_flatten.specs.Flattened.{with_receiver_width, widened, wide_params, all_widths}
use Rattle.vg_frame_costs.specs.Bytes.{bytes_of}
use Rattle.vg_frame_costs.proofs.Counted.{bytes_append}

-- Each of these widths is at most four.
abbrev pub AreFew : List ℕ → Type 0
AreFew ws = (i w : ℕ) → slice_get ws i ≡ Some w → w ≤ 4

widened_bytes : (n : ℕ) (ws : List ℕ) → AreFew ws → bytes_of (widened n ws) ≤ 4 * length ws
widened_bytes zero [] h = omega arith
widened_bytes (suc n) [] h = omega arith
widened_bytes zero (w ∷ ws) h =
    let first = h 0 w refl in let rest = widened_bytes zero ws (λ i v e. h (suc i) v e) in omega (arith, first, rest)
widened_bytes (suc n) (w ∷ ws) h = let rest = widened_bytes n ws (λ i v e. h (suc i) v e) in omega (arith, rest)

receiver_bytes : (b : Bool) (ws : List ℕ) → bytes_of (with_receiver_width b ws) ≤ 2 + bytes_of ws
receiver_bytes true ws = omega arith
receiver_bytes false ws = omega arith

pub fours : (t : ℕ) → bytes_of (replicate t 4) ≡ 4 * t
fours zero = omega arith
fours (suc t) = let rest = fours t in omega (arith, rest)

pub local_bytes : (m : FirmProcedure) (t : ℕ) → AreFew m.widths → bytes_of (all_widths m ++ replicate t 4) ≤ 2 + 4 * (length m.widths + t)
local_bytes m t h =
    let parts = bytes_append (all_widths m) (replicate t 4) in
    let own = receiver_bytes m.receives (widened (wide_params m) m.widths) in
    let wide = widened_bytes (wide_params m) m.widths h in
    let temps = fours t in omega (arith, parts, own, wide, temps)
