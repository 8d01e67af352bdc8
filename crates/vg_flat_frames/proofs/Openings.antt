-- How many bytes a procedure takes when it begins, and its parameters that were pushed.
use Rattle.std.specs.Prelude.{ℕ, ◌+◌, ◌≤◌, List, [], ◌∷◌}
use Rattle.std.proofs.Common.{◌≡◌, refl, ap, arith}
use Rattle.vg_lin.specs.Program.{Procedure}
use Rattle.vg_templates.specs.Calls.{sum_of}
use Rattle.vg_templates.specs.Framed.{on_stack}
use Rattle.vg_templates.proofs.Framing.{both_parts, framed-taken}
use Rattle.vg_frame_costs.specs.Bytes.{bytes_of, opening_bytes, pushed_bytes}

sum_is : (ws : List ℕ) → sum_of ws ≡ bytes_of ws
sum_is [] = refl
sum_is (w ∷ ws) = ap (λ n. w + n) (sum_is ws)

-- the return address, the frame pointer, and the bytes of the locals, each of which lies in registers or in a slot, or was pushed
pub opening_few : (p : Procedure) → opening_bytes p + pushed_bytes p ≤ 4 + bytes_of p.widths
unfolding opening_bytes pushed_bytes
opening_few p =
    let parts = both_parts p.widths (on_stack p.widths p.params) in
    let few = framed-taken p in let whole = sum_is p.widths in omega (arith, parts, few, whole)
