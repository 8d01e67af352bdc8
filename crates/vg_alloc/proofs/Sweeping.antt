-- One turn of a loop that marks places, from the last one to the first.
use Rattle.std.proofs.Common.{◌≡◌, ℕ, zero, suc, ◌-◌, ◌<◌, Bool, List, slice_get, slice_set, subst, ap, arith}
use Rattle.vg_lin.specs.declared.instr.Instr.{Instr}
use Rattle.vg_templates.specs.Living.{needs_there, swept}

pub sweeps : (is : List Instr) (k p : ℕ) (ms : List Bool) (b : Bool) → 0 < p → b ≡ needs_there ms k (p - 1) (slice_get is (p - 1))
    → swept is k (p - 1) (slice_set ms (p - 1) b) ≡ swept is k p ms
sweeps is k zero ms b h e = absurd (omega (arith, h))
sweeps is k (suc n) ms b h e =
    let one : n ≡ suc n - 1 = omega arith in
    subst (λ m. b ≡ needs_there ms k m (slice_get is m) → swept is k m (slice_set ms m b) ≡ swept is k (suc n) ms) one
    (λ f. ap (λ d. swept is k n (slice_set ms n d)) f) e
