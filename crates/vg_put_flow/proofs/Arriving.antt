-- The registers in which parameters arrive, one behind the other.
use Rattle.std.proofs.Common.{◌≡◌, ℕ, zero, suc, ◌+◌, ◌<◌, ◌≤◌, Bool, List, [], ◌∷◌, length, take, drop, slice_index, refl, sym, subst, arith}
use Rattle.vg_templates.specs.Layouts.{Layout, width_of}
use Rattle.vg_templates.specs.Calls.{sum_of}
use Rattle.vg_alloc.specs.Locations.{Located, layout, CanArrive}
use Rattle.vg_put_flow.specs.Arriving.{HaveRoom}

-- of parameters from one on, so many and one more, the first one comes first
next_width : (ws : List ℕ) (k n : ℕ) → k < length ws → sum_of (take (suc n) (drop k ws)) ≡ slice_index ws k + sum_of (take n (drop (suc k) ws))
next_width [] k n low = absurd (omega (arith, low))
next_width (w ∷ ws) zero n low = refl
next_width (w ∷ ws) (suc k) n low = next_width ws k n (omega (arith, low))

all_have_room : (l : Layout) (k r : ℕ) (bs : List Bool) → k + length bs ≤ length l.widths → k + length bs < 256
    → r + sum_of (take (length bs) (drop k l.widths)) ≤ 32 → HaveRoom l k r bs
all_have_room l k r [] low few top = tt {0}
all_have_room l k r (b ∷ bs) low few top =
    let next = next_width l.widths k (length bs) (omega (arith, low)) in (
      omega (arith, few),
      omega (arith, low),
      omega (arith, top, next),
      all_have_room l (suc k) (r + width_of l k) bs (omega (arith, low)) (omega (arith, few)) (omega (arith, top, next)),
    )

pub arrivals_have_room : (x : Located) (bs : List Bool) → bs ≡ x.arrives → CanArrive x.widths x.arrives → HaveRoom (layout x) 0 18 bs
arrivals_have_room x bs e can =
    let few = can.0 in
    let low = can.1 in
    let small = can.2 in
    subst (λ z. HaveRoom (layout x) 0 18 z) (sym e)
    (all_have_room (layout x) 0 18 x.arrives (omega (arith, low)) (omega (arith, few)) (omega (arith, small)))
