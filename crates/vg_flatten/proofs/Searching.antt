-- That what is found by halves is the least number of temporaries, or of pushed values.
use Rattle.std.specs.Prelude.{◌≡◌, ℕ, ◌≤◌, Option, Some, None}
use Rattle.std.proofs.Common.{sym, subst, arith}
use Rattle.vg_firm.specs.Program.{Procedure}
use Rattle.vg_lin.specs.Program.{Procedure as LinProcedure}
use Rattle.vg_flatten_shapes.specs.declared.layout.Layout.{Layout}
use Rattle.vg_flatten.specs.Searching.{NeedsAsMany, IsBest, IsFound, NeedsAsManyPushed, IsBestPushed, IsFoundPushed}

-- the search is at its end
pub found : (lay : Layout) (m : Procedure) (all low high : ℕ) (best : Option LinProcedure) → high ≤ low → NeedsAsMany lay m low → IsBest lay m all high best
    → IsFound lay m all best
found lay m all low high (Some p) le needs h = h (λ most from. let n = needs most from in omega (arith, le, n))
found lay m all low high None le needs h = λ most from. let n = needs most from in omega (arith, h, le, n)

-- nothing is found
pub all_needed : (lay : Layout) (m : Procedure) (all temps : ℕ) (best : Option LinProcedure) → best ≡ None → IsFound lay m all best → temps ≡ all
    → NeedsAsMany lay m temps
all_needed lay m all temps best is h t = subst (NeedsAsMany lay m) (sym t) (subst (IsFound lay m all) is h)

-- ---- pushed values

-- the search is at its end
pub found_pushed : (lay : Layout) (m : Procedure) (all low high : ℕ) (best : Option LinProcedure) → high ≤ low → NeedsAsManyPushed lay m low
    → IsBestPushed lay m all high best → IsFoundPushed lay m all best
found_pushed lay m all low high (Some p) le needs h = h (λ most from. let n = needs most from in omega (arith, le, n))
found_pushed lay m all low high None le needs h = λ most from. let n = needs most from in omega (arith, h, le, n)
