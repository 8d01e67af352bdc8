-- Code without a jump back.
use Rattle.std.specs.Prelude.{ℕ, suc, Bool, true, ◌&&◌, nat_lt, List, [], ◌∷◌}
use Rattle.vg_lin.specs.declared.instr.Instr.{Instr}
use Rattle.vg_lin.specs.declared.instr.Instr.TheVariants.{When, Unless, Jump}

-- No instruction leads back, where the first of these stands at a place.
abbrev pub leads_on : (at : ℕ) → Instr → Bool
leads_on at (When test to) = nat_lt at to
leads_on at (Unless test to) = nat_lt at to
leads_on at (Jump to) = nat_lt at to
leads_on at i = true

abbrev pub all_lead_on : (at : ℕ) → List Instr → Bool
all_lead_on at [] = true
all_lead_on at (i ∷ is) = leads_on at i && all_lead_on (suc at) is
