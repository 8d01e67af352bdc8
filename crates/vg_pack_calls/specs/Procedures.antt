-- The procedures of methods.
use Rattle.std.specs.Prelude.{ℕ, suc, List, [], ◌∷◌, Option, Some, None}
use Rattle.vg_live.specs.declared.live_set.Reason.{Reason}

-- The live methods have procedures, numbered from n on in order of the text.
abbrev pub procedures_from : (n : ℕ) → List (Option Reason) → List (Option ℕ)
procedures_from n [] = []
procedures_from n (Some r ∷ rs) = Some n ∷ procedures_from (suc n) rs
procedures_from n (None ∷ rs) = None ∷ procedures_from n rs
