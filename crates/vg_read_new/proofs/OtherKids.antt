-- What stands behind a `[`, where no arguments do.
use Rattle.std.proofs.Common.{◌≡◌, ℕ, List, refl}
use Rattle.vg_base.specs.declared.place.Place.{Place}
use Rattle.vg_syntax.specs.Made.{Made}
use Rattle.vg_syntax.specs.Reads.{bracketed, level_or_suffix}
use Rattle.vg_tree.specs.declared.made.Made.{Made as HeldMade}
use Rattle.vg_tree.specs.declared.made.Made.TheVariants as held
use Rattle.vg_tree.specs.HeldMade.{made_at}

pub no_call_behind : (texts : List (List ℕ)) (place : Place) (m : HeldMade) (b : Made) → ((ns : _) → m ≡ held.Row ns → ⊥)
    → level_or_suffix place (made_at texts m) b ≡ bracketed place b
no_call_behind texts place (held.Row ns) b h = absurd (h ns refl)
no_call_behind texts place _ b h = refl
