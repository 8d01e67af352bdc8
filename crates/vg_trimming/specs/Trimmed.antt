-- A procedure of linear code that does what another one does, with less.
use Rattle.std.specs.Prelude.{◌≡◌, ◌⊎◌, ℕ, ◌<◌, true, List, length, take, Some, slice_get}
use Rattle.std.specs.List.{AllZip}
use Rattle.vg_lin.specs.Program.{Procedure}
use Rattle.vg_lin.specs.Sound.{IsSound}
use Rattle.vg_trimming.specs.declared.facts.Facts.{Facts}
use Rattle.vg_trimming.specs.Facts.{begins_with}
use Rattle.vg_trimming.specs.Trimming.{Both, stands_at}

-- Both codes, by what is known at each place of the older one, and the place of the newer one for each.
abbrev pub both_of : List Facts → (places : List ℕ) → (old new : Procedure) → Both
both_of fs ps old new =
    record { old = old.widths; new = new.widths; older = old.code; newer = new.code; facts = fs; places = ps }

-- Each instruction of the older procedure is left out or has one of the newer procedure that stands for it.
pub record Trims (fs : List Facts) (places : List ℕ) (old new : Procedure) : Type 0 where
  pub method : new.method ≡ old.method
  pub params : new.params ≡ old.params
  pub result : new.result ≡ old.result
  pub widths : take old.params new.widths ≡ take old.params old.widths
  pub begins : begins_with old.params (slice_get fs 0) ≡ true
  pub begins_at : slice_get places 0 ≡ Some 0
  pub each : (at : ℕ) → at < length old.code
      → stands_at (both_of fs places old new) at (slice_get fs at) (slice_get old.code at) (slice_get places at) ≡ true

-- The newer procedure is the older one, trimmed, or as it was.
pub record IsTrimmedTo (old new : Procedure) : Type 0 where
  pub sound : IsSound old
  pub sound_too : IsSound new
  pub how : (new ≡ old) ⊎ ((fs : List Facts) × (places : List ℕ) × Trims fs places old new)

-- One for one.
abbrev pub AreAllTrimmed : List Procedure → List Procedure → Type 0
AreAllTrimmed = AllZip IsTrimmedTo
