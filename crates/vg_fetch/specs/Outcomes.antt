-- Mirrors: predicates by cases that follow the code's own functions. No clause of an exported function cites one.
use Rattle.std.specs.Prelude.{ℕ, ◌≡◌, ◌<◌, ◌≤◌, List, Option, Some, None}
use Rattle.vg_io.specs.Fetch.{asked_after}
use Rattle.vg_io.specs.declared.asked.Asked.{Asked}
use Rattle.vg_fetch.specs.declared.fetch.NoFile.{NoFile}
use Rattle.vg_fetch.specs.declared.fetch.NoFile.TheVariants.{Failed, Wanting, Long}

-- what a fetch of one file leaves in the shelf's notes
abbrev pub OutcomeOf : Option NoFile → (old new : List Asked) → (name : List ℕ) → (limit : ℕ) → Type 0
OutcomeOf None old new name limit = (n : ℕ) × (n ≤ limit) × (new ≡ asked_after old name limit (Some n))
OutcomeOf (Some Failed) old new name limit = new ≡ asked_after old name limit None
OutcomeOf (Some Wanting) old new name limit = new ≡ old
OutcomeOf (Some Long) old new name limit = (n : ℕ) × (limit < n) × (new ≡ asked_after old name limit (Some n))
