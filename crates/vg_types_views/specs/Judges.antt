-- What a function of the checker answers.
use Rattle.std.specs.Prelude.{◌≡◌, Result, Ok, Err, Option, Some, None}
use Rattle.vg_base.specs.declared.refusal.Refusal.{Refusal}
use Rattle.vg_base.specs.declared.refusal.Refusal.TheVariants.{Fault, NoMemory}
use Rattle.vg_rules.specs.Breach.{Breach}
use Rattle.vg_types_views.specs.declared.broken.Broken.{Broken}

-- The first breach of a part: there is none, and what was wanted is there; or it is the one that is answered.
abbrev pub Judges : {A : Type 0} → (A → Type 0) → Result A (Refusal Broken) → Option Breach → Type 0
Judges P (Ok a) b = (b ≡ None) × P a
Judges P (Err (Fault f)) b = b ≡ Some (record { rule = f.rule; node = f.node.0 })
Judges P (Err NoMemory) b = Unit {0}
