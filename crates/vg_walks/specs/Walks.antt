-- What it means that the active calls of a packed program lie along the calls that its procedures name.
use Rattle.std.specs.Prelude.{ℕ, ◌≡◌, ◌⊎◌, true, List, [], ◌∷◌, Some, slice_get}
use Rattle.std.specs.List.{AllByRecursion}
use Rattle.vg_meaning.specs.History.{Active, Calling}
use Rattle.vg_meaning.specs.Shapes.{Shapes, Fits}
use Rattle.vg_firm.specs.declared.step.Step.{Step}
use Rattle.vg_firm.specs.declared.step.Step.TheVariants.{Idle}
use Rattle.vg_firm.specs.Program.{Procedure, Program}
use Rattle.vg_firm.specs.Session.{is_among}

-- ---- walks

-- the call is of the procedure with this number
pub record IsCallOf (f : Program) (q : ℕ) (a : Active) : Type 0 where
  pub procedure : Procedure
  pub at : slice_get f.procedures q ≡ Some procedure
  pub is : a ≡ Calling procedure.method

-- main, or the handler of an interrupt
abbrev pub IsEntry : Program → ℕ → Type 0
IsEntry f q = (q ≡ f.main) ⊎ ((vector : ℕ) × (f.handler vector ≡ Some q))

-- procedure p names q among those that it may call
pub record Names (f : Program) (p q : ℕ) : Type 0 where
  pub procedure : Procedure
  pub at : slice_get f.procedures p ≡ Some procedure
  pub names : is_among procedure.calls q ≡ true

-- a call of procedure q lies on these calls, the newest first: its caller names it, and lies on the others; the oldest is of an entry
abbrev pub LiesOn : Program → ℕ → List Active → Type 0
LiesOn f q [] = IsEntry f q
LiesOn f q (a ∷ below) = (p : ℕ) × IsCallOf f p a × Names f p q × LiesOn f p below

-- active calls, the newest first, each of which lies on those below it
abbrev pub IsWalk : Program → List Active → Type 0
IsWalk f [] = Unit {0}
IsWalk f (a ∷ below) = (q : ℕ) × IsCallOf f q a × LiesOn f q below

abbrev pub AreWalks : Program → List (List Active) → Type 0
AreWalks f = AllByRecursion (IsWalk f)

-- ---- code that does not idle

abbrev pub IsAwake : Step → Type 0
IsAwake Idle = ⊥
IsAwake p = Unit {0}

abbrev pub awake : Shapes Step (Unit {0})
awake = record { Takes = λ p x y. IsAwake p; Truth = λ x y. Unit {0}; Result = λ x. Unit {0}; between = tt {0} }

-- no procedure idles: interrupts are taken behind main alone
abbrev pub AreAwake : Program → Type 0
AreAwake f = (q : ℕ) (m : Procedure) → slice_get f.procedures q ≡ Some m → Fits awake true m.body (tt {0}) (tt {0})
