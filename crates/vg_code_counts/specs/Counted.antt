-- Code that takes and leaves its values in order: at each place it is known how many wait, and what is done touches none that waited
-- before it.
use Rattle.std.specs.Prelude.{◌≡◌, ◌⊎◌, ℕ, suc, ◌+◌, ◌≤◌, Bool, true}
use Rattle.vg_meaning.specs.Code.{Code, Nothing, Then, Do, If, Loop, Break, Continue, Return}

-- How many of the newest values a step takes, how many wait in their place, and whether it sets a local.
pub record Measures (P : Type 0) : Type 0 where
  pub takes : P → ℕ
  pub leaves : P → ℕ
  pub sets : P → Bool

-- Above so many values that it does not touch, a step leads from so many to so many. Room for two more is left where it is done, and a
-- local is set where nothing else waits.
pub record Counts {P : Type 0} (k : Measures P) (most below : ℕ) (p : P) (x y : ℕ) : Type 0 where
  pub rest : ℕ
  pub before : x ≡ k.takes p + rest
  pub behind : y ≡ k.leaves p + rest
  pub room : below + x + 2 ≤ most
  pub alone : k.sets p ≡ true → below + x ≡ 1

-- The same of code. Both ways of a choice leave one value above those that wait, or nothing waits before and behind them. Where a
-- loop begins, nothing waits, nor where code leaves it or the body; `looped` says that a loop stands around the code.
abbrev pub Counted : {P : Type 0} → Measures P → (most : ℕ) → (looped : Bool) → (below : ℕ) → Code P → (x y : ℕ) → Type 0
Counted k most looped below Nothing x y = x ≡ y
Counted k most looped below (Then a b) x y = (z : ℕ) × Counted k most looped below a x z × Counted k most looped below b z y
Counted k most looped below (Do p) x y = Counts k most below p x y
Counted k most looped below (If a b) x y =
    (z : ℕ) × (x ≡ suc z) × (below + x + 1 ≤ most)
    × (((below + z ≡ 0) × (y ≡ 0) × Counted k most looped 0 a 0 0 × Counted k most looped 0 b 0 0)
    ⊎ ((y ≡ suc z) × Counted k most looped (below + z) a 0 1 × Counted k most looped (below + z) b 0 1))
Counted k most looped below (Loop c body next) x y =
    (below + x ≡ 0) × (y ≡ 0) × Counted k most looped 0 c 0 1 × Counted k most true 0 body 0 0 × Counted k most looped 0 next 0 0
Counted k most looped below Break x y = (looped ≡ true) × (below + x ≡ 0) × (y ≡ 0)
Counted k most looped below Continue x y = (looped ≡ true) × (below + x ≡ 0) × (y ≡ 0)
Counted k most looped below Return x y = (below ≡ 0) × (x ≡ 1) × (y ≡ 0)

-- A step and its other name take and leave as many values, and where the step sets a local the other does.
pub record AreAlike {P Q : Type 0} (k : Measures P) (j : Measures Q) (f : P → Q) : Type 0 where
  pub takes : (p : P) → j.takes (f p) ≡ k.takes p
  pub leaves : (p : P) → j.leaves (f p) ≡ k.leaves p
  pub sets : (p : P) → k.sets p ≡ true → j.sets (f p) ≡ true
