-- Which code of packed procedures is typed: at each place it is known how many values wait.
use Rattle.std.specs.Prelude.{◌≡◌, ◌⊎◌, ℕ, suc, ◌+◌, ◌≤◌, Bool, true, false, length}
use Rattle.vg_meaning.specs.Code.{Code, Nothing, Then, Do, If, Loop, Break, Continue, Return}
use Rattle.vg_firm.specs.declared.step.Step.{Step}
use Rattle.vg_firm.specs.declared.step.Step.TheVariants.{SetLocal}
use Rattle.vg_firm.specs.Program.{Procedure}
use Rattle.vg_flatten_shapes.specs.declared.layout.Layout.{Layout}
use Rattle.vg_firm_typed.specs.Steps.{takes, leaves, Names}

-- What is known of a procedure: where columns and tables stand, how many locals its code may name, and how many values may wait.
pub record Known : Type 0 where
  pub layout : Layout
  pub locals : ℕ
  pub most : ℕ

-- A local is set where nothing else waits.
abbrev pub IsAlone : Step → (waiting : ℕ) → Type 0
IsAlone (SetLocal i) n = n ≡ 1
IsAlone p n = Unit {0}

-- Above so many values that it does not touch, a step leads from so many to so many. Room for two more is left where it is done.
pub record Leads (k : Known) (below : ℕ) (p : Step) (x y : ℕ) : Type 0 where
  pub rest : ℕ
  pub before : x ≡ takes p + rest
  pub behind : y ≡ leaves p + rest
  pub room : below + x + 2 ≤ k.most
  pub alone : IsAlone p (below + x)
  pub names : Names k.layout k.locals p

-- The same of code. Both ways of a choice leave one value above those that wait, or nothing waits before and behind them. Where a
-- loop begins, nothing waits, nor where code leaves it or the procedure; `looped` says that a loop stands around the code.
abbrev pub Typed : Known → (looped : Bool) → (below : ℕ) → Code Step → (x y : ℕ) → Type 0
Typed k looped below Nothing x y = x ≡ y
Typed k looped below (Then a b) x y = (z : ℕ) × Typed k looped below a x z × Typed k looped below b z y
Typed k looped below (Do p) x y = Leads k below p x y
Typed k looped below (If a b) x y =
    (z : ℕ) × (x ≡ suc z) × (below + x + 1 ≤ k.most)
    × (((below + z ≡ 0) × (y ≡ 0) × Typed k looped 0 a 0 0 × Typed k looped 0 b 0 0)
    ⊎ ((y ≡ suc z) × Typed k looped (below + z) a 0 1 × Typed k looped (below + z) b 0 1))
Typed k looped below (Loop c body next) x y =
    (below + x ≡ 0) × (y ≡ 0) × Typed k looped 0 c 0 1 × Typed k true 0 body 0 0 × Typed k looped 0 next 0 0
Typed k looped below Break x y = (looped ≡ true) × (below + x ≡ 0) × (y ≡ 0)
Typed k looped below Continue x y = (looped ≡ true) × (below + x ≡ 0) × (y ≡ 0)
Typed k looped below Return x y = (below ≡ 0) × (x ≡ 1) × (y ≡ 0)

-- A packed procedure is typed: it has at most 60 parameters and locals, at most 191 values wait at one time, and nothing waits where
-- its body begins and ends.
pub record IsTyped (lay : Layout) (m : Procedure) : Type 0 where
  pub few : length m.widths ≤ 60
  pub code : Typed (record { layout = lay; locals = length m.widths; most = 191 }) false 0 m.body 0 0
