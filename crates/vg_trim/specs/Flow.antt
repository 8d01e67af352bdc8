-- Where instructions lead, and what they change of what waits.
use Rattle.std.specs.Prelude.{◌≡◌, ◌≢◌, ◌⊎◌, ℕ, suc, ◌<◌, ◌==◌, Bool, true, false, List, length, Option, Some, None, slice_get}
use Rattle.vg_lin.specs.declared.instr.Plain.{Plain as PlainInstr}
use Rattle.vg_lin.specs.declared.instr.Plain.TheVariants.{Push, Pop, Stop}
use Rattle.vg_lin.specs.declared.instr.Instr.{Instr}
use Rattle.vg_lin.specs.declared.instr.Instr.TheVariants.{Plain, When, Unless, Jump, Call, Return}
use Rattle.vg_trim.specs.declared.flow.Effect.{Effect}
use Rattle.vg_trim.specs.declared.flow.Effect.TheVariants.{Nothing, Pushes, Pops, Takes}

abbrev pub effect_of_plain : PlainInstr → Effect
effect_of_plain (Push w a) = Pushes w
effect_of_plain (Pop w to) = Pops w
effect_of_plain p = Nothing

abbrev pub effect_of : Instr → Effect
effect_of (Plain p) = effect_of_plain p
effect_of (Call c) = Takes c.pushed
effect_of i = Nothing

-- The place to which an instruction may lead beside the next one.
abbrev pub led_to : Instr → Option ℕ
led_to (When t to) = Some to
led_to (Unless t to) = Some to
led_to (Jump to) = Some to
led_to i = None

abbrev pub is_return : Instr → Bool
is_return (Return w a) = true
is_return i = false

abbrev pub goes_next : Instr → Bool
goes_next (Plain (Stop c)) = false
goes_next (Jump to) = false
goes_next (Return w a) = false
goes_next i = true

-- The newer one leads to no other place, or to that of the older one.
abbrev pub LeadsAlong : (old new : Option ℕ) → Type 0
LeadsAlong old None = Unit {0}
LeadsAlong old (Some to) = old ≡ Some to

abbrev pub ReturnsThere : Option Instr → Type 0
ReturnsThere (Some j) = is_return j ≡ true
ReturnsThere None = ⊥

-- The older one returns, and the newer one jumps to a later one that returns.
abbrev pub ReturnsLater : (newer : List Instr) → (at : ℕ) → (old new : Instr) → Type 0
ReturnsLater js at i (Jump to) = (is_return i ≡ true) × (at < to) × ReturnsThere (slice_get js to)
ReturnsLater js at i j = ⊥

-- The newer instruction leads only where the older one leads, or to a next one that there is, or to a return as the older one is, and both do the same with
-- what waits.
pub record FlowsAs (newer : List Instr) (at : ℕ) (i j : Instr) : Type 0 where
  pub effect : effect_of i ≡ effect_of j
  pub along : LeadsAlong (led_to i) (led_to j) ⊎ ReturnsLater newer at i j
  pub returns : is_return j ≡ true → is_return i ≡ true
  pub next : goes_next j ≡ true → suc at < length newer

-- ---- code in which nothing waits

abbrev pub is_idle : Effect → Bool
is_idle Nothing = true
is_idle (Takes n) = n == 0
is_idle f = false

-- Another place of code with so many instructions.
abbrev pub IsOther : (count at : ℕ) → Option ℕ → Type 0
IsOther count at None = Unit {0}
IsOther count at (Some to) = (to ≢ at) × (to < count)

-- The instruction at a place changes nothing of what waits, and leads only to other places, or to a next one that there is.
pub record FlowsFreely (count at : ℕ) (j : Instr) : Type 0 where
  pub waits : is_idle (effect_of j) ≡ true
  pub leads : IsOther count at (led_to j)
  pub next : goes_next j ≡ true → suc at < count
