-- Where the linear code of structured code stands.
use Rattle.std.specs.Prelude.{◌≡◌, ℕ, suc, Bool, true, false, List, Some, slice_get}
use Rattle.vg_meaning.specs.Code.{Code, Nothing, Then, Do, If, Loop, Break, Continue, Return as Returning}
use Rattle.vg_lin.specs.declared.instr.Operand.{Operand}
use Rattle.vg_lin.specs.declared.instr.Plain.{Plain as PlainInstr}
use Rattle.vg_lin.specs.declared.instr.Test.{Test as Testing}
use Rattle.vg_lin.specs.declared.instr.Call.{Call as Calling}
use Rattle.vg_lin.specs.declared.instr.Instr.{Instr}
use Rattle.vg_lin.specs.declared.instr.Instr.TheVariants.{Plain, When, Unless, Jump, Call, Return, Idle}
use Rattle.vg_lin.specs.Steps.{code_of}
use Rattle.vg_lin.specs.Turns.{leaves_loop}
use Rattle.vg_lin.specs.Structured.{Step, Here, Pick, Decide, Flip, Give, To, Rest}

-- Where code goes on behind its end: at one place; or, where it leaves a truth value, at one of two. A turn of a loop costs a
-- tick, which its test pays for: it makes at least one step that counts, on each way.
pub data Goal : Type 0 where
  Next : (to : ℕ) → Goal
  Either : (met unmet : ℕ) (paid : Bool) → Goal

-- A branch that pays for a turn leaves a loop.
abbrev pub Pays : List Instr → (at to : ℕ) → (paid : Bool) → Type 0
Pays code at to true = leaves_loop code at to ≡ true
Pays code at to false = Unit {0}

-- Structured code stands at a place among the instructions of a procedure, and goes on at the goal. Behind the two places of its loop
-- its `break` and its `continue` go on.
pub data Stands (code : List Instr) : (break' continue' : ℕ) → Code Step → (at : ℕ) → Goal → Type 0 where
  nothing : {x y at : ℕ} → Stands code x y Nothing at (Next at)
  sequence : {x y at mid : ℕ} {a b : Code Step} {goal : Goal} → Stands code x y a at (Next mid) → Stands code x y b mid goal
      → Stands code x y (Then a b) at goal
  plain : {x y at : ℕ} {p : PlainInstr} → slice_get code at ≡ Some (Plain p) → Stands code x y (Do (Here p)) at (Next (suc at))
  call : {x y at : ℕ} {c : Calling} → slice_get code at ≡ Some (Call c) → Stands code x y (Do (To c)) at (Next (suc at))
  idle : {x y at : ℕ} → slice_get code at ≡ Some Idle → Stands code x y (Do Rest) at (Next (suc at))
  -- a test and its branch are one instruction; it goes to either place, and the other one is behind it
  when : {x y at met : ℕ} {t : Testing} {paid : Bool} → slice_get code at ≡ Some (When t met) → Pays code at met paid
      → Stands code x y (Do (Pick t)) at (Either met (suc at) paid)
  unless : {x y at unmet : ℕ} {t : Testing} {paid : Bool} → slice_get code at ≡ Some (Unless t unmet) → Pays code at unmet paid
      → Stands code x y (Do (Pick t)) at (Either (suc at) unmet paid)
  -- a known truth value costs nothing, and to take the other one neither
  holds : {x y at unmet : ℕ} → Stands code x y (Do (Decide true)) at (Either at unmet false)
  fails : {x y at met : ℕ} → Stands code x y (Do (Decide false)) at (Either met at false)
  flip : {x y at met unmet : ℕ} {c : Code Step} {paid : Bool} → Stands code x y c at (Either unmet met paid)
      → Stands code x y (Then c (Do Flip)) at (Either met unmet paid)
  -- the truth value of the code before a choice becomes the way that is gone
  choice : {x y at u v : ℕ} {c a b : Code Step} {goal : Goal}
      → Stands code x y c at (Either u v false) → Stands code x y a u goal → Stands code x y b v goal → Stands code x y (Then c (If a b)) at goal
  loop : {x y at u v to : ℕ} {c body next : Code Step}
      → Stands code x y c at (Either u to true) → Stands code to v body u (Next v) → Stands code x y next v (Next at)
      → Stands code x y (Loop c body next) at (Next to)
  break' : {x y : ℕ} {goal : Goal} → Stands code x y Break x goal
  continue' : {x y : ℕ} {goal : Goal} → Stands code x y Continue y goal
  return : {x y at width : ℕ} {a : Operand} {goal : Goal} → slice_get code at ≡ Some (Return width a) → Stands code x y (Then (Do (Give width a)) Returning) at goal
  -- a jump before the code, or behind it
  before : {x y at mid : ℕ} {c : Code Step} {goal : Goal} → slice_get code at ≡ Some (Jump mid) → Stands code x y c mid goal → Stands code x y c at goal
  behind : {x y at mid to : ℕ} {c : Code Step} → Stands code x y c at (Next mid) → slice_get code mid ≡ Some (Jump to) → Stands code x y c at (Next to)

-- The bodies of all procedures stand, each from place 0 on.
abbrev pub AllStand : List (List Instr) → (ℕ → Code Step) → Type 0
AllStand procs bodies = (m : ℕ) → (end : ℕ) × Stands (code_of (slice_get procs m)) 0 0 (bodies m) 0 (Next end)

-- The procedure with which a run begins: a call, and then it idles for ever.
pub record StandsFirst (code : List Instr) (c : Calling) : Type 0 where
  pub first : slice_get code 0 ≡ Some (Call c)
  pub idle : slice_get code 1 ≡ Some Idle
  pub again : slice_get code 2 ≡ Some (Jump 1)
