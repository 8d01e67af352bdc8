-- What holds of instructions, step by step of packed code.
use Rattle.std.specs.Prelude.{ℕ, Option, List}
use Rattle.vg_meaning.specs.Code.{Code, Then, Do, If, Loop}
use Rattle.vg_firm.specs.declared.step.Step.{Step}
use Rattle.vg_firm.specs.declared.step.Step.TheVariants.{ReadDevice, WriteDevice, BindFor, CallFor, Idle}
use Rattle.vg_lin.specs.declared.instr.Operand.{Operand}
use Rattle.vg_lin.specs.declared.instr.Memory.{Memory}
use Rattle.vg_lin.specs.declared.instr.Address.{Address}
use Rattle.vg_lin.specs.declared.instr.Computation.{Computation}
use Rattle.vg_lin.specs.declared.instr.Callee.{Callee}
use Rattle.vg_lin.specs.declared.instr.Passed.{Passed}
use Rattle.vg_lin.specs.declared.instr.Target.{Target}
use Rattle.vg_lin.specs.declared.instr.Test.{Test}
use Rattle.vg_lin.specs.declared.instr.Plain.TheVariants.{Copy, Compute, Load, Store, Push, Pop, Find, CodeOf, Stop}
use Rattle.vg_lin.specs.declared.instr.Plain.TheVariants.{ReadDevice as ReadsDevice, WriteDevice as WritesDevice}
use Rattle.vg_lin.specs.declared.instr.Instr.{Instr}
use Rattle.vg_lin.specs.declared.instr.Instr.TheVariants.{Plain, When, Unless, Jump, Call, Return, Idle as Idles}
use Rattle.vg_flatten_steps.specs.Calls.{call_with}

-- It holds of all instructions that name no device and no dispatch and do not idle, but for those that only routines have; and of the calls that pass their
-- last four arguments beside those that wait.
pub record Carries (Has : Instr → Type 0) : Type 0 where
  pub copies : (to : ℕ) (a : Operand) → Has (Plain (Copy to a))
  pub computes : (c : Computation) → Has (Plain (Compute c))
  pub loads : (m : Memory) (w to : ℕ) (a : Address) → Has (Plain (Load m w to a))
  pub stores : (w : ℕ) (a : Address) (from : Operand) → Has (Plain (Store w a from))
  pub pushes : (w : ℕ) (a : Operand) → Has (Plain (Push w a))
  pub pops : (w to : ℕ) → Has (Plain (Pop w to))
  pub codes : (q to : ℕ) → Has (Plain (CodeOf q to))
  pub stops : (code : ℕ) → Has (Plain (Stop code))
  pub whens : (t : Test) (to : ℕ) → Has (When t to)
  pub unlesses : (t : Test) (to : ℕ) → Has (Unless t to)
  pub jumps : (to : ℕ) → Has (Jump to)
  pub calls : (callee : Callee) (to : Option Target) (xs : List Passed) → Has (Call (call_with callee to xs))
  pub returns : (w : ℕ) (a : Operand) → Has (Return w a)

-- It holds of those that use the device, or the dispatch, which a step names; and of that which idles, where the step does.
abbrev pub StepHas : (Instr → Type 0) → Step → Type 0
StepHas Has (ReadDevice address) = (to : ℕ) → Has (Plain (ReadsDevice to address))
StepHas Has (WriteDevice address) = (a : Operand) → Has (Plain (WritesDevice address a))
StepHas Has (BindFor d) = (to : ℕ) (a : Operand) → Has (Plain (Find d to a))
StepHas Has (CallFor d count) = (to : ℕ) (a : Operand) → Has (Plain (Find d to a))
StepHas Has Idle = Has Idles
StepHas Has p = Unit {0}

-- Something holds of each step of code.
abbrev pub EachStep : {P : Type 0} → (P → Type 0) → Code P → Type 0
EachStep Q (Then a b) = EachStep Q a × EachStep Q b
EachStep Q (Do p) = Q p
EachStep Q (If a b) = EachStep Q a × EachStep Q b
EachStep Q (Loop c body next) = EachStep Q c × EachStep Q body × EachStep Q next
EachStep Q _ = Unit {0}
