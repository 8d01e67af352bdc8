-- What is fit before arithmetic is expanded, and what the steps of packed code name for that.
use Rattle.std.specs.Prelude.{slice_get}
use Rattle.vg_meaning.specs.Code.{Code}
use Rattle.vg_meaning.specs.Device.{IsDeviceAddress}
use Rattle.vg_codes.specs.Dispatch.{cases_of}
use Rattle.vg_firm.specs.declared.step.Step.{Step}
use Rattle.vg_firm.specs.declared.step.Step.TheVariants.{ReadDevice, WriteDevice, BindFor, CallFor}
use Rattle.vg_lin.specs.declared.instr.Plain.{Plain as PlainInstr}
use Rattle.vg_lin.specs.declared.instr.Plain.TheVariants.{Compute}
use Rattle.vg_lin.specs.declared.instr.Instr.{Instr}
use Rattle.vg_lin.specs.declared.instr.Instr.TheVariants.{Plain}
use Rattle.vg_lin.specs.Program.{Program}
use Rattle.vg_apt.specs.Apt.{IsApt}
use Rattle.vg_flat_each.specs.Each.{EachStep, StepHas}
use Rattle.vg_followed.specs.Tables.{AreCases}
use Rattle.vg_covered.specs.Fitting.{IsPlainFit, IsFit}

-- An instruction is fit, but for a computation, which may be one that a routine does.
abbrev pub IsPlainMade : Program → PlainInstr → Type 0
IsPlainMade p (Compute c) = Unit {0}
IsPlainMade p q = IsPlainFit p q

abbrev pub IsMade : Program → Instr → Type 0
IsMade p (Plain q) = IsPlainMade p q
IsMade p i = IsFit p i

-- A step reads and writes device registers, and the numbers of the dispatch that it names have two bytes.
abbrev pub IsStepFit : Program → Step → Type 0
IsStepFit p (ReadDevice address) = IsDeviceAddress address
IsStepFit p (WriteDevice address) = IsDeviceAddress address
IsStepFit p (BindFor d) = AreCases p.codes.code (cases_of (slice_get p.dispatches d))
IsStepFit p (CallFor d count) = AreCases p.codes.code (cases_of (slice_get p.dispatches d))
IsStepFit p s = Unit {0}

-- What a step becomes asks for no more than flattened code does, whatever the dispatches are: it reads and writes device registers alone.
abbrev pub StepApt : Step → Type 0
StepApt = StepHas IsApt

abbrev pub CodeApt : Code Step → Type 0
CodeApt = EachStep StepApt
