-- Packed code of methods: it does not idle, and calls procedures that stand before the one with which a run begins.
use Rattle.std.specs.Prelude.{ℕ, ◌<◌}
use Rattle.vg_meaning.specs.Code.{Code}
use Rattle.vg_firm.specs.declared.step.Step.{Step}
use Rattle.vg_firm.specs.declared.step.Step.TheVariants.{Call, Idle}
use Rattle.vg_flat_each.specs.Each.{EachStep}

-- A step does not idle, and where it calls a procedure by its number, that one stands before the start.
abbrev pub IsStepBefore : (start : ℕ) → Step → Type 0
IsStepBefore start (Call q count) = q < start
IsStepBefore start Idle = ⊥
IsStepBefore start p = Unit {0}

-- So it is with each step of code.
abbrev pub CallsBefore : (start : ℕ) → Code Step → Type 0
CallsBefore start = EachStep (IsStepBefore start)
