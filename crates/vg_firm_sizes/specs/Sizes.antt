-- The size of packed code.
use Rattle.std.specs.Prelude.{ℕ}
use Rattle.vg_meaning.specs.Code.{Code}
use Rattle.vg_code_sizes.specs.Sizes.{size}
use Rattle.vg_firm.specs.declared.step.Step.{Step}
use Rattle.vg_firm.specs.declared.step.Step.TheVariants.{Number, This, Forget}

-- A constant, the receiver and a dropped value cost no instruction, and weigh nothing; each other step weighs one.
abbrev pub weight : Step → ℕ
weight (Number n) = 0
weight This = 0
weight Forget = 0
weight _ = 1

-- The size of packed code: its steps, choices, loops and jumps, but for steps that weigh nothing.
abbrev pub code_size : Code Step → ℕ
code_size c = size weight c
