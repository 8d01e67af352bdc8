-- Rows of code as lists. (A mirror of the code's loops.)
use Rattle.std.specs.Prelude.{Bool, true, false, List, [], ◌∷◌, Option}
use Rattle.vg_meaning.specs.Code.{Code, Then, If}
use Rattle.vg_core.specs.declared.types.CoreType.{CoreType}
use Rattle.vg_core.specs.declared.operator.Prefix.{Prefix}
use Rattle.vg_core.specs.declared.step.Step.{Step}
use Rattle.vg_core.specs.declared.code.Code as held
use Rattle.vg_core.specs.HeldProgram.{code_of}

-- Codes one behind another, and then this.
abbrev pub codes_list : List held.Code → Code Step → Code Step
codes_list [] last = last
codes_list (c ∷ rest) last = Then (code_of c) (codes_list rest last)

-- An arm of an `if`, and what is done where its condition does not hold; of other code, what is done behind it.
abbrev pub arm_then : held.Code → Code Step → Code Step
arm_then (held.Arm' p c q b) rest = Then (code_of c) (If (code_of b) rest)
arm_then c rest = Then (code_of c) rest

abbrev pub arms_list : List held.Code → Code Step → Code Step
arms_list [] last = last
arms_list (c ∷ rest) last = arm_then c (arms_list rest last)

abbrev pub is_arm : held.Code → Bool
is_arm (held.Arm' p c q b) = true
is_arm _ = false

-- An operator that may wait to be done, with the type of its operand.
abbrev pub Waiting : Type 0
Waiting = Option (Prefix × CoreType)
