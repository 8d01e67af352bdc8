-- Rows of code as lists. (Mirrors of the code's loops.)
use Rattle.std.specs.Prelude.{Bool, true, false, List, [], ◌∷◌}
use Rattle.vg_meaning.specs.Code.{Code, Then, If}
use Rattle.vg_core.specs.declared.step.Step.{Step}
use Rattle.vg_core.specs.declared.code.Code as held
use Rattle.vg_core.specs.HeldProgram.{code_of}
use Rattle.vg_firm.specs.declared.step.Step.{Step as FirmStep}
use Rattle.vg_firm.specs.declared.code.Code as firm
use Rattle.vg_firm.specs.Held as firm_held

-- An arm of the typed program, and what is done where its condition does not hold.
abbrev pub arm_then : held.Code → Code Step → Code Step
arm_then (held.Arm' p c q b) rest = Then (code_of c) (If (code_of b) rest)
arm_then c rest = Then (code_of c) rest

abbrev pub arms_list : List held.Code → Code Step → Code Step
arms_list [] last = last
arms_list (c ∷ rest) last = arm_then c (arms_list rest last)

-- The same of the packed program.
abbrev pub packed_arm : firm.Code → Code FirmStep → Code FirmStep
packed_arm (firm.Arm' p c q b) rest = Then (firm_held.code_of c) (If (firm_held.code_of b) rest)
packed_arm c rest = Then (firm_held.code_of c) rest

abbrev pub packed_arms : List firm.Code → Code FirmStep → Code FirmStep
packed_arms [] last = last
packed_arms (c ∷ rest) last = packed_arm c (packed_arms rest last)

-- Codes one behind another, and then this.
abbrev pub packed_row : List firm.Code → Code FirmStep → Code FirmStep
packed_row [] last = last
packed_row (c ∷ rest) last = Then (firm_held.code_of c) (packed_row rest last)

abbrev pub is_arm : firm.Code → Bool
is_arm (firm.Arm' p c q b) = true
is_arm _ = false
