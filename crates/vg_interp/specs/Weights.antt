-- How many boxes and rows code has: what each recursion along it goes down by.
use Rattle.std.specs.Prelude.{ℕ, suc, ◌+◌, ◌*◌, List, [], ◌∷◌, Option, Some, None}
use Rattle.vg_meaning.specs.Code.{Code, Then, If}
use Rattle.vg_core.specs.declared.step.Step.{Step}
use Rattle.vg_core.specs.declared.code.Code as held
use Rattle.vg_core.specs.declared.program.Body.{Body}
use Rattle.vg_core.specs.declared.program.Program.{Program}
use Rattle.vg_core.specs.HeldProgram.{code_of}

abbrev mutual
  pub weight : held.Code → ℕ
  weight (held.Row' shape all) = suc (row_weight all)
  weight (held.Chain' shape all) = suc (row_weight all)
  weight (held.Do s) = 1
  weight (held.If' p a q b) = suc (weight a + weight b)
  weight (held.Arms' shape all p last) = suc (row_weight all + weight last)
  weight (held.Arm' p c q b) = suc (weight c + weight b)
  weight (held.Loop' p a q b r c) = suc (weight a + weight b + weight c)
  weight held.Break = 1
  weight held.Continue = 1
  weight held.Return = 1

  pub row_weight : {m : _} → held.Row_of-Code m → ℕ
  row_weight held.end_of-Code = 1
  row_weight (held.more_of-Code c rest) = suc (weight c + row_weight rest)

-- The same of a list.
abbrev pub weights : List held.Code → ℕ
weights [] = 1
weights (c ∷ cs) = suc (weight c + weights cs)

-- The bodies together.
abbrev pub bodies_weight : List Body → ℕ
bodies_weight [] = 0
bodies_weight (b ∷ bs) = weight b.code + bodies_weight bs

-- More than each body of a program.
abbrev pub whole : Program → ℕ
whole p = 8 * (bodies_weight p.methods + bodies_weight p.makings + bodies_weight p.starts) + 8

-- The condition and the block of an arm.
abbrev pub parts_of : held.Code → Option (held.Code × held.Code)
parts_of (held.Arm' p c q b) = Some (c, b)
parts_of c = None

-- An arm, and what is done where its condition does not hold.
abbrev pub arm_then : held.Code → Code Step → Code Step
arm_then (held.Arm' p c q b) rest = Then (code_of c) (If (code_of b) rest)
arm_then c rest = Then (code_of c) rest

-- The arms of an `if` as a list.
abbrev pub arms_list : List held.Code → Code Step → Code Step
arms_list [] last = last
arms_list (c ∷ rest) last = arm_then c (arms_list rest last)
