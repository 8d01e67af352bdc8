-- How many boxes and rows code has: what each recursion along it goes down by.
use Rattle.std.specs.Prelude.{ℕ, suc, ◌+◌, List, [], ◌∷◌}
use Rattle.vg_meaning.specs.Code.{Code, Then, If}
use Rattle.vg_firm.specs.declared.step.Step.{Step}
use Rattle.vg_firm.specs.declared.code.Code as held
use Rattle.vg_firm.specs.Held.{code_of}

abbrev mutual
  pub weight : held.Code → ℕ
  weight (held.Row' shape all) = suc (row_weight all)
  weight (held.Do s) = 1
  weight (held.If' p a q b) = suc (weight a + weight b)
  weight (held.Arms' shape all p last) = suc (row_weight all + weight last)
  weight (held.Arm' p c q b) = suc (weight c + weight b)
  weight (held.Loop' p a q b r c) = suc (weight a + weight b + weight c)
  weight held.Break = 1
  weight held.Continue = 1
  weight held.Return = 1

  pub row_weight : {m : _} → held.Row_of-Code m → ℕ
  row_weight held.end_of-Code = 1
  row_weight (held.more_of-Code c rest) = suc (weight c + row_weight rest)

-- The same of a list.
abbrev pub weights : List held.Code → ℕ
weights [] = 1
weights (c ∷ cs) = suc (weight c + weights cs)

-- An arm, and what is done where its condition does not hold.
abbrev pub arm_then : held.Code → Code Step → Code Step
arm_then (held.Arm' p c q b) rest = Then (code_of c) (If (code_of b) rest)
arm_then c rest = Then (code_of c) rest

-- The arms of an `if` as a list.
abbrev pub arms_list : List held.Code → Code Step → Code Step
arms_list [] last = last
arms_list (c ∷ rest) last = arm_then c (arms_list rest last)
