-- What the walk over code goes by. (Mirrors of its functions.)
use Rattle.std.specs.Prelude.{ℕ, suc, ◌+◌, List, [], ◌∷◌, ◌++◌}
use Rattle.vg_core.specs.declared.step.Step.{Step}
use Rattle.vg_core.specs.declared.code.Code as held
use Rattle.vg_core.specs.HeldProgram.{code_of}
use Rattle.vg_live.specs.Uses.{uses}

-- The steps of a row of codes.
abbrev pub all_uses : List held.Code → List Step
all_uses [] = []
all_uses (c ∷ cs) = uses (code_of c) ++ all_uses cs

-- How much is in code: what each recursion along it goes down by.
abbrev mutual
  pub depth_of : held.Code → ℕ
  depth_of (held.Row' shape all) = suc (row_depth all)
  depth_of (held.Chain' shape all) = suc (row_depth all)
  depth_of (held.Do s) = 1
  depth_of (held.If' p a q b) = suc (depth_of a + depth_of b)
  depth_of (held.Arms' shape all p last) = suc (row_depth all + depth_of last)
  depth_of (held.Arm' p c q b) = suc (depth_of c + depth_of b)
  depth_of (held.Loop' p a q b r c) = suc (depth_of a + depth_of b + depth_of c)
  depth_of held.Break = 1
  depth_of held.Continue = 1
  depth_of held.Return = 1

  pub row_depth : {m : _} → held.Row_of-Code m → ℕ
  row_depth held.end_of-Code = 1
  row_depth (held.more_of-Code c rest) = suc (depth_of c + row_depth rest)

-- The same of a list.
abbrev pub all_depth : List held.Code → ℕ
all_depth [] = 1
all_depth (c ∷ cs) = suc (depth_of c + all_depth cs)
