-- What the program in memory stands for, without its boxes.
use Rattle.std.specs.Prelude.{map, List, [], ◌∷◌}
use Rattle.vg_meaning.specs.Code.{Code, Nothing, Then, Do, If, Loop, Break, Continue, Return}
use Rattle.vg_core.specs.declared.step.Step.{Step}
use Rattle.vg_core.specs.declared.code.Code as held
use Rattle.vg_core.specs.declared.program.Body.{Body as HeldBody}
use Rattle.vg_core.specs.declared.program.Program.{Program as HeldProgram}
use Rattle.vg_core.specs.Program.{Body, Program}

-- Code, and then what stands for a row, where there is more in the row.
abbrev pub before : {m : _} → held.Row_of-Code m → Code Step → Code Step → Code Step
before held.end_of-Code a b = a
before (held.more_of-Code c rest) a b = Then a b

-- A row is one code behind another, and then nothing; a chain ends with its last code; the arms of an `if` are its conditions, each with its block, and the last block where none holds.
abbrev mutual
  pub code_of : held.Code → Code Step
  code_of (held.Row' shape all) = row_of all
  code_of (held.Chain' shape all) = chain_of all
  code_of (held.Do s) = Do s
  code_of (held.If' p a q b) = If (code_of a) (code_of b)
  code_of (held.Arms' shape all p last) = arms_of all (code_of last)
  code_of (held.Arm' p c q b) = Then (code_of c) (If (code_of b) Nothing)
  code_of (held.Loop' p a q b r c) = Loop (code_of a) (code_of b) (code_of c)
  code_of held.Break = Break
  code_of held.Continue = Continue
  code_of held.Return = Return

  pub row_of : {m : _} → held.Row_of-Code m → Code Step
  row_of held.end_of-Code = Nothing
  row_of (held.more_of-Code c rest) = Then (code_of c) (row_of rest)

  pub chain_of : {m : _} → held.Row_of-Code m → Code Step
  chain_of held.end_of-Code = Nothing
  chain_of (held.more_of-Code c rest) = before rest (code_of c) (chain_of rest)

  pub arms_of : {m : _} → held.Row_of-Code m → Code Step → Code Step
  arms_of held.end_of-Code last = last
  arms_of (held.more_of-Code (held.Arm' p c q b) rest) last = Then (code_of c) (If (code_of b) (arms_of rest last))
  arms_of (held.more_of-Code c rest) last = Then (code_of c) (arms_of rest last)

-- A row in order.
abbrev pub code_row : List held.Code → Code Step
code_row [] = Nothing
code_row (c ∷ cs) = Then (code_of c) (code_row cs)

-- Code, and then a chain, where there is one.
abbrev pub and_chain : List held.Code → Code Step → Code Step → Code Step
and_chain [] a b = a
and_chain (c ∷ cs) a b = Then a b

-- A chain in order.
abbrev pub code_chain : List held.Code → Code Step
code_chain [] = Nothing
code_chain (c ∷ cs) = and_chain cs (code_of c) (code_chain cs)

-- A body.
abbrev pub body_at : HeldBody → Body
body_at b = record { others = b.others; code = code_of b.code }

-- A whole program.
abbrev pub program_at : HeldProgram → Program
program_at p = record {
  tables = p.tables;
  methods = map body_at p.methods;
  makings = map body_at p.makings;
  starts = map body_at p.starts;
  main = p.main;
  handlers = p.handlers;
}
