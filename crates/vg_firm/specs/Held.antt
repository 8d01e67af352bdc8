-- What a procedure in memory stands for, without its boxes.
use Rattle.std.specs.Prelude.{List, [], ◌∷◌}
use Rattle.vg_meaning.specs.Code.{Code, Nothing, Then, Do, If, Loop, Break, Continue, Return}
use Rattle.vg_firm.specs.declared.step.Step.{Step}
use Rattle.vg_firm.specs.declared.code.Code as held
use Rattle.vg_firm.specs.declared.procedure.Procedure.{Procedure as HeldProcedure}
use Rattle.vg_firm.specs.Program.{Procedure}

-- A row is one code behind another; the arms of an `if` are its conditions, each with its block, and the last block where none holds.
abbrev mutual
  pub code_of : held.Code → Code Step
  code_of (held.Row' shape all) = row_of all
  code_of (held.Do s) = Do s
  code_of (held.If' p a q b) = If (code_of a) (code_of b)
  code_of (held.Arms' shape all p last) = arms_of all (code_of last)
  code_of (held.Arm' p c q b) = Then (code_of c) (If (code_of b) Nothing)
  code_of (held.Loop' p a q b r c) = Loop (code_of a) (code_of b) (code_of c)
  code_of held.Break = Break
  code_of held.Continue = Continue
  code_of held.Return = Return

  pub row_of : {m : _} → held.Row_of-Code m → Code Step
  row_of held.end_of-Code = Nothing
  row_of (held.more_of-Code c rest) = Then (code_of c) (row_of rest)

  pub arms_of : {m : _} → held.Row_of-Code m → Code Step → Code Step
  arms_of held.end_of-Code last = last
  arms_of (held.more_of-Code (held.Arm' p c q b) rest) last = Then (code_of c) (If (code_of b) (arms_of rest last))
  arms_of (held.more_of-Code c rest) last = Then (code_of c) (arms_of rest last)

-- The same of a list of codes.
abbrev pub list_of : List held.Code → Code Step
list_of [] = Nothing
list_of (c ∷ cs) = Then (code_of c) (list_of cs)

-- A procedure.
abbrev pub procedure_of : HeldProcedure → Procedure
procedure_of m =
    record {
      method = m.method;
      params = m.params;
      receives = m.receives;
      on_objects = m.on_objects;
      widths = m.widths;
      result = m.result;
      calls = m.calls;
      body = code_of m.body;
    }
