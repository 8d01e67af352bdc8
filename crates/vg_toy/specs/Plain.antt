-- What the code's trees stand for, without places in memory.
use Rattle.std.specs.Prelude.{List, [], ◌∷◌}
use Rattle.vg_toy.specs.declared.program.Step.{Step}
use Rattle.vg_toy.specs.declared.program.Body as held
use Rattle.vg_toy.specs.declared.program.Program as held_program
use Rattle.vg_meaning.specs.Code.{Code, Nothing, Then, Do, If, Loop, Break, Continue, Return}
use Rattle.vg_toy.specs.Language.{Method}

-- A body as structured code.
abbrev pub code_of : held.Body → Code Step
code_of held.Nothing = Nothing
code_of (held.Then' p a q b) = Then (code_of a) (code_of b)
code_of (held.Do step) = Do step
code_of (held.If' p a q b) = If (code_of a) (code_of b)
code_of (held.Loop' p a q b r c) = Loop (code_of a) (code_of b) (code_of c)
code_of held.Break = Break
code_of held.Continue = Continue
code_of held.Return = Return

-- A program as a list of methods.
abbrev pub methods_of : held_program.Program → List Method
methods_of held_program.Empty = []
methods_of (held_program.More' name body p rest) = record { name = name; body = code_of body } ∷ methods_of rest
