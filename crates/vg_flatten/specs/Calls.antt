-- The calls that stand in code, in the order of the code.
use Rattle.std.specs.Prelude.{ℕ, List, [], ◌∷◌, ◌++◌}
use Rattle.vg_meaning.specs.Code.{Code, Then, Do, If, Loop}
use Rattle.vg_firm.specs.declared.step.Step.{Step}
use Rattle.vg_firm.specs.declared.step.Step.TheVariants.{Call, CallFor, CallValue}
use Rattle.vg_lin.specs.declared.instr.Callee.{Callee}
use Rattle.vg_lin.specs.declared.instr.Callee.TheVariants.{Procedure as ByNumber, Code as ByCode}
use Rattle.vg_lin.specs.declared.instr.Instr.{Instr}
use Rattle.vg_lin.specs.declared.instr.Instr.TheVariants.{Call as Calls}

-- A call: of the procedure with a number, or of one that is found in the run, by an object or a delegate.
pub data Called : Type 0 where
  Named : (q : ℕ) → Called
  Found : Called

abbrev pub called_by : Step → List Called
called_by (Call q count) = Named q ∷ []
called_by (CallFor d count) = Found ∷ []
called_by (CallValue count) = Found ∷ []
called_by p = []

-- In packed code.
abbrev pub calls_of : Code Step → List Called
calls_of (Then a b) = calls_of a ++ calls_of b
calls_of (Do p) = called_by p
calls_of (If a b) = calls_of a ++ calls_of b
calls_of (Loop c body next) = calls_of c ++ (calls_of body ++ calls_of next)
calls_of c = []

abbrev pub callee_of : Callee → Called
callee_of (ByNumber q) = Named q
callee_of (ByCode a) = Found

abbrev pub called_at : Instr → List Called
called_at (Calls c) = callee_of c.callee ∷ []
called_at i = []

-- In linear code.
abbrev pub calls_in : List Instr → List Called
calls_in [] = []
calls_in (i ∷ is) = called_at i ++ calls_in is
