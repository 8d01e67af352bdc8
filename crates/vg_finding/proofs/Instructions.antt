-- What holds of each instruction of code holds of each with calls of finders in place of look-ups, where it holds of these calls.
use Rattle.std.specs.Prelude.{◌≡◌, ℕ, List, [], ◌∷◌, Option, Some, None}
use Rattle.std.specs.List.{AllByRecursion}
use Rattle.std.proofs.Common.{refl}
use Rattle.vg_lin.specs.declared.instr.Operand.{Operand}
use Rattle.vg_lin.specs.declared.instr.Plain.{Plain as PlainInstr}
use Rattle.vg_lin.specs.declared.instr.Plain.TheVariants.{Copy, Compute, Product, DivideSteps, Load, Store, ReadDevice, WriteDevice}
use Rattle.vg_lin.specs.declared.instr.Plain.TheVariants.{Push, Pop, Find, CodeOf, Stop}
use Rattle.vg_lin.specs.declared.instr.Instr.{Instr}
use Rattle.vg_lin.specs.declared.instr.Instr.TheVariants.{Plain, When, Unless, Jump, Call, Return, Idle}
use Rattle.vg_finding.specs.Finders.{call_of, finder_in, looked_up, plain_found, instr_found, code_found}

-- It holds of the call of a finder that stands for a look-up, wherever it holds of the look-up.
abbrev pub HoldsOfCalls : (Instr → Type 0) → (numbers : List (Option ℕ)) → Type 0
HoldsOfCalls Has numbers = (d q to : ℕ) (a : Operand) → finder_in numbers d ≡ Some q → Has (Plain (Find d to a)) → Has (call_of q to a)

module _ (Has : Instr → Type 0) (numbers : List (Option ℕ)) (calls : HoldsOfCalls Has numbers) where
  looked : (o : Option ℕ) (d to : ℕ) (a : Operand) → finder_in numbers d ≡ o → Has (Plain (Find d to a)) → Has (looked_up o d to a)
  looked (Some q) d to a e h = calls d q to a e h
  looked None d to a e h = h

  plain : (p : PlainInstr) → Has (Plain p) → Has (plain_found numbers p)
  plain (Find d to a) h = looked (finder_in numbers d) d to a refl h
  plain (Copy to a) h = h
  plain (Compute c) h = h
  plain (Product to a b) h = h
  plain (DivideSteps rest digit a) h = h
  plain (Load m w to a) h = h
  plain (Store w a from) h = h
  plain (ReadDevice to address) h = h
  plain (WriteDevice address a) h = h
  plain (Push w a) h = h
  plain (Pop w to) h = h
  plain (CodeOf q to) h = h
  plain (Stop code) h = h

  pub instr_has : (i : Instr) → Has i → Has (instr_found numbers i)
  instr_has (Plain p) h = plain p h
  instr_has (When t to) h = h
  instr_has (Unless t to) h = h
  instr_has (Jump to) h = h
  instr_has (Call c) h = h
  instr_has (Return w a) h = h
  instr_has Idle h = h

  pub each_found : (is : List Instr) → AllByRecursion Has is → AllByRecursion Has (code_found numbers is)
  each_found [] h = tt
  each_found (i ∷ is) (h, hs) = (instr_has i h, each_found is hs)
