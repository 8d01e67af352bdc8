-- What stands for an instruction is a push where that is one: neither a look-up nor a call is.
use Rattle.std.specs.Prelude.{ℕ, false, List, Option, Some, None}
use Rattle.std.specs.Option.{option_map}
use Rattle.std.proofs.Common.{◌≡◌, refl}
use Rattle.vg_lin.specs.declared.instr.Plain.{Plain as PlainInstr}
use Rattle.vg_lin.specs.declared.instr.Plain.TheVariants.{Copy, Compute, Product, DivideSteps, Load, Store, ReadDevice, WriteDevice, Push, Pop, Find, CodeOf, Stop}
use Rattle.vg_lin.specs.declared.instr.Instr.{Instr}
use Rattle.vg_lin.specs.declared.instr.Instr.TheVariants.{Plain, When, Unless, Jump, Call, Return, Idle}
use Rattle.vg_expand.specs.Unpushed.{is_push}
use Rattle.vg_finding.specs.Finders.{finder_in, looked_up, instr_found}

plain_pushes : (numbers : List (Option ℕ)) (p : PlainInstr) → is_push (Some (instr_found numbers (Plain p))) ≡ is_push (Some (Plain p))
plain_pushes numbers (Copy to a) = refl
plain_pushes numbers (Compute c) = refl
plain_pushes numbers (Product to a b) = refl
plain_pushes numbers (DivideSteps r d a) = refl
plain_pushes numbers (Load m w to a) = refl
plain_pushes numbers (Store w a from) = refl
plain_pushes numbers (ReadDevice to address) = refl
plain_pushes numbers (WriteDevice address a) = refl
plain_pushes numbers (Push w a) = refl
plain_pushes numbers (Pop w to) = refl
plain_pushes numbers (Find d to a) = by_finder (finder_in numbers d)
  where
    by_finder : (k : Option ℕ) → is_push (Some (looked_up k d to a)) ≡ false
    by_finder (Some q) = refl
    by_finder None = refl
plain_pushes numbers (CodeOf q to) = refl
plain_pushes numbers (Stop code) = refl

pub found_pushes : (numbers : List (Option ℕ)) (i : Option Instr) → is_push (option_map (instr_found numbers) i) ≡ is_push i
found_pushes numbers None = refl
found_pushes numbers (Some (Plain p)) = plain_pushes numbers p
found_pushes numbers (Some (When t to)) = refl
found_pushes numbers (Some (Unless t to)) = refl
found_pushes numbers (Some (Jump to)) = refl
found_pushes numbers (Some (Call c)) = refl
found_pushes numbers (Some (Return w a)) = refl
found_pushes numbers (Some Idle) = refl
