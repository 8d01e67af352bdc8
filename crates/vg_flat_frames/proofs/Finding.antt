-- A call of a finder keeps what the look-up keeps for which it stands.
use Rattle.std.specs.Prelude.{ℕ, max, List, [], ◌∷◌, Option, Some, None}
use Rattle.std.proofs.Common.{◌≡◌, refl, ap, ◌∙◌}
use Rattle.vg_lin.specs.declared.instr.Operand.{Operand}
use Rattle.vg_lin.specs.declared.instr.Plain.{Plain as PlainInstr}
use Rattle.vg_lin.specs.declared.instr.Plain.TheVariants.{Copy, Compute, Product, DivideSteps, Load, Store, ReadDevice, WriteDevice}
use Rattle.vg_lin.specs.declared.instr.Plain.TheVariants.{Push, Pop, Find, CodeOf, Stop}
use Rattle.vg_lin.specs.declared.instr.Instr.{Instr}
use Rattle.vg_lin.specs.declared.instr.Instr.TheVariants.{Plain, When, Unless, Jump, Call, Return, Idle}
use Rattle.vg_lin.specs.Sound.{behind}
use Rattle.vg_finding.specs.Finders.{finder_in, looked_up, plain_found, instr_found, code_found}
use Rattle.vg_frame_costs.specs.Bytes.{kept_at, most_kept}

-- what is kept at an instruction, and at those behind it
abbrev kept_from : (waits : List ℕ) → Instr → List Instr → ℕ
kept_from ws i is = max (kept_at ws i) (most_kept (behind i ws) is)

module _ (numbers : List (Option ℕ)) where
  looked : (o : Option ℕ) (ws : List ℕ) (d to : ℕ) (a : Operand) (is : List Instr)
      → kept_from ws (looked_up o d to a) is ≡ kept_from ws (Plain (Find d to a)) is
  looked (Some q) ws d to a is = refl
  looked None ws d to a is = refl

  plain : (ws : List ℕ) (p : PlainInstr) (is : List Instr) → kept_from ws (plain_found numbers p) is ≡ kept_from ws (Plain p) is
  plain ws (Find d to a) is = looked (finder_in numbers d) ws d to a is
  plain ws (Copy to a) is = refl
  plain ws (Compute c) is = refl
  plain ws (Product to a b) is = refl
  plain ws (DivideSteps rest digit a) is = refl
  plain ws (Load m w to a) is = refl
  plain ws (Store w a from) is = refl
  plain ws (ReadDevice to address) is = refl
  plain ws (WriteDevice address a) is = refl
  plain ws (Push w a) is = refl
  plain ws (Pop w to) is = refl
  plain ws (CodeOf q to) is = refl
  plain ws (Stop code) is = refl

  instr : (ws : List ℕ) (i : Instr) (is : List Instr) → kept_from ws (instr_found numbers i) is ≡ kept_from ws i is
  instr ws (Plain p) is = plain ws p is
  instr ws (When t to) is = refl
  instr ws (Unless t to) is = refl
  instr ws (Jump to) is = refl
  instr ws (Call c) is = refl
  instr ws (Return w a) is = refl
  instr ws Idle is = refl

  pub found_kept : (ws : List ℕ) (is : List Instr) → most_kept ws (code_found numbers is) ≡ most_kept ws is
  found_kept ws [] = refl
  found_kept ws (i ∷ is) = instr ws i (code_found numbers is) ∙ ap (max (kept_at ws i)) (found_kept (behind i ws) is)
