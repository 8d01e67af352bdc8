-- Instructions of narrow code.
use Rattle.std.specs.Prelude.{ℕ, zero, suc, ◌≤◌, Bool, true, ◌&&◌, nat_le, List, [], ◌∷◌, Option, Some, None, IfSome, slice_get}
use Rattle.std.proofs.Common.{◌≡◌, refl, sym, ap, ◌∙◌, arith}
use Rattle.vg_lin.specs.declared.instr.Instr.{Instr}
use Rattle.vg_lin.specs.declared.instr.Instr.TheVariants.{Plain, When, Unless}
use Rattle.vg_lin.specs.declared.instr.Plain.{Plain as PlainInstr}
use Rattle.vg_lin.specs.declared.instr.Plain.TheVariants.{Compute, Load, Store}
use Rattle.vg_lin.specs.Program.{Procedure}
use Rattle.vg_lin.specs.Sound.{IsPlain, AreOperands, IsSound}
use Rattle.vg_lin_states.specs.Narrow.{is_narrow_plain, is_narrow, are_narrow}

both_true : (a b : Bool) → (a && b) ≡ true → (a ≡ true) × (b ≡ true)
both_true a b h = grind arith

pub narrow_at : (code : List Instr) (place : ℕ) (i : Instr) → are_narrow code ≡ true → slice_get code place ≡ Some i → is_narrow i ≡ true
narrow_at [] place i h e = cc
narrow_at (j ∷ js) zero i h e = let both = both_true (is_narrow j) (are_narrow js) h in grind (arith, both, e)
narrow_at (j ∷ js) (suc place) i h e = narrow_at js place i (both_true (is_narrow j) (are_narrow js) h).1 e

pub narrow_found : (code : List Instr) (place : ℕ) (r : Option Instr) → are_narrow code ≡ true → r ≡ slice_get code place
    → IfSome r (λ i. is_narrow i ≡ true)
narrow_found code place (Some i) h e = narrow_at code place i h (sym e)
narrow_found code place None h e = tt

few : (w : ℕ) → w ≤ 4 → nat_le w 4 ≡ true
few w h = grind (arith, h)

narrow_plain : (p : Procedure) (i : PlainInstr) → IsPlain p i → is_narrow_plain i ≡ true
narrow_plain p (Compute c) h = few c.width h.0.1
narrow_plain p (Load m w to a) h = few w h.0.1
narrow_plain p (Store w a from) h = few w h.0.1
narrow_plain p _ h = refl

narrow_one : (p : Procedure) (i : Instr) → AreOperands p i → is_narrow i ≡ true
narrow_one p (Plain i) h = narrow_plain p i h
narrow_one p (When t to) h = few t.width h.0.1
narrow_one p (Unless t to) h = few t.width h.0.1
narrow_one p _ h = refl

narrow_all : (p : Procedure) (code : List Instr) → ((at : ℕ) (i : Instr) → slice_get code at ≡ Some i → AreOperands p i) → are_narrow code ≡ true
narrow_all p [] h = refl
narrow_all p (i ∷ is) h =
    ap (λ b. b && are_narrow is) (narrow_one p i (h 0 i refl)) ∙ narrow_all p is (λ at j e. h (suc at) j e)

pub sound_narrow : (p : Procedure) → IsSound p → are_narrow p.code ≡ true
sound_narrow p h = narrow_all p p.code h.operands
