use Rattle.std.specs.Prelude.{ℕ, ◌<◌, ◌≢◌}
use Rattle.std.proofs.Common.{◌≡◌, refl, sym, ap, ◌∙◌, subst, arith}
use Rattle.std.proofs.lemmas.Result.{IfOk-weaker}
use Rattle.vg_lin.specs.Program.{Procedure}
use Rattle.vg_arith.specs.Routines.{IsRoutine}
use Rattle.vg_arith.specs.Numbers.{routine_with}
use Rattle.vg_arith.specs.Product.{mul}
use Rattle.vg_arith.specs.Division.{divide}
use Rattle.vg_arith.specs.Shifts.{shl, shr}
use Rattle.vg_arith.proofs.Numbered.{mul_routine, divide_routine, shl_routine, shr_routine}
use Rattle.vg_arith.proofs.routines.routine.Goals as goal

-- what is made is the routine with a number, which is the one asked for
made : (n which : ℕ) (m : Procedure) → IsRoutine n m → which ≡ n → (p : Procedure) → p ≡ m → IsRoutine which p
made n which m r e p h = subst (λ k. IsRoutine k p) (sym e) (subst (IsRoutine n) (sym h) r)

-- and that with its number
numbered : (n which : ℕ) (m : Procedure) → m ≡ routine_with n → which ≡ n → (p : Procedure) → p ≡ m → p ≡ routine_with which
numbered n which m is e p h = h ∙ is ∙ ap routine_with (sym e)

three : (which : ℕ) → which < 4 → which ≢ 0 → which ≢ 1 → which ≢ 2 → which ≡ 3
three which h a b c = omega (arith, h, a, b, c)

pub returns-then-which-eq0-clause-routine : goal.returns-then-which-eq0-clause-routine
returns-then-which-eq0-clause-routine c =
    IfOk-weaker c.product_routine.result (λ p. p ≡ mul) (IsRoutine c.args.which) (made 0 c.args.which mul mul_routine c.if-which-eq0.true)
    c.product_routine.ensures

pub returns-then-which-eq1-clause-routine : goal.returns-then-which-eq1-clause-routine
returns-then-which-eq1-clause-routine c =
    IfOk-weaker c.division_routine.result (λ p. p ≡ divide) (IsRoutine c.args.which) (made 1 c.args.which divide divide_routine c.if-which-eq1.true)
    c.division_routine.ensures

pub returns-then-which-eq2-clause-routine : goal.returns-then-which-eq2-clause-routine
returns-then-which-eq2-clause-routine c =
    IfOk-weaker c.left_shift_routine.result (λ p. p ≡ shl) (IsRoutine c.args.which) (made 2 c.args.which shl shl_routine c.if-which-eq2.true)
    c.left_shift_routine.ensures

pub returns-else-which-eq2-clause-routine : goal.returns-else-which-eq2-clause-routine
returns-else-which-eq2-clause-routine c =
    IfOk-weaker c.right_shift_routine.result (λ p. p ≡ shr) (IsRoutine c.args.which) (made 3 c.args.which shr shr_routine
    (three c.args.which c.requires c.if-which-eq0.false c.if-which-eq1.false c.if-which-eq2.false))
    c.right_shift_routine.ensures

pub returns-then-which-eq0-clause-exactly : goal.returns-then-which-eq0-clause-exactly
returns-then-which-eq0-clause-exactly c =
    IfOk-weaker c.product_routine.result (λ p. p ≡ mul) (λ p. p ≡ routine_with c.args.which) (numbered 0 c.args.which mul refl c.if-which-eq0.true)
    c.product_routine.ensures

pub returns-then-which-eq1-clause-exactly : goal.returns-then-which-eq1-clause-exactly
returns-then-which-eq1-clause-exactly c =
    IfOk-weaker c.division_routine.result (λ p. p ≡ divide) (λ p. p ≡ routine_with c.args.which) (numbered 1 c.args.which divide refl c.if-which-eq1.true)
    c.division_routine.ensures

pub returns-then-which-eq2-clause-exactly : goal.returns-then-which-eq2-clause-exactly
returns-then-which-eq2-clause-exactly c =
    IfOk-weaker c.left_shift_routine.result (λ p. p ≡ shl) (λ p. p ≡ routine_with c.args.which) (numbered 2 c.args.which shl refl c.if-which-eq2.true)
    c.left_shift_routine.ensures

pub returns-else-which-eq2-clause-exactly : goal.returns-else-which-eq2-clause-exactly
returns-else-which-eq2-clause-exactly c =
    IfOk-weaker c.right_shift_routine.result (λ p. p ≡ shr) (λ p. p ≡ routine_with c.args.which) (numbered 3 c.args.which shr refl
    (three c.args.which c.requires c.if-which-eq0.false c.if-which-eq1.false c.if-which-eq2.false))
    c.right_shift_routine.ensures
