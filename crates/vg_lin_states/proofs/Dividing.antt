-- Steps of a division whose operands have values.
use Rattle.std.specs.Prelude.{ℕ, zero, suc, ◌+◌, ◌-◌, ◌<◌, ◌≤◌, ◌&&◌, Bool, true, false, List, [], ◌∷◌, Option, Some, None, slice_get}
use Rattle.std.proofs.Common.{◌≡◌, refl, ap, ◌∙◌, arith}
use Rattle.vg_meaning.specs.Outside.{Outside}
use Rattle.vg_lin.specs.declared.instr.Operand.{Operand}
use Rattle.vg_lin.specs.declared.instr.Operand.TheVariants.{Local, Known}
use Rattle.vg_lin.specs.Steps.{Fails}
use Rattle.vg_lin.specs.State.{LocalState, State, value_in, value, using, with_local, sets, division_steps, divides}
use Rattle.vg_lin.specs.Values.{next_remainder, next_dividend}
use Rattle.vg_lin_states.specs.Doing.{has_value, can_divide}

steps_count : division_steps ≡ 32
unfolding division_steps
steps_count = refl

pub none_taken : division_steps ≡ division_steps - 0
none_taken = omega arith

pub one_less : (k : ℕ) → k < 32 → division_steps - k ≡ suc (division_steps - (k + 1))
one_less k h = omega (arith, h, steps_count)

pub all_taken : (k : ℕ) → 32 ≤ k → division_steps - k ≡ 0
all_taken k h = omega (arith, h, steps_count)

set_has : (ls : List LocalState) (to x k : ℕ) → has_value (value_in (slice_get ls k)) ≡ true → has_value (value_in (slice_get (with_local ls to x) k)) ≡ true
set_has [] to x k h = h
set_has (l ∷ ls) zero x zero h = refl
set_has (l ∷ ls) zero x (suc k) h = h
set_has (l ∷ ls) (suc to) x zero h = h
set_has (l ∷ ls) (suc to) x (suc k) h = set_has ls to x k h

operand_has : (a : Operand) (s : State) (to x : ℕ) → has_value (value a s) ≡ true → has_value (value a (sets to x s)) ≡ true
operand_has (Local k) s to x h = set_has s.locals to x k h
operand_has (Known v) s to x h = refl

first_of : (a b : Bool) → (a && b) ≡ true → a ≡ true
first_of true b e = refl
first_of false b e = e

second_of : (a b : Bool) → (a && b) ≡ true → b ≡ true
second_of true b e = e
second_of false b e = absurd (grind arith)

all_of : (a b c : Bool) → a ≡ true → b ≡ true → c ≡ true → (a && (b && c)) ≡ true
all_of a b c e f g = grind arith

module _ (s : State) (r d : ℕ) (a : Operand) where
  -- what is set has values as well
  pub still : (x y : ℕ) → can_divide s r d a ≡ true → can_divide (sets d y (sets r x s)) r d a ≡ true
  still x y h =
      let here = has_value (value (Local r) s) in
      let there = has_value (value (Local d) s) in
      let by = has_value (value a s) in
      let others = second_of here (there && by) h in
      all_of _ _ _ (kept (Local r) (first_of here (there && by) h)) (kept (Local d) (first_of there by others)) (kept a (second_of there by others))
    where
      kept : (b : Operand) → has_value (value b s) ≡ true → has_value (value b (sets d y (sets r x s))) ≡ true
      kept b e = operand_has b (sets r x s) d y (operand_has b s r x e)

  pub step_is : (x y z : ℕ) → value (Local r) s ≡ Some x → value (Local d) s ≡ Some y → value a s ≡ Some z → (n : ℕ) (o : Outside)
      → divides (suc n) r d a s o ≡ divides n r d a (sets d (next_dividend x y z) (sets r (next_remainder x y z) s)) o
  step_is x y z e f g n o =
      let go = λ (x y z : ℕ). divides n r d a (sets d (next_dividend x y z) (sets r (next_remainder x y z) s)) o in
      ap (λ v. using v (λ x. using (value (Local d) s) (λ y. using (value a s) (λ z. go x y z)))) e
      ∙ ap (λ v. using v (λ y. using (value a s) (λ z. go x y z))) f
      ∙ ap (λ v. using v (λ z. go x y z)) g

  -- without values the first step fails
  fails : can_divide s r d a ≡ false → (n : ℕ) (o : Outside) → divides (suc n) r d a s o ≡ Fails
  fails h n o = by_values (value (Local r) s) (value (Local d) s) (value a s) h
    where
      by_values : (v w z : Option ℕ) → (has_value v && (has_value w && has_value z)) ≡ false
          → using v (λ x. using w (λ y. using z (λ u. divides n r d a (sets d (next_dividend x y u) (sets r (next_remainder x y u) s)) o))) ≡ Fails
      by_values None w z e = refl
      by_values (Some x) None z e = refl
      by_values (Some x) (Some y) None e = refl
      by_values (Some x) (Some y) (Some u) e = absurd (grind arith)

  pub fails_all : can_divide s r d a ≡ false → (o : Outside) → divides division_steps r d a s o ≡ Fails
  fails_all h o = ap (λ n. divides n r d a s o) steps_count ∙ fails h 31 o
