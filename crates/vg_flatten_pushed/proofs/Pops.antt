-- The copies and the pops before a step, one by one.
use Rattle.std.specs.Prelude.{ℕ, zero, suc, ◌+◌, ◌-◌, ◌++◌, List, [], ◌∷◌, length}
use Rattle.std.proofs.Common.{◌≡◌, refl, sym, ap, ◌∙◌, arith}
use Rattle.vg_lin.specs.declared.instr.Operand.{Operand}
use Rattle.vg_lin.specs.declared.instr.Operand.TheVariants.{Local}
use Rattle.vg_lin.specs.declared.instr.Plain.TheVariants.{Copy, Pop}
use Rattle.vg_lin.specs.declared.instr.Instr.TheVariants.{Plain}
use Rattle.vg_flatten_shapes.specs.declared.open.Open.{Open}
use Rattle.vg_flatten_shapes.specs.declared.open.Open.TheVariants.{Set}
use Rattle.vg_flatten_shapes.specs.Blocks.{Both, open_code}
use Rattle.vg_flatten_pushed.specs.Pushed.{pops, popped, pop_list, lifts, lift_list}

pub pops_code : (first count at : ℕ) → open_code (pops first count) at ≡ pop_list first count
pops_code first zero at = refl
pops_code first (suc k) at = ap (λ z. Set (Plain (Pop 4 (first + k))) ∷ z) (pops_code first k (at + 1))

pub one_pop : (first count : ℕ) → (count ≡ 0 → ⊥) → Set (Plain (Pop 4 (first + (count - 1)))) ∷ pop_list first (count - 1) ≡ pop_list first count
one_pop first zero n = absurd (n refl)
one_pop first (suc k) n = ap (λ z. Set (Plain (Pop 4 (first + z))) ∷ pop_list first z) (less k)
  where
    less : (a : ℕ) → suc a - 1 ≡ a
    less a = omega arith

pub one_home : (first count : ℕ) → (count ≡ 0 → ⊥) → Local (first + (count - 1)) ∷ popped first (count - 1) ≡ popped first count
one_home first zero n = absurd (n refl)
one_home first (suc k) n = ap (λ z. Local (first + z) ∷ popped first z) (less k)
  where
    less : (a : ℕ) → suc a - 1 ≡ a
    less a = omega arith

pub lifts_code : (first : ℕ) (hs : List Operand) (at : ℕ) → open_code (lifts first hs) at ≡ lift_list first hs
lifts_code first [] at = refl
lifts_code first (h ∷ hs) at = ap (λ z. Set (Plain (Copy (first + length hs) h)) ∷ z) (lifts_code first hs (at + 1))

-- The code of the copies and the pops, as it was made.
pub drawn_code : (first k at : ℕ) (news : List Operand) (none lifted all : List Open) → none ≡ [] → lifted ≡ none ++ lift_list (first + k) news
    → all ≡ lifted ++ pop_list first k → all ≡ open_code (Both (lifts (first + k) news) (pops first k)) at
drawn_code first k at news none lifted all e h g =
    g ∙ ap (λ z. z ++ pop_list first k) (h ∙ ap (λ z. z ++ lift_list (first + k) news) e ∙ sym (lifts_code (first + k) news at))
    ∙ ap (λ z. open_code (lifts (first + k) news) at ++ z) (sym (pops_code first k (at + length (open_code (lifts (first + k) news) at))))
