-- The two forms of a choice's code, with a second way and without, and that a block without code has none at any place.
use Rattle.std.specs.Prelude.{ℕ, ◌+◌, ◌==◌, Bool, true, false, List, [], ◌∷◌, ◌++◌, length, if◌then◌else◌}
use Rattle.std.proofs.Common.{◌≡◌, refl, sym, ap, ◌∙◌, subst, arith}
use Rattle.vg_lin.specs.declared.instr.Instr.TheVariants.{Jump}
use Rattle.vg_flatten_shapes.specs.declared.open.Truth.{Truth}
use Rattle.vg_flatten_shapes.specs.declared.open.Open.{Open}
use Rattle.vg_flatten_shapes.specs.declared.open.Open.TheVariants.{Set}
use Rattle.vg_flatten_shapes.specs.Blocks.{Block, Skip, One, CallTo, TakeInterrupt, GiveBack, BreakOut, GoOn, Both, Choice, Repeat, branch, choice_code, call_code, open_code}

abbrev pub alone : Truth → (at : ℕ) → List Open → List Open
alone t at x = Set (branch t (at + 1 + length x)) ∷ x

abbrev pub with_jump : Truth → (at : ℕ) → (x y : List Open) → List Open
with_jump t at x y = Set (branch t (at + 1 + length x + 1)) ∷ (x ++ (Set (Jump (at + 1 + length x + 1 + length y)) ∷ y))

abbrev IsNil : List Open → Type 0
IsNil [] = Unit {0}
IsNil (o ∷ os) = ⊥

not_nil : {B : Type 0} (o : Open) (os : List Open) → o ∷ os ≡ [] → B
not_nil o os e = absurd (subst IsNil (sym e) tt)

nil_of : (os : List Open) → (length os == 0) ≡ true → os ≡ []
nil_of [] e = refl
nil_of (o ∷ os) e = absurd (grind arith)

-- what holds of both forms holds of the code
pub choice_cases : (P : List Open → Type 0) (t : Truth) (at : ℕ) (x y : List Open) → (y ≡ [] → P (alone t at x)) → P (with_jump t at x y)
    → P (choice_code t at x y)
choice_cases P t at x y h g = by_rest (length y == 0) refl
  where
    by_rest : (b : Bool) → (length y == 0) ≡ b → P (if b then alone t at x else with_jump t at x y)
    by_rest true e = h (nil_of y e)
    by_rest false e = g

nil_both : (xs ys : List Open) → xs ++ ys ≡ [] → (xs ≡ []) × (ys ≡ [])
nil_both [] ys e = (refl, e)
nil_both (x ∷ xs) ys e = not_nil x (xs ++ ys) e

pub nothing_anywhere : (b : Block) (u v : ℕ) → open_code b u ≡ [] → open_code b v ≡ []
nothing_anywhere Skip u v e = refl
nothing_anywhere (One p) u v e = not_nil _ [] e
nothing_anywhere (CallTo [] c) u v e = not_nil _ [] e
nothing_anywhere (CallTo (a ∷ more) c) u v e = not_nil _ (call_code more c) e
nothing_anywhere TakeInterrupt u v e = not_nil _ [] e
nothing_anywhere (GiveBack width a) u v e = not_nil _ [] e
nothing_anywhere BreakOut u v e = not_nil _ [] e
nothing_anywhere GoOn u v e = not_nil _ [] e
nothing_anywhere (Both a b) u v e =
    let h = nil_both (open_code a u) (open_code b (u + length (open_code a u))) e in
    ap (λ z. z ++ open_code b (v + length z)) (nothing_anywhere a u v h.0) ∙ nothing_anywhere b (u + length (open_code a u)) (v + 0) h.1
nothing_anywhere (Choice t a b) u v e =
    choice_cases (λ z. z ≡ [] → open_code (Choice t a b) v ≡ []) t u (open_code a (u + 1)) (open_code b (u + 1 + length (open_code a (u + 1)) + 1))
    (λ h g. not_nil _ _ g) (λ g. not_nil _ _ g) e
nothing_anywhere (Repeat p t body next) u v e = let h = nil_both (open_code p u) _ e in not_nil _ _ h.1
