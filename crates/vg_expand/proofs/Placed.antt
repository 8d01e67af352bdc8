-- Where expanded code stands. The new place of an instruction is how many stand for those before it; all that is said of places is by
-- induction over the code.
use Rattle.std.specs.Prelude.{ℕ, zero, suc, ◌+◌, ◌<◌, List, [], ◌∷◌, ◌++◌, length, Some}
use Rattle.std.specs.Prelude.{slice_get, get_or}
use Rattle.std.proofs.Common.{◌≡◌, refl, ap, ◌∙◌, subst, arith}
use Rattle.vg_lin.specs.declared.instr.Plain.TheVariants.{Copy, Compute, Product, DivideSteps, Load, Store, ReadDevice, WriteDevice, Push, Pop, Find, CodeOf, Stop}
use Rattle.vg_lin.specs.declared.instr.Instr.{Instr}
use Rattle.vg_lin.specs.declared.instr.Instr.TheVariants.{Plain, When, Unless, Jump, Call, Return, Idle}
use Rattle.vg_arith.proofs.ShiftRoutines.{some_is}
use Rattle.vg_expand.specs.Code.{Base, expanded_at, expanded_code, size, places_from, place_in}
use Rattle.vg_expand.proofs.Computing.{StandAt}

-- ---- sizes

pub size_is : (base : Base) (place : ℕ → ℕ) (i : Instr) → length (expanded_at base place i) ≡ size base i
size_is base place (Plain (Copy to a)) = refl
size_is base place (Plain (Compute c)) = refl
size_is base place (Plain (Product to a b)) = refl
size_is base place (Plain (DivideSteps r d a)) = refl
size_is base place (Plain (Load m w to a)) = refl
size_is base place (Plain (Store w a from)) = refl
size_is base place (Plain (ReadDevice to a)) = refl
size_is base place (Plain (WriteDevice to a)) = refl
size_is base place (Plain (Push w a)) = refl
size_is base place (Plain (Pop w to)) = refl
size_is base place (Plain (Find d to a)) = refl
size_is base place (Plain (CodeOf q to)) = refl
size_is base place (Plain (Stop c)) = refl
size_is base place (When t to) = refl
size_is base place (Unless t to) = refl
size_is base place (Jump to) = refl
size_is base place (Call c) = refl
size_is base place (Return w a) = refl
size_is base place Idle = refl

-- ---- places

abbrev pub place_of : Base → List Instr → ℕ → ℕ
place_of base [] k = 0
place_of base (i ∷ is) zero = 0
place_of base (i ∷ is) (suc k) = size base i + place_of base is k

pub place_next : (base : Base) (is : List Instr) (at : ℕ) (i : Instr) → slice_get is at ≡ Some i → place_of base is (suc at) ≡ place_of base is at + size base i
place_next base [] at i e = absurd (grind arith)
place_next base (j ∷ []) zero i e = ap (λ z. size base z + 0) (some_is j i e) ∙ omega arith
place_next base (j ∷ k ∷ is) zero i e = ap (λ z. size base z + 0) (some_is j i e) ∙ omega arith
place_next base (j ∷ is) (suc at) i e = ap (λ z. size base j + z) (place_next base is at i e) ∙ omega arith

places_from_is : (base : Base) (is : List Instr) (from k : ℕ) → k < length is → get_or (places_from base from is) k 0 ≡ from + place_of base is k
places_from_is base [] from k h = absurd (omega arith)
places_from_is base (i ∷ is) from zero h = omega arith
places_from_is base (i ∷ is) from (suc k) h = places_from_is base is (from + size base i) k (omega (arith, h)) ∙ omega arith

pub place_in_is : (base : Base) (is : List Instr) (k : ℕ) → k < length is → place_in base is k ≡ place_of base is k
place_in_is base is k h = places_from_is base is 0 k h ∙ omega arith

-- ---- code

pub get_behind : {A : Type 0} (zs ys : List A) (k : ℕ) → slice_get (zs ++ ys) (length zs + k) ≡ slice_get ys k
get_behind [] ys k = ap (slice_get ys) (omega arith)
get_behind (z ∷ zs) ys k = let e : suc (length zs) + k ≡ suc (length zs + k) = omega arith in ap (slice_get (z ∷ zs ++ ys)) e ∙ get_behind zs ys k

stand_behind : (zs ys : List Instr) (at : ℕ) (xs : List Instr) → StandAt ys at xs → StandAt (zs ++ ys) (length zs + at) xs
stand_behind zs ys at [] h = tt {0}
stand_behind zs ys at (x ∷ xs) (e, h) =
    let n : length zs + suc at ≡ suc (length zs + at) = omega arith in
    (get_behind zs ys at ∙ e, subst (λ k. StandAt (zs ++ ys) k xs) n (stand_behind zs ys (suc at) xs h))

stand_front : (xs ys : List Instr) → StandAt (xs ++ ys) 0 xs
stand_front [] ys = tt {0}
stand_front (x ∷ xs) ys = (refl, stand_behind (x ∷ []) (xs ++ ys) 0 xs (stand_front xs ys))

-- what stands for an instruction stands at its new place
pub stands : (base : Base) (place : ℕ → ℕ) (is : List Instr) (at : ℕ) (i : Instr) → slice_get is at ≡ Some i
    → StandAt (expanded_code base place is) (place_of base is at) (expanded_at base place i)
stands base place [] at i e = absurd (grind arith)
stands base place (j ∷ is) zero i e =
    subst (λ z. StandAt (expanded_at base place j ++ expanded_code base place is) 0 (expanded_at base place z)) (some_is j i e)
    (stand_front (expanded_at base place j) (expanded_code base place is))
stands base place (j ∷ is) (suc at) i e =
    subst (λ n. StandAt (expanded_at base place j ++ expanded_code base place is) (n + place_of base is at) (expanded_at base place i)) (size_is base place j)
    (stand_behind (expanded_at base place j) (expanded_code base place is) (place_of base is at) (expanded_at base place i) (stands base place is at i e))
