-- Procedures that are within frames are within larger ones.
use Rattle.std.specs.Prelude.{ℕ, zero, suc, ◌+◌, ◌<◌, ◌≤◌, List, [], ◌∷◌, drop, length, get_or, slice_set, slice_index}
use Rattle.std.specs.Prelude.{Option, Some, None, IfSome, IsSomeAnd}
use Rattle.std.specs.List.{AllByRecursion}
use Rattle.std.proofs.Common.{◌≡◌, refl, sym, subst, arith}
use Rattle.std.proofs.lemmas.List.{at_drop_more}
use Rattle.vg_lin.specs.Program.{Procedure}
use Rattle.vg_source.specs.Peak.{cost_of}
use Rattle.vg_frame_costs.specs.Fitting.{IsMethodWithin, IsRoutineWithin}
use Rattle.vg_frame_costs.specs.Noted.{AreAtLeast}

-- ---- what is noted

pub set_at : (fs : List ℕ) (n b : ℕ) → n < length fs → cost_of (slice_set fs n b) n ≡ b
set_at [] n b h = absurd (omega (arith, h))
set_at (f ∷ fs) zero b h = refl
set_at (f ∷ fs) (suc n) b h = set_at fs n b (omega (arith, h))

pub grown : (fs : List ℕ) (n b : ℕ) → slice_index fs n < b → AreAtLeast fs (slice_set fs n b)
grown [] n b h k = omega arith
grown (f ∷ fs) zero b h zero = omega (arith, h)
grown (f ∷ fs) zero b h (suc k) = omega arith
grown (f ∷ fs) (suc n) b h zero = omega arith
grown (f ∷ fs) (suc n) b h (suc k) = grown fs n b h k

pub same_frames : (fs : List ℕ) → AreAtLeast fs fs
same_frames fs k = omega arith

-- ---- rows of procedures

pub method_raised : (start : ℕ) (fs gs : List ℕ) (p : Procedure) → AreAtLeast fs gs → IsMethodWithin start fs p → IsMethodWithin start gs p
method_raised start fs gs p more h =
    let bytes = h.bytes in
    let least = more h.method in record { method = h.method; named = h.named; bytes = omega (arith, bytes, least); code = h.code }

pub routine_raised : (a b : ℕ) (p : Procedure) → a ≤ b → IsRoutineWithin a p → IsRoutineWithin b p
routine_raised a b p le h = let bytes = h.bytes in record { unnamed = h.unnamed; bytes = omega (arith, bytes, le); code = h.code }

-- ---- loops over rows

pub left_at : {A : Type 0} (P : A → Type 0) (xs : List A) (i : ℕ) (x : A) → i < length xs → x ≡ get_or xs i x → P x
    → AllByRecursion P (drop (i + 1) xs) → AllByRecursion P (drop i xs)
left_at P xs i x less e h rest = subst (AllByRecursion P) (sym (at_drop_more (λ z. z) xs i x less)) (subst P e h, rest)

pub none_left : {A : Type 0} (P : A → Type 0) (xs : List A) (i : ℕ) → length xs ≤ i → AllByRecursion P (drop i xs)
none_left P [] zero h = tt
none_left P [] (suc i) h = tt
none_left P (x ∷ xs) zero h = absurd (omega (arith, h))
none_left P (x ∷ xs) (suc i) h = none_left P xs i (omega (arith, h))

pub one_of : {A : Type 0} (P : A → Type 0) (xs : List A) (i : ℕ) (x : A) → i < length xs → x ≡ get_or xs i x → AllByRecursion P xs → P x
one_of P [] i x less e all = absurd (omega (arith, less))
one_of P (y ∷ ys) zero x less e all = subst P (sym e) all.0
one_of P (y ∷ ys) (suc i) x less e all = one_of P ys i x (omega (arith, less)) e all.1

pub grown_then : (fs gs hs : List ℕ) → AreAtLeast fs gs → AreAtLeast gs hs → AreAtLeast fs hs
grown_then fs gs hs h k method = let one = h method in let two = k method in omega (arith, one, two)

pub some_is : (P : ℕ → Type 0) (o : Option ℕ) (b : ℕ) → o ≡ Some b → IfSome o P → P b
some_is P o b e h = subst (λ z. IfSome z P) e h

pub some_and : (P : ℕ → Type 0) (o : Option ℕ) (b : ℕ) → o ≡ Some b → IsSomeAnd o P → P b
some_and P o b e h = subst (λ z. IsSomeAnd z P) e h

pub none_and : (P : ℕ → Type 0) (o : Option ℕ) → o ≡ None → IsSomeAnd o P → ⊥
none_and P o e h = subst (λ z. IsSomeAnd z P) e h
