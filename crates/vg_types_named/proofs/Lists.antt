-- Lists that grow at their ends, and lists that are the same entry by entry.
use Rattle.std.proofs.Common.{◌≡◌, ℕ, zero, suc, ◌+◌, List, [], ◌∷◌, ◌++◌, length, map, Some, slice_get, refl, ap, ◌∙◌, arith}
use Rattle.vg_source.specs.Steps as source
use Rattle.vg_source.specs.Names.{Name}
use Rattle.vg_core.specs.declared.program.Class.{Class}
use Rattle.vg_core.specs.declared.program.Tables.{Tables}
use Rattle.vg_core.specs.Naming.{Naming, named_class, named_classes, named_components}

pub append-none : {A : Type 0} (xs : List A) → xs ≡ xs ++ []
append-none [] = refl
append-none (x ∷ xs) = ap (λ z. x ∷ z) (append-none xs)

pub count_push : {A : Type 0} (xs : List A) (c : A) → length (xs ++ c ∷ []) ≡ suc (length xs)
count_push [] c = refl
count_push (x ∷ xs) c = ap suc (count_push xs c)

pub at_end : {A : Type 0} (xs : List A) (y : A) (i : ℕ) → i ≡ length xs → slice_get (xs ++ y ∷ []) i ≡ Some y
at_end [] y i e = ap (λ z. slice_get (y ∷ []) z) e
at_end (x ∷ xs) y i e = ap (λ z. slice_get (x ∷ (xs ++ y ∷ [])) z) e ∙ at_end xs y (length xs) refl

pub before_end : {A : Type 0} (xs : List A) (y : A) (i : ℕ) (z : A) → slice_get xs i ≡ Some z → slice_get (xs ++ y ∷ []) i ≡ Some z
before_end [] y i z h = cc
before_end (x ∷ xs) y zero z h = h
before_end (x ∷ xs) y (suc i) z h = before_end xs y i z h

-- what stands at a place within a list stands there in a longer one
pub within_same : {A B : Type 0} (xs : List A) (y : A) (es : List B) (e : B) (i : ℕ) → length xs ≡ length es → slice_get es i ≡ Some e
    → slice_get (xs ++ y ∷ []) i ≡ slice_get xs i
within_same xs y [] e i l h = cc
within_same [] y (f ∷ es) e i l h = cc
within_same (x ∷ xs) y (f ∷ es) e zero l h = refl
within_same (x ∷ xs) y (f ∷ es) e (suc i) l h = within_same xs y es e i (let q : suc (length xs) ≡ suc (length es) = l in cc) h

-- ---- what is named

pub all_components : (n : Naming) (p : Tables) (f : ℕ → Name) (k : ℕ) (xs : List ℕ)
    → ((i y : ℕ) → slice_get xs i ≡ Some y → n.component (k + i) ≡ f y) → named_components n p k xs ≡ map f xs
all_components n p f k [] h = refl
all_components n p f k (x ∷ xs) h =
    let e : k ≡ k + 0 = omega arith in
    ap (λ z. z ∷ named_components n p (suc k) xs) (ap n.component e ∙ h 0 x refl)
    ∙ ap (λ z. f x ∷ z)
    (all_components n p f (suc k) xs (λ i y g. let q : suc k + i ≡ k + suc i = omega arith in ap n.component q ∙ h (suc i) y g))

pub all_classes : {E : Type 0} (n : Naming) (p : Tables) (f : E → source.Class) (c : ℕ) (ks : List Class) (es : List E) → length ks ≡ length es
    → ((i : ℕ) (k : Class) (e : E) → slice_get ks i ≡ Some k → slice_get es i ≡ Some e → named_class n p (c + i) k ≡ f e)
    → named_classes n p c ks ≡ map f es
all_classes n p f c [] [] l h = refl
all_classes n p f c [] (e ∷ es) l h = cc
all_classes n p f c (k ∷ ks) [] l h = cc
all_classes {E} n p f c (k ∷ ks) (e ∷ es) l h =
    let q : c ≡ c + 0 = omega arith in
    ap (λ z. z ∷ named_classes n p (suc c) ks) (ap (λ i. named_class n p i k) q ∙ h 0 k e refl refl)
    ∙ ap (λ z. f e ∷ z) (all_classes n p f (suc c) ks es (let g : suc (length ks) ≡ suc (length es) = l in cc) later)
  where
    later : (i : ℕ) (j : Class) (b : E) → slice_get ks i ≡ Some j → slice_get es i ≡ Some b → named_class n p (suc c + i) j ≡ f b
    later i j b g r = let q : suc c + i ≡ c + suc i = omega arith in ap (λ z. named_class n p z j) q ∙ h (suc i) j b g r
