-- Methods of a source program have numbers of their own.
use Rattle.std.proofs.Common.{◌≡◌, ℕ, suc, ◌≤◌, ◌<◌, Bool, true, false, List, [], ◌∷◌, Option, Some, None, refl, sym, ap, ◌∙◌, arith}
use Rattle.std.specs.Prelude.{if◌then◌else◌, bytes_eq, ◌&&◌}
use Rattle.std.proofs.lemmas.Slice.Eq.{bytes_eq-Decides}
use Rattle.vg_source.specs.Names.{Name}
use Rattle.vg_source.specs.Steps.{Routine, Target, Method, Construct, Start}
use Rattle.vg_source.specs.State.{same_target, find_routine}
use Rattle.vg_source.specs.Program.{next_number, number_at, with_numbers}

some_same : (a b : Routine) → Some a ≡ Some b → a ≡ b
some_same a b e = cc

none_some : (a : Routine) → None ≡ Some a → ⊥
none_some a e = cc

both : (a b : Bool) → (a && b) ≡ true → (a ≡ true) × (b ≡ true)
both true b e = (refl, e)
both false b e = cc

-- a target that is found is that of a method
same_is : (t : Target) (c m : Name) → same_target t (Method c m) ≡ true → t ≡ Method c m
same_is (Method d n) c m e =
    let (f, g) = both (bytes_eq d c) (bytes_eq n m) e in
    ap (λ x. Method x n) ((bytes_eq-Decides d c).0 f) ∙ ap (λ x. Method c x) ((bytes_eq-Decides n m).0 g)
same_is (Construct d) c m e = cc
same_is (Start d) c m e = cc

next_up : (n : ℕ) (t : Target) → n ≤ next_number n t
next_up n (Method c m) = omega arith
next_up n (Construct c) = omega arith
next_up n (Start c) = omega arith

-- the routine with its number in front of the others
abbrev Numbered : ℕ → Routine → List Routine → Target → Bool → Option Routine
Numbered n x xs t b = if b then Some (record x { number = number_at n x.target }) else find_routine (with_numbers (next_number n x.target) xs) t

-- the first is found: it is of this method, and its number is the first
first_is : (n : ℕ) (x : Routine) (xs : List Routine) (c m : Name) (r : Routine) → same_target x.target (Method c m) ≡ true
    → find_routine (with_numbers n (x ∷ xs)) (Method c m) ≡ Some r → (x.target ≡ Method c m) × (r.number ≡ n)
first_is n x xs c m r s e =
    let here : Some (record x { number = number_at n x.target }) ≡ Some r = sym (ap (Numbered n x xs (Method c m)) s) ∙ e in
    let t = same_is x.target c m s in
    (t, sym (ap (λ y. y.number) (some_same _ r here)) ∙ ap (number_at n) t)

-- else it is found behind it
behind_is : (n : ℕ) (x : Routine) (xs : List Routine) (c m : Name) (r : Routine) → same_target x.target (Method c m) ≡ false
    → find_routine (with_numbers n (x ∷ xs)) (Method c m) ≡ Some r → find_routine (with_numbers (next_number n x.target) xs) (Method c m) ≡ Some r
behind_is n x xs c m r s e = sym (ap (Numbered n x xs (Method c m)) s) ∙ e

-- the numbers go on from the first
from_on : (n : ℕ) (rs : List Routine) (c m : Name) (r : Routine) → find_routine (with_numbers n rs) (Method c m) ≡ Some r → n ≤ r.number
from_on n [] c m r e = absurd (none_some r e)
from_on n (x ∷ xs) c m r e = split (λ k. from_on (next_number n x.target) xs c m r k) (same_target x.target (Method c m)) refl
  where
    split : (find_routine (with_numbers (next_number n x.target) xs) (Method c m) ≡ Some r → next_number n x.target ≤ r.number) → (b : Bool)
        → same_target x.target (Method c m) ≡ b → n ≤ r.number
    split ih true s = let number = (first_is n x xs c m r s e).1 in omega (arith, number)
    split ih false s = omega (arith, next_up n x.target, ih (behind_is n x xs c m r s e))

-- what is behind a method has a higher number
higher : (n k : ℕ) (t : Target) (c m : Name) → t ≡ Method c m → next_number n t ≤ k → n < k
higher n k t c m e le = let up : next_number n t ≡ suc n = ap (next_number n) e in omega (arith, up, le)

not_itself : (n k l : ℕ) → k ≡ n → n < l → k ≡ l → ⊥
not_itself n k l e lt f = omega (arith, e, lt, f)

-- methods of one number are one
pub one_method : (n : ℕ) (rs : List Routine) (c m d y : Name) (r s : Routine) → find_routine (with_numbers n rs) (Method c m) ≡ Some r
    → find_routine (with_numbers n rs) (Method d y) ≡ Some s → r.number ≡ s.number → Method c m ≡ Method d y
one_method n [] c m d y r s e f same = absurd (none_some r e)
one_method n (x ∷ xs) c m d y r s e f same =
    split (λ g h. one_method (next_number n x.target) xs c m d y r s g h same) (same_target x.target (Method c m)) (same_target x.target (Method d y)) refl refl
  where
    split : (find_routine (with_numbers (next_number n x.target) xs) (Method c m) ≡ Some r
        → find_routine (with_numbers (next_number n x.target) xs) (Method d y) ≡ Some s → Method c m ≡ Method d y) → (a b : Bool) → same_target x.target (Method c m) ≡ a → same_target x.target (Method d y) ≡ b → Method c m ≡ Method d y
    split ih true true g h = sym (first_is n x xs c m r g e).0 ∙ (first_is n x xs d y s h f).0
    split ih true false g h =
        let first = first_is n x xs c m r g e in
        absurd (not_itself n r.number s.number first.1
        (higher n s.number x.target c m first.0 (from_on (next_number n x.target) xs d y s (behind_is n x xs d y s h f))) same)
    split ih false true g h =
        let first = first_is n x xs d y s h f in
        absurd (not_itself n s.number r.number first.1
        (higher n r.number x.target d y first.0 (from_on (next_number n x.target) xs c m r (behind_is n x xs c m r g e))) (sym same))
    split ih false false g h = ih (behind_is n x xs c m r g e) (behind_is n x xs d y s h f)
