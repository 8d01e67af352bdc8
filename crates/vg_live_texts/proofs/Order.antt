-- The numbers of methods are in the order of the text.
use Rattle.std.proofs.Common.{◌≡◌, ap, ◌∙◌, arith, ℕ, zero, suc, List, [], ◌∷◌, Some, None, slice_get}
use Rattle.std.specs.Prelude.{◌<◌, ◌≤◌}
use Rattle.vg_source.specs.Names.{Name}
use Rattle.vg_source.specs.Steps.{Routine, Target, Method, Construct, Start}
use Rattle.vg_source.specs.Program.{next_number, number_at, with_numbers}

the_same : {A : Type 0} (a b : A) → Some a ≡ Some b → a ≡ b
the_same a b e = cc

none_some : {A : Type 0} {X : Type 0} (a : A) → None ≡ Some a → X
none_some a e = absurd (let clash : None ≡ Some a = e in cc)

grows : (n : ℕ) (t : Target) → n ≤ next_number n t
grows n (Method c m) = omega arith
grows n (Construct c) = omega arith
grows n (Start c) = omega arith

-- a method among those that are numbered from n on has a number that is at least n
at_least : (n : ℕ) (all : List Routine) (j : ℕ) (s : Routine) (d x : Name) → slice_get (with_numbers n all) j ≡ Some s → s.target ≡ Method d x → n ≤ s.number
at_least n [] j s d x e t = none_some s e
at_least n (r ∷ all) zero s d x e t = by (number_is s.target t)
  where
    same : record r { number = number_at n r.target } ≡ s
    same = the_same _ _ e

    number_is : (u : Target) → u ≡ Method d x → number_at n u ≡ n
    number_is u q = ap (number_at n) q

    by : number_at n s.target ≡ n → n ≤ s.number
    by q = let number : number_at n r.target ≡ s.number = ap (λ (z : Routine). z.number) same in
        let target : r.target ≡ s.target = ap (λ (z : Routine). z.target) same in
        let number_too : number_at n r.target ≡ number_at n s.target = ap (number_at n) target in
        omega (arith, q, number, number_too)
at_least n (r ∷ all) (suc j) s d x e t =
    let least : next_number n r.target ≤ s.number = at_least (next_number n r.target) all j s d x e t in
    let more : n ≤ next_number n r.target = grows n r.target in
    omega (arith, least, more)

pub in_order : (n : ℕ) (all : List Routine) (i j : ℕ) (r s : Routine) (c m d x : Name) → i < j → slice_get (with_numbers n all) i ≡ Some r
    → slice_get (with_numbers n all) j ≡ Some s → r.target ≡ Method c m → s.target ≡ Method d x → r.number < s.number
in_order n [] i j r s c m d x l e f t u = none_some r e
in_order n (a ∷ all) zero zero r s c m d x l e f t u = absurd (omega (arith, l))
in_order n (a ∷ all) zero (suc j) r s c m d x l e f t u =
    let same : record a { number = number_at n a.target } ≡ r = the_same _ _ e in
    let target : a.target ≡ Method c m = ap (λ (z : Routine). z.target) same ∙ t in
    let number : number_at n a.target ≡ r.number = ap (λ (z : Routine). z.number) same in
    let first : number_at n a.target ≡ n = ap (number_at n) target in
    let next : next_number n a.target ≡ suc n = ap (next_number n) target in
    let least : next_number n a.target ≤ s.number = at_least (next_number n a.target) all j s d x f u in
    omega (arith, number, first, next, least)
in_order n (a ∷ all) (suc i) zero r s c m d x l e f t u = absurd (omega (arith, l))
in_order n (a ∷ all) (suc i) (suc j) r s c m d x l e f t u = in_order (next_number n a.target) all i j r s c m d x (omega (arith, l)) e f t u
