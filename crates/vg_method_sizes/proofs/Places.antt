-- The methods of a source program, in order of the text.
use Rattle.std.proofs.Common.{◌≡◌, ℕ, zero, suc, ◌+◌, List, [], ◌∷◌, ◌++◌, map, flat_map, length, Some, slice_get, refl, sym, ap, ◌∙◌, arith}
use Rattle.std.proofs.lemmas.List.{map-append}
use Rattle.std.proofs.lemmas.Grind.{flat_map-append}
use Rattle.vg_syntax.specs.Tree.{Node, Then, ClassDecl, ComponentDecl, MethodDecl}
use Rattle.vg_source.specs.Names.{Name}
use Rattle.vg_source.specs.Steps.{Target, Method, Construct, Start, Routine}
use Rattle.vg_source.specs.Resolved.{Owner, InClass, InComponent}
use Rattle.vg_source.specs.Program.{declarations_of, source_of, methods_in, declared_routines, routines_in, next_number, number_at, with_numbers}
use Rattle.vg_rules.specs.Counts.{in_row, members_at}
use Rattle.vg_method_sizes.specs.Sizes.{Size, size_at, sizes_in, sizes, if_method, methods_among}

-- ---- numbers

from : (n : ℕ) (rs : List Routine) (i : ℕ) (r : Routine) → slice_get (methods_among (with_numbers n rs)) i ≡ Some r → r.number ≡ n + i
from n [] i r e = cc
from n (q ∷ qs) i r e = by q.target (record q { number = number_at n q.target }) refl i e (λ m j g. from m qs j r g)
  where
    by : (t : Target) (p : Routine) → p.number ≡ number_at n t → (i : ℕ)
        → slice_get (if_method t p ++ methods_among (with_numbers (next_number n t) qs)) i ≡ Some r
        → ((m j : ℕ) → slice_get (methods_among (with_numbers m qs)) j ≡ Some r → r.number ≡ m + j) → r.number ≡ n + i
    by (Method c x) p f zero e go =
        let g : p ≡ r = cc in
        let h : n ≡ n + 0 = omega arith in
        ap (λ (z : Routine). z.number) (sym g) ∙ f ∙ h
    by (Method c x) p f (suc i) e go =
        let h : suc n + i ≡ n + suc i = omega arith in
        go (suc n) i e ∙ h
    by (Construct c) p f i e go = go n i e
    by (Start k) p f i e go = go n i e

pub at_places : (text : Node) (i : ℕ) (r : Routine) → slice_get (methods_among (source_of text).routines) i ≡ Some r → r.number ≡ i
at_places text i r e =
    let f = from 0 (routines_in (declarations_of text) (declarations_of text)) i r e in
    omega (arith, f)

-- ---- parameters

abbrev params_of : List Routine → List ℕ
params_of rs = map (λ r. r.params) (methods_among rs)

abbrev counted : List Size → List ℕ
counted ss = map (λ s. s.params) ss

numbers_aside : (n : ℕ) (rs : List Routine) → params_of (with_numbers n rs) ≡ params_of rs
numbers_aside n [] = refl
numbers_aside n (q ∷ qs) = by q.target (record q { number = number_at n q.target }) refl (λ m. numbers_aside m qs)
  where
    by : (t : Target) (p : Routine) → p.params ≡ q.params → ((m : ℕ) → params_of (with_numbers m qs) ≡ params_of qs)
        → map (λ (r : Routine). r.params) (if_method t p ++ methods_among (with_numbers (next_number n t) qs))
        ≡ map (λ (r : Routine). r.params) (if_method t q ++ methods_among qs)
    by (Method c x) p f go = ap (λ z. z ∷ params_of (with_numbers (suc n) qs)) f ∙ ap (λ z. q.params ∷ z) (go (suc n))
    by (Construct c) p f go = go n
    by (Start k) p f go = go n

of_two : (a b : List Routine) → params_of (a ++ b) ≡ params_of a ++ params_of b
of_two a b =
    ap (map (λ (r : Routine). r.params)) (flat_map-append (λ (r : Routine). if_method r.target r) a b)
    ∙ map-append (λ (r : Routine). r.params) (methods_among a) (methods_among b)

members : (ds : Node) (o : Owner) (c : Name) (ms : Node) → params_of (methods_in ds o c ms) ≡ counted (flat_map size_at (in_row ms))
members ds o c (Then (MethodDecl at x ps t body) rest) = ap (λ z. length ps ∷ z) (members ds o c rest)
members ds o c (Then _ rest) = members ds o c rest
members ds o c _ = refl

declaration : (ds d : Node) → params_of (declared_routines ds d) ≡ counted (flat_map size_at (members_at d))
declaration ds (ClassDecl at c above ms) = members ds (InClass c) c ms
declaration ds (ComponentDecl at c ms) = members ds (InComponent c) c ms
declaration ds _ = refl

declarations : (ds rest : Node) → params_of (routines_in ds rest) ≡ counted (sizes_in rest)
declarations ds (Then d rest) =
    of_two (declared_routines ds d) (routines_in ds rest) ∙ ap (λ z. z ++ params_of (routines_in ds rest)) (declaration ds d)
    ∙ ap (λ z. counted (flat_map size_at (members_at d)) ++ z) (declarations ds rest)
    ∙ sym (map-append (λ (s : Size). s.params) (flat_map size_at (members_at d)) (sizes_in rest))
    ∙ ap counted (sym (flat_map-append size_at (members_at d) (flat_map members_at (in_row rest))))
declarations ds _ = refl

pub params_sized : (text : Node) → map (λ (r : Routine). r.params) (methods_among (source_of text).routines) ≡ map (λ (s : Size). s.params) (sizes text)
params_sized text =
    numbers_aside 0 (routines_in (declarations_of text) (declarations_of text)) ∙ declarations (declarations_of text) (declarations_of text)
