-- Arguments in the order of the parameters, and the other way round.
use Rattle.std.proofs.Common.{◌≡◌, ◌≢◌, ℕ, zero, suc, ◌<◌, ◌==◌, ◌&&◌, Bool, true, false, List, [], ◌∷◌, length, reverse, take, refl, sym, ap, ◌∙◌, arith}
use Rattle.std.proofs.lemmas.List.{length-take, length-reverse, reverse-reverse}
use mathlib.Core.List.{reverse_aux}
use Rattle.vg_shape.proofs.Lists.{apart}
use Rattle.vg_core.specs.declared.types.CoreType.{CoreType}
use Rattle.vg_core.specs.declared.value.CoreValue.{CoreValue}
use Rattle.vg_core.specs.declared.heap.Cell.{Cell}
use Rattle.vg_core.specs.declared.program.Tables.{Tables}
use Rattle.vg_core.specs.State.{is_of, are_of, onto}

and_false : (b : Bool) → (b && false) ≡ false
and_false true = refl
and_false false = refl

and_true : (b : Bool) → (b && true) ≡ b
and_true true = refl
and_true false = refl

turn : (a b c : Bool) → (a && (b && c)) ≡ ((b && a) && c)
turn true b c = ap (λ z. z && c) (sym (and_true b))
turn false b c = sym (ap (λ z. z && c) (and_false b))

-- values beside types the other way round, with others behind them
both_onto : (p : Tables) (cells : List Cell) (ts : List CoreType) (vs : List CoreValue) (us : List CoreType) (ws : List CoreValue)
    → length ts ≡ length vs → are_of p cells (onto ts us) (onto vs ws) ≡ (are_of p cells ts vs && are_of p cells us ws)
both_onto p cells [] [] us ws e = refl
both_onto p cells [] (v ∷ vs) us ws e = cc
both_onto p cells (t ∷ ts) [] us ws e = cc
both_onto p cells (t ∷ ts) (v ∷ vs) us ws e =
    let less : length ts ≡ length vs = omega (arith, e) in
    both_onto p cells ts vs (t ∷ us) (v ∷ ws) less ∙ turn (are_of p cells ts vs) (is_of p cells t v) (are_of p cells us ws)

onto_aux : {A : Type 0} (xs ys : List A) → onto xs ys ≡ reverse_aux xs ys
onto_aux [] ys = refl
onto_aux (x ∷ xs) ys = onto_aux xs (x ∷ ys)

onto_is : {A : Type 0} (xs : List A) → onto xs [] ≡ reverse xs
onto_is xs = onto_aux xs []

-- the newest values, in their order, beside the types of the parameters
pub turned : (p : Tables) (cells : List Cell) (ts : List CoreType) (count : ℕ) (arguments waiting : List CoreValue) → length ts ≡ count
    → length arguments ≡ count → arguments ≡ reverse (take count waiting)
    → are_of p cells ts arguments ≡ ((length ts == count) && are_of p cells (onto ts []) (take count waiting))
turned p cells ts count arguments waiting e few is =
    let back : onto arguments [] ≡ take count waiting = onto_is arguments ∙ ap reverse is ∙ reverse-reverse (take count waiting) in
    sym (ap (λ b. b && are_of p cells (onto ts []) (take count waiting)) (same_is (length ts) count e)
    ∙ ap (are_of p cells (onto ts [])) (sym back)
    ∙ both_onto p cells ts arguments [] [] (e ∙ sym few) ∙ and_true (are_of p cells ts arguments))
  where
    same_is : (m n : ℕ) → m ≡ n → (m == n) ≡ true
    same_is m n e = grind (arith, e)

-- too few values wait
pub too_few : (p : Tables) (cells : List Cell) (ts : List CoreType) (count : ℕ) (waiting : List CoreValue) → length ts ≡ count → length waiting < count
    → false ≡ ((length ts == count) && are_of p cells (onto ts []) (take count waiting))
too_few p cells ts count waiting e h =
    let long : length (onto ts []) ≡ count = ap length (onto_is ts) ∙ length-reverse ts ∙ e in
    let short : length (take count waiting) ≡ length waiting = length-take count waiting ∙ omega (arith, h) in
    let ne : length (onto ts []) ≢ length (take count waiting) = λ same. omega (arith, same, long, short, h) in
    sym (ap (λ b. (length ts == count) && b) (apart p cells (onto ts []) (take count waiting) ne) ∙ and_false (length ts == count))
