-- The case that has an object's number.
use Rattle.std.proofs.Common.{◌≡◌, refl, sym, ap, subst, ◌∙◌, arith, ℕ, zero, suc, ◌+◌, ◌-◌, ◌<◌, ◌≤◌, ◌==◌, ◌&&◌, ◌||◌, not, Bool, true, false}
use Rattle.std.proofs.Common.{nat_le, nat_lt, List, [], ◌∷◌, ◌++◌, length, map, get_or, Option, Some, None, slice_get, if◌then◌else◌}
use Rattle.std.proofs.lemmas.Option.{slice_get_within, get_or_from_slice_get}
use Rattle.vg_codes.specs.declared.case.Case.{Case}
use Rattle.vg_codes.specs.Dispatch.{is_within, procedure_for, dispatched}
use Rattle.vg_codes.specs.Dispatch as codes
use Rattle.vg_core.specs.declared.program.Class.{Class}
use Rattle.vg_core.specs.declared.program.Tables.{Tables}
use Rattle.vg_core.specs.Heap.{Kind, ObjectOf}
use Rattle.vg_core.specs.Tables.{is_in, above_in, is_below, last_from, last_of, top, both_same, one_hierarchy, dispatch}
use Rattle.vg_core.specs.Typing.{WellFormed}
use Rattle.vg_live.specs.Sets.{flat}
use Rattle.vg_numbers.specs.Numbers.{AreChains, number, first}
use Rattle.vg_numbers.proofs.Numbers.{one_object}
use Rattle.vg_number.specs.declared.numbers.Numbers.{Numbers}
use Rattle.vg_number.specs.Counting.{own_before, AreOwn}
use Rattle.vg_number.specs.Numbering.{IsNumbering}
use Rattle.vg_number.proofs.Own.{number_own}
use Rattle.vg_pack_code.specs.declared.plan.Asked.{Asked}
use Rattle.vg_pack_code.specs.declared.plan.Plan.{Plan}
use Rattle.vg_pack_code.specs.Plans.{first_in, first_by, place_of}
use Rattle.vg_pack_calls.specs.Asked.{is_there}
use Rattle.vg_pack_calls.specs.Cases.{procedure_in, procedure_of, case_with, case_of, cases_from, cases_of}
use Rattle.vg_packed.proofs.Own.{Own, own_less, own_there}

false_true : {B : Type 0} → false ≡ true → B
false_true e = absurd cc

none_some : {A B : Type 0} (a : A) → None ≡ Some a → B
none_some a e = absurd cc

-- ---- classes

-- a class that is below one is there, and has a top
there : (p : Tables) (d c : ℕ) → is_below p d c ≡ true → (k : Class) × (slice_get p.classes d ≡ Some k)
there p d c e = by (slice_get p.classes d) refl e
  where
    by : (o : Option Class) → slice_get p.classes d ≡ o → is_in (above_in o) c ≡ true → (k : Class) × (slice_get p.classes d ≡ Some k)
    by None q h = false_true h
    by (Some k) q h = (k, q)

has_last : (ms : List ℕ) (c : ℕ) → is_in ms c ≡ true → both_same (last_of ms) (last_of ms) ≡ true
has_last [] c e = false_true e
has_last (m ∷ ms) c e = let z : (last_from m ms == last_from m ms) ≡ true = grind arith in z

-- a class is of one hierarchy with those above it, and with what else is below them
pub below_one : (p : Tables) → WellFormed p → (d c : ℕ) → is_below p d c ≡ true → one_hierarchy p d c ≡ true
below_one p formed d c b = ap (both_same (top p d)) (sym (formed.one_top d c b)) ∙ has_last (above_in (slice_get p.classes d)) c b

one_of : (p : Tables) → WellFormed p → (d e c : ℕ) → is_below p d c ≡ true → is_below p e c ≡ true → one_hierarchy p d e ≡ true
one_of p formed d e c bd be =
    ap (both_same (top p d)) (formed.one_top e c be ∙ sym (formed.one_top d c bd)) ∙ has_last (above_in (slice_get p.classes d)) c bd

-- ---- intervals

within : (f c n : ℕ) → f ≤ n → n < f + c → is_within f c n ≡ true
within f c n a b = let x : nat_le f n ≡ true = grind (arith, a) in let y : nat_lt n (f + c) ≡ true = grind (arith, b) in
    ap (λ z. z && nat_lt n (f + c)) x ∙ y

both : (a b : Bool) → (a && b) ≡ true → (a ≡ true) × (b ≡ true)
both true true e = (refl, refl)
both true false e = false_true e
both false b e = false_true e

pub from_within : (f c n : ℕ) → is_within f c n ≡ true → (f ≤ n) × (n < f + c)
from_within f c n e =
    let h = both (nat_le f n) (nat_lt n (f + c)) e in (let x = h.0 in grind (arith, x), let y = h.1 in grind (arith, y))

-- ---- the case

module _ (p : Tables) (formed : WellFormed p) (chains : AreChains p) (κ : List Kind) (kept : ℕ → Bool) (n : Numbers) (numbers : IsNumbering p κ kept n)
    (own : List ℕ) (counts : AreOwn κ kept (length p.classes) own) where
  first_is : (c : ℕ) (k : Class) → slice_get p.classes c ≡ Some k → first_by n.spans c ≡ first p κ kept c
  first_is c k e = ap first_in (numbers.spans c (slice_get_within p.classes c k e))

  own_is : (c : ℕ) (k : Class) → slice_get p.classes c ≡ Some k → get_or own c 0 ≡ own_before c kept 0 κ (length κ)
  own_is c k e = counts.counts c (slice_get_within p.classes c k e)

  number_is : (j : ℕ) (a : Kind) → slice_get κ j ≡ Some a → get_or n.of_cell j 0 ≡ number p κ kept j
  number_is j a e = get_or_from_slice_get n.of_cell j (number p κ kept j) 0 (numbers.numbers j (slice_get_within κ j a e))

  module _ (j d c : ℕ) (is : slice_get κ j ≡ Some (ObjectOf d)) (ks : kept j ≡ true) (below : is_below p d c ≡ true) where
    its : (k : Class) × (slice_get p.classes d ≡ Some k)
    its = there p d c below

    stands : number p κ kept j ≡ first p κ kept d + own_before d kept 0 κ j
    stands = number_own p chains κ kept j d its.0 its.1 is ks

    less : own_before d kept 0 κ j < get_or own d 0
    less =
        let a = own_less d kept 0 κ j is (ap kept (omega arith) ∙ ks) in let b = own_is d its.0 its.1 in omega (arith, a, b)

    -- the case of its class has it
    has : is_within (first_by n.spans d) (get_or own d 0) (get_or n.of_cell j 0) ≡ true
    has =
        let a = number_is j (ObjectOf d) is in let b = first_is d its.0 its.1 in let s = stands in let l = less in
        within (first_by n.spans d) (get_or own d 0) (get_or n.of_cell j 0) (omega (arith, a, b, s)) (omega (arith, a, b, s, l))

    -- and no other case of a class below
    alone : (e : ℕ) → is_below p e c ≡ true → is_within (first_by n.spans e) (get_or own e 0) (get_or n.of_cell j 0) ≡ true → e ≡ d
    alone e be w =
        let k = there p e c be in
        let f = from_within (first_by n.spans e) (get_or own e 0) (get_or n.of_cell j 0) w in
        let f0 = f.0 in let f1 = f.1 in
        let a = number_is j (ObjectOf d) is in let b = first_is e k.0 k.1 in let o = own_is e k.0 k.1 in
        same (number p κ kept j - first p κ kept e) (own_there e kept 0 κ (number p κ kept j - first p κ kept e) (omega (arith, f0, f1, a, b, o)))
        (omega (arith, f0, a, b)) k.0 k.1
      where
        of_cell : (i : ℕ) → i ≡ j → slice_get κ i ≡ Some (ObjectOf e) → e ≡ d
        of_cell i q h = let clash : Some (ObjectOf e) ≡ Some (ObjectOf d) = sym h ∙ (ap (slice_get κ) q ∙ is) in cc

        same : (m : ℕ) → Own e kept 0 κ m → first p κ kept e + m ≡ number p κ kept j → (k : Class) → slice_get p.classes e ≡ Some k → e ≡ d
        same m o q k ek =
            let ki : kept o.cell ≡ true = ap kept (omega arith) ∙ o.kept_ in
            let s = number_own p chains κ kept o.cell e k ek o.is ki in
            let b = o.before in
            of_cell o.cell (one_object p κ kept o.cell j e d o.is is ki ks (one_of p formed e d c be below) (omega (arith, s, b, q))) o.is

    module _ (x : Plan) (s m q : ℕ) (found : dispatch p d s ≡ Some m) (procedure : flat (slice_get x.procedures m) ≡ Some q) (a : Asked)
        (ac : a.class ≡ c) (as_ : a.selector ≡ s) where
      abbrev Chosen : List Case → Type 0
      Chosen cs = procedure_for cs (get_or n.of_cell j 0) ≡ Some q

      here : (rest : List Case) → Chosen (case_of p n x own a d ++ rest)
      here rest =
          subst (λ o. Chosen (o ++ rest)) (sym case_is)
          (ap (λ b. if b then Some q else procedure_for rest (get_or n.of_cell j 0)) has)
        where
          not_none : (get_or own d 0 == 0) ≡ false
          not_none = let l = less in grind (arith, l)

          its_procedure : procedure_in p x d a.selector ≡ Some q
          its_procedure = ap (λ z. procedure_of x (dispatch p d z)) as_ ∙ (ap (procedure_of x) found ∙ procedure)

          case_is : case_of p n x own a d ≡ record { first = first_by n.spans d; count = get_or own d 0; procedure = q } ∷ []
          case_is =
              ap (λ b. if b || not (is_below p d a.class) then [] else case_with (first_by n.spans d) (get_or own d 0) (procedure_in p x d a.selector)) not_none
              ∙ (ap (λ b. if not b then [] else case_with (first_by n.spans d) (get_or own d 0) (procedure_in p x d a.selector)) (ap (is_below p d) ac ∙ below)
              ∙ ap (case_with (first_by n.spans d) (get_or own d 0)) its_procedure)

      passed : (e : ℕ) → ((e ≡ d) → ⊥) → (rest : List Case) → Chosen rest → Chosen (case_of p n x own a e ++ rest)
      passed e other rest h = by (get_or own e 0 == 0) (is_below p e a.class) refl (procedure_in p x e a.selector)
        where
          over : (r : ℕ) (b : Bool) → is_within (first_by n.spans e) (get_or own e 0) (get_or n.of_cell j 0) ≡ b → is_below p e a.class ≡ true
              → Chosen (record { first = first_by n.spans e; count = get_or own e 0; procedure = r } ∷ rest)
          over r true w be = absurd (other (alone e (sym (ap (is_below p e) ac) ∙ be) w))
          over r false w be = ap (λ b. if b then Some r else procedure_for rest (get_or n.of_cell j 0)) w ∙ h

          by : (b f : Bool) → is_below p e a.class ≡ f → (o : Option ℕ)
              → Chosen ((if b || not f then [] else case_with (first_by n.spans e) (get_or own e 0) o) ++ rest)
          by true f ef o = h
          by false false ef o = h
          by false true ef None = h
          by false true ef (Some r) = over r (is_within (first_by n.spans e) (get_or own e 0) (get_or n.of_cell j 0)) refl ef

      chosen : (e : ℕ) (classes : List Class) (i : ℕ) → i < length classes → i + e ≡ d → Chosen (cases_from p n x own a e classes)
      chosen e [] i lt q = absurd (omega (arith, lt))
      chosen e (k ∷ classes) zero lt q =
          let z : d ≡ e = omega (arith, q) in
          subst (λ y. Chosen (case_of p n x own a y ++ cases_from p n x own a (suc e) classes)) z (here (cases_from p n x own a (suc e) classes))
      chosen e (k ∷ classes) (suc i) lt q =
          passed e (λ z. omega (arith, z, q)) (cases_from p n x own a (suc e) classes) (chosen (suc e) classes i (omega (arith, lt)) (omega (arith, q)))

      pub in_its_cases : Chosen (cases_of p n x own a)
      in_its_cases = let lt = slice_get_within p.classes d its.0 its.1 in chosen 0 p.classes d lt (omega arith)

-- ---- the dispatch

-- a pair of a class and a selector stands at a place
abbrev At : {A : Type 0} → (Asked → A) → (c s : ℕ) → List Asked → (place : ℕ) → Type 0
At f c s xs i = (a : Asked) × (slice_get (map f xs) i ≡ Some (f a)) × (a.class ≡ c) × (a.selector ≡ s)

-- where a class and a selector that are asked for stand
pub asked_at : {A : Type 0} (f : Asked → A) (xs : List Asked) (c s : ℕ) → is_there xs c s ≡ true → At f c s xs (place_of xs c s)
asked_at f [] c s e = false_true e
asked_at {A} f (a ∷ xs) c s e = by (asked_at f xs c s) ((a.class == c) && (a.selector == s)) refl e
  where
    onward : (i : ℕ) → slice_get (map f (a ∷ xs)) (1 + i) ≡ slice_get (map f xs) i
    onward i = let z : 1 + i ≡ suc i = omega arith in ap (slice_get (map f (a ∷ xs))) z

    by : (is_there xs c s ≡ true → At f c s xs (place_of xs c s)) → (b : Bool) → ((a.class == c) && (a.selector == s)) ≡ b → (b || is_there xs c s) ≡ true
        → At f c s (a ∷ xs) (if b then 0 else 1 + place_of xs c s)
    by again true q h = let g = both (a.class == c) (a.selector == s) q in let u = g.0 in let v = g.1 in (a, refl, grind (arith, u), grind (arith, v))
    by again false q h = let r = again h in (r.0, onward (place_of xs c s) ∙ r.1, r.2, r.3)

pub in_its_dispatch : (p : Tables) → WellFormed p → AreChains p → (κ : List Kind) (kept : ℕ → Bool) (n : Numbers) → IsNumbering p κ kept n
    → (own : List ℕ) → AreOwn κ kept (length p.classes) own → (x : Plan) (c s j d m q : ℕ) → is_there x.asked c s ≡ true
    → slice_get κ j ≡ Some (ObjectOf d) → kept j ≡ true → is_below p d c ≡ true → dispatch p d s ≡ Some m
    → flat (slice_get x.procedures m) ≡ Some q
    → dispatched (map (cases_of p n x own) x.asked) (place_of x.asked c s) (get_or n.of_cell j 0) ≡ Some q
in_its_dispatch p formed chains κ kept n numbers own counts x c s j d m q asked is ks below found procedure =
    let a = asked_at (cases_of p n x own) x.asked c s asked in
    ap (λ o. procedure_for (codes.cases_of o) (get_or n.of_cell j 0)) a.1
    ∙ in_its_cases p formed chains κ kept n numbers own counts j d c is ks below x s m q found procedure a.0 a.2 a.3
