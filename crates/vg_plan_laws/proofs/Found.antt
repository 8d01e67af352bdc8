-- What live objects find, by the cases of dispatches.
use Rattle.std.proofs.Common.{◌≡◌, ◌⊎◌, refl, sym, ap, subst, ◌∙◌, arith, ℕ, zero, suc, ◌+◌, ◌<◌, ◌==◌, ◌&&◌, ◌||◌, not, Bool, true, false, List, [], ◌∷◌, ◌++◌}
use Rattle.std.proofs.Common.{length, map, get_or, Option, Some, None, slice_get, if◌then◌else◌}
use Rattle.std.proofs.lemmas.Option.{same_Some, none-some}
use mathlib.Core.Logic.{inl, inr}
use Rattle.vg_codes.specs.declared.case.Case.{Case}
use Rattle.vg_core.specs.declared.program.Class.{Class}
use Rattle.vg_core.specs.declared.program.Tables.{Tables}
use Rattle.vg_core.specs.declared.step.Step.{Step}
use Rattle.vg_core.specs.Heap.{Kind, ObjectOf, ArrayOf}
use Rattle.vg_core.specs.Tables.{is_below}
use Rattle.vg_firm.specs.Session.{is_among}
use Rattle.vg_live.specs.Uses.{asked}
use Rattle.vg_live.specs.Uses as uses
use Rattle.vg_number.specs.declared.numbers.Numbers.{Numbers}
use Rattle.vg_number.specs.Counting.{is_object_of, own_before}
use Rattle.vg_numbers.specs.Numbers.{one_if}
use Rattle.vg_pack_calls.specs.Asked.{is_there, with_pair, with_asked, asked_from}
use Rattle.vg_pack_calls.specs.Cases.{procedure_in, case_with, case_of, cases_from}
use Rattle.vg_pack_code.specs.declared.plan.Asked.{Asked}
use Rattle.vg_pack_code.specs.declared.plan.Plan.{Plan}
use Rattle.vg_pack_code.specs.Plans.{first_by, place_of}
use Rattle.vg_plan_uses.specs.Sets as sets
use Rattle.vg_plan_laws.proofs.Among.{split, in_left, in_right, one_is, one_among}

no_clash : {A : Type 0} → false ≡ true → A
no_clash e = absurd (grind (arith, e))

-- ---- pairs that are asked for

pub there_place : (xs : List Asked) (c s : ℕ) → is_there xs c s ≡ true → (a : Asked) × (slice_get xs (place_of xs c s) ≡ Some a) × (a.class ≡ c) × (a.selector ≡ s)
there_place [] c s e = no_clash e
there_place (a ∷ rest) c s e = by ((a.class == c) && (a.selector == s)) refl (there_place rest c s) e
  where
    both : (x y : Bool) → (x && y) ≡ true → (x ≡ true) × (y ≡ true)
    both true true t = (refl, refl)
    both true false t = no_clash t
    both false y t = no_clash t

    by : (b : Bool) → ((a.class == c) && (a.selector == s)) ≡ b
        → (is_there rest c s ≡ true → (z : Asked) × (slice_get rest (place_of rest c s) ≡ Some z) × (z.class ≡ c) × (z.selector ≡ s))
        → (b || is_there rest c s) ≡ true → (z : Asked) × (slice_get (a ∷ rest) (if b then 0 else 1 + place_of rest c s) ≡ Some z) × (z.class ≡ c) × (z.selector ≡ s)
    by true q later t =
        let w = both (a.class == c) (a.selector == s) q in let u = w.0 in let v = w.1 in (a, refl, grind (arith, u), grind (arith, v))
    by false q later t =
        let r = later t in let z : 1 + place_of rest c s ≡ suc (place_of rest c s) = omega arith in
        (r.0, ap (slice_get (a ∷ rest)) z ∙ r.1, r.2, r.3)

there_append : (xs ys : List Asked) (c s : ℕ) → is_there xs c s ≡ true → is_there (xs ++ ys) c s ≡ true
there_append [] ys c s e = no_clash e
there_append (a ∷ xs) ys c s e = by ((a.class == c) && (a.selector == s)) (there_append xs ys c s) e
  where
    by : (b : Bool) → (is_there xs c s ≡ true → is_there (xs ++ ys) c s ≡ true) → (b || is_there xs c s) ≡ true → (b || is_there (xs ++ ys) c s) ≡ true
    by true rest t = refl
    by false rest t = rest t

there_last : (xs : List Asked) (c s : ℕ) → is_there (xs ++ record { class = c; selector = s } ∷ []) c s ≡ true
there_last [] c s =
    let a : (c == c) ≡ true = grind arith in let b : (s == s) ≡ true = grind arith in
    ap (λ z. (z && (s == s)) || false) a ∙ ap (λ z. z || false) b
there_last (x ∷ xs) c s = by ((x.class == c) && (x.selector == s)) (there_last xs c s)
  where
    by : (b : Bool) → is_there (xs ++ record { class = c; selector = s } ∷ []) c s ≡ true
        → (b || is_there (xs ++ record { class = c; selector = s } ∷ []) c s) ≡ true
    by true rest = refl
    by false rest = rest

pair_stays : (xs : List Asked) (c s c1 s1 : ℕ) → is_there xs c s ≡ true → is_there (with_pair xs c1 s1) c s ≡ true
pair_stays xs c s c1 s1 e = by (is_there xs c1 s1)
  where
    by : (b : Bool) → is_there (if b then xs else xs ++ record { class = c1; selector = s1 } ∷ []) c s ≡ true
    by true = e
    by false = there_append xs _ c s e

pair_there : (xs : List Asked) (c s : ℕ) → is_there (with_pair xs c s) c s ≡ true
pair_there xs c s = by (is_there xs c s) refl
  where
    by : (b : Bool) → is_there xs c s ≡ b → is_there (if b then xs else xs ++ record { class = c; selector = s } ∷ []) c s ≡ true
    by true q = q
    by false q = there_last xs c s

asked_stays : (xs : List Asked) (o : Option uses.Asked) (c s : ℕ) → is_there xs c s ≡ true → is_there (with_asked xs o) c s ≡ true
asked_stays xs None c s e = e
asked_stays xs (Some a) c s e = pair_stays xs c s a.class a.selector e

all_stay : (xs : List Asked) (ss : List Step) (c s : ℕ) → is_there xs c s ≡ true → is_there (asked_from xs ss) c s ≡ true
all_stay xs [] c s e = e
all_stay xs (st ∷ ss) c s e = all_stay (with_asked xs (asked st)) ss c s (asked_stays xs (asked st) c s e)

pub asked_there : (xs : List Asked) (ss : List Step) (i : ℕ) (st : Step) (a : uses.Asked) → slice_get ss i ≡ Some st → asked st ≡ Some a
    → is_there (asked_from xs ss) a.class a.selector ≡ true
asked_there xs [] i st a e q = absurd (none-some st e)
asked_there xs (z ∷ ss) zero st a e q =
    all_stay (with_asked xs (asked z)) ss a.class a.selector
    (subst (λ w. is_there (with_asked xs w) a.class a.selector ≡ true) (sym (ap asked (same_Some z st e) ∙ q)) (pair_there xs a.class a.selector))
asked_there xs (z ∷ ss) (suc i) st a e q = asked_there (with_asked xs (asked z)) ss i st a e q

-- ---- own objects

pub own_some : (d : ℕ) (kept : ℕ → Bool) (at : ℕ) (κ : List Kind) (n : ℕ) → 0 < own_before d kept at κ n
    → (j : ℕ) × (slice_get κ j ≡ Some (ObjectOf d)) × (kept (at + j) ≡ true)
own_some d kept at [] n pos = absurd (omega (arith, pos))
own_some d kept at (a ∷ κ) zero pos = absurd (omega (arith, pos))
own_some d kept at (a ∷ κ) (suc n) pos =
    by a (kept at) refl refl
    (λ p. let r = own_some d kept (suc at) κ n p in let z : suc at + r.0 ≡ at + suc r.0 = omega arith in (suc r.0, r.1, subst (λ w. kept w ≡ true) z r.2)) pos
  where
    Later : Type 0
    Later = 0 < own_before d kept (suc at) κ n → (j : ℕ) × (slice_get (a ∷ κ) j ≡ Some (ObjectOf d)) × (kept (at + j) ≡ true)

    here : (c : ℕ) (b : Bool) → (c == d) ≡ b → a ≡ ObjectOf c → kept at ≡ true → Later → 0 < one_if b + own_before d kept (suc at) κ n
        → (j : ℕ) × (slice_get (a ∷ κ) j ≡ Some (ObjectOf d)) × (kept (at + j) ≡ true)
    here c true q ea k later p =
        let cd : c ≡ d = grind (arith, q) in let z : at ≡ at + 0 = omega arith in (0, ap (λ w. Some w) (ea ∙ ap ObjectOf cd), subst (λ w. kept w ≡ true) z k)
    here c false q ea k later p = later (omega (arith, p))

    by : (b : Kind) (k : Bool) → a ≡ b → kept at ≡ k → Later → 0 < one_if (k && is_object_of d b) + own_before d kept (suc at) κ n
        → (j : ℕ) × (slice_get (a ∷ κ) j ≡ Some (ObjectOf d)) × (kept (at + j) ≡ true)
    by (ObjectOf c) true ea ek later p = here c (c == d) refl ea ek later p
    by (ArrayOf t size) true ea ek later p = later (omega (arith, p))
    by b false ea ek later p = later (omega (arith, p))

pub own_pos : (d : ℕ) (kept : ℕ → Bool) (at : ℕ) (κ : List Kind) (j : ℕ) → slice_get κ j ≡ Some (ObjectOf d) → kept (at + j) ≡ true
    → 0 < own_before d kept at κ (length κ)
own_pos d kept at [] j e k = absurd (none-some (ObjectOf d) e)
own_pos d kept at (a ∷ κ) zero e k =
    let z : at + 0 ≡ at = omega arith in
    let q : (kept at && is_object_of d a) ≡ true =
    ap (λ b. b && is_object_of d a) (sym (ap kept z) ∙ k) ∙ (ap (is_object_of d) (same_Some a (ObjectOf d) e) ∙ (let s : (d == d) ≡ true = grind arith in s)) in
    let o = ap one_if q in omega (arith, o)
own_pos d kept at (a ∷ κ) (suc j) e k =
    let z : at + suc j ≡ suc at + j = omega arith in
    let h = own_pos d kept (suc at) κ j e (subst (λ w. kept w ≡ true) z k) in omega (arith, h)

-- ---- cases

module _ (p : Tables) (n : Numbers) (x : Plan) (own : List ℕ) (a : Asked) where
  -- a class whose own objects find the procedure
  pub record Finds_ (d q : ℕ) : Type 0 where
    pub own_ : 0 < get_or own d 0
    pub below : is_below p d a.class ≡ true
    pub found : procedure_in p x d a.selector ≡ Some q

  case_split : (d q : ℕ) → is_among (map sets.procedure_in (case_of p n x own a d)) q ≡ true → Finds_ d q
  case_split d q e = by ((get_or own d 0 == 0) || not (is_below p d a.class)) refl e
    where
      with_it : (o : Option ℕ) → is_among (map sets.procedure_in (case_with (first_by n.spans d) (get_or own d 0) o)) q ≡ true → o ≡ Some q
      with_it None t = no_clash t
      with_it (Some r) t = one_is (Some r) q t

      neither : (u v : Bool) → (u || not v) ≡ false → (u ≡ false) × (v ≡ true)
      neither true v t = no_clash (sym t)
      neither false true t = (refl, refl)
      neither false false t = no_clash (sym t)

      by : (b : Bool) → ((get_or own d 0 == 0) || not (is_below p d a.class)) ≡ b
          → is_among (map sets.procedure_in (if b then [] else case_with (first_by n.spans d) (get_or own d 0) (procedure_in p x d a.selector))) q ≡ true
          → Finds_ d q
      by true r t = no_clash t
      by false r t =
          let w = neither (get_or own d 0 == 0) (is_below p d a.class) r in let z = w.0 in
          record { own_ = not_zero (get_or own d 0) z; below = w.1; found = with_it (procedure_in p x d a.selector) t }
        where
          not_zero : (m : ℕ) → (m == 0) ≡ false → 0 < m
          not_zero zero f = no_clash (sym f)
          not_zero (suc m) f = omega arith

  case_join : (d q : ℕ) → 0 < get_or own d 0 → is_below p d a.class ≡ true → procedure_in p x d a.selector ≡ Some q
      → is_among (map sets.procedure_in (case_of p n x own a d)) q ≡ true
  case_join d q pos b f =
      let z : (get_or own d 0 == 0) ≡ false = positive (get_or own d 0) pos in
      ap (λ w. is_among (map sets.procedure_in (if w || not (is_below p d a.class) then [] else case_with (first_by n.spans d) (get_or own d 0) (procedure_in p x d a.selector))) q) z
      ∙ (ap (λ w. is_among (map sets.procedure_in (if false || not w then [] else case_with (first_by n.spans d) (get_or own d 0) (procedure_in p x d a.selector))) q) b
      ∙ (ap (λ w. is_among (map sets.procedure_in (case_with (first_by n.spans d) (get_or own d 0) w)) q) f ∙ one_among (Some q) q refl))
    where
      positive : (m : ℕ) → 0 < m → (m == 0) ≡ false
      positive m lt = grind (arith, lt)

  map_append : (xs ys : List Case) → map sets.procedure_in (xs ++ ys) ≡ map sets.procedure_in xs ++ map sets.procedure_in ys
  map_append [] ys = refl
  map_append (c ∷ xs) ys = ap (λ z. c.procedure ∷ z) (map_append xs ys)

  pub cases_split : (c : ℕ) (ks : List Class) (q : ℕ) → is_among (map sets.procedure_in (cases_from p n x own a c ks)) q ≡ true
      → (i : ℕ) × (i < length ks) × Finds_ (i + c) q
  cases_split c [] q e = no_clash e
  cases_split c (k ∷ ks) q e =
      by (cases_split (suc c) ks q)
      (split (map sets.procedure_in (case_of p n x own a c)) _ q (sym (ap (λ z. is_among z q) (map_append (case_of p n x own a c) (cases_from p n x own a (suc c) ks))) ∙ e))
    where
      by : (is_among (map sets.procedure_in (cases_from p n x own a (suc c) ks)) q ≡ true → (i : ℕ) × (i < length ks) × Finds_ (i + suc c) q)
          → (is_among (map sets.procedure_in (case_of p n x own a c)) q ≡ true)
          ⊎ (is_among (map sets.procedure_in (cases_from p n x own a (suc c) ks)) q ≡ true) → (i : ℕ) × (i < length (k ∷ ks)) × Finds_ (i + c) q
      by later (inl t) = let z : c ≡ 0 + c = omega arith in (0, omega arith, subst (λ w. Finds_ w q) z (case_split c q t))
      by later (inr t) =
          let r = later t in let lt = r.1 in let z : r.0 + suc c ≡ suc r.0 + c = omega arith in
          (suc r.0, omega (arith, lt), subst (λ w. Finds_ w q) z r.2)

  pub cases_join : (c : ℕ) (ks : List Class) (i q : ℕ) → i < length ks → 0 < get_or own (i + c) 0 → is_below p (i + c) a.class ≡ true
      → procedure_in p x (i + c) a.selector ≡ Some q → is_among (map sets.procedure_in (cases_from p n x own a c ks)) q ≡ true
  cases_join c [] i q lt pos b f = absurd (omega (arith, lt))
  cases_join c (k ∷ ks) zero q lt pos b f =
      let z : 0 + c ≡ c = omega arith in
      ap (λ w. is_among w q) (map_append (case_of p n x own a c) (cases_from p n x own a (suc c) ks))
      ∙ in_left (map sets.procedure_in (case_of p n x own a c)) _ q
      (case_join c q (subst (λ w. 0 < get_or own w 0) z pos) (subst (λ w. is_below p w a.class ≡ true) z b)
      (subst (λ w. procedure_in p x w a.selector ≡ Some q) z f))
  cases_join c (k ∷ ks) (suc i) q lt pos b f =
      let z : suc i + c ≡ i + suc c = omega arith in
      ap (λ w. is_among w q) (map_append (case_of p n x own a c) (cases_from p n x own a (suc c) ks))
      ∙ in_right (map sets.procedure_in (case_of p n x own a c)) _ q
      (cases_join (suc c) ks i q (omega (arith, lt)) (subst (λ w. 0 < get_or own w 0) z pos) (subst (λ w. is_below p w a.class ≡ true) z b)
      (subst (λ w. procedure_in p x w a.selector ≡ Some q) z f))
