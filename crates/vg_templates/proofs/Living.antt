-- Where marks serve, a local is live at each place that needs it; and one that is wanted back lasts.
use Rattle.std.proofs.Common.{◌≡◌, ℕ, zero, suc, ◌+◌, Bool, true, false, not, ◌&&◌, ◌||◌, List, [], ◌∷◌, Some, None, slice_get, refl, sym, subst, arith}
use Rattle.vg_lin.specs.declared.instr.Instr.{Instr}
use Rattle.vg_templates.specs.Living.{needs, leads_to, mark, needs_at, marks_of, serve, is_live_by, is_live, wants_back, any_wants_back, lasts}

first_of : (a b : Bool) → (a && b) ≡ true → a ≡ true
first_of true b e = refl
first_of false b e = e

second_of : (a b : Bool) → (a && b) ≡ true → b ≡ true
second_of true b e = e
second_of false b e = absurd (let clash : false ≡ true = e in cc)

is_marked : (a b : Bool) → (a || not b) ≡ true → b ≡ true → a ≡ true
is_marked true b e f = refl
is_marked false true e f = absurd (let clash : false ≡ true = e in cc)
is_marked false false e f = absurd (let clash : false ≡ true = f in cc)

or_first : (a b : Bool) → a ≡ true → (a || b) ≡ true
or_first true b e = refl
or_first false b e = absurd (let clash : false ≡ true = e in cc)

or_second : (a b : Bool) → b ≡ true → (a || b) ≡ true
or_second true b e = refl
or_second false b e = e

some_same : (i j : Instr) → Some i ≡ Some j → i ≡ j
some_same i j e = cc

module _ (ms : List Bool) (k : ℕ) where
  marked_there : (from : ℕ) (is : List Instr) (j : ℕ) (i : Instr) → serve ms k from is ≡ true → slice_get is j ≡ Some i → needs_at ms k (from + j) i ≡ true
      → mark ms (from + j) ≡ true
  marked_there from [] j i h got need = absurd (let clash : None ≡ Some i = got in cc)
  marked_there from (x ∷ xs) zero i h got need =
      let same : i ≡ x = sym (some_same x i got) in
      let here : from + 0 ≡ from = omega arith in
      let need' : needs_at ms k from x ≡ true = subst (λ y. needs_at ms k from y ≡ true) same (subst (λ n. needs_at ms k n i ≡ true) here need) in
      subst (λ n. mark ms n ≡ true) (sym here)
      (is_marked (mark ms from) (needs_at ms k from x) (first_of (mark ms from || not (needs_at ms k from x)) (serve ms k (suc from) xs) h) need')
  marked_there from (x ∷ xs) (suc j) i h got need =
      let next : from + suc j ≡ suc from + j = omega arith in
      subst (λ n. mark ms n ≡ true) (sym next)
      (marked_there (suc from) xs j i (second_of (mark ms from || not (needs_at ms k from x)) (serve ms k (suc from) xs) h) got
      (subst (λ n. needs_at ms k n i ≡ true) next need))

pub live_where_needed : (is : List Instr) (k pc : ℕ) (i : Instr) → slice_get is pc ≡ Some i
    → needs (is_live is k (suc pc)) (is_live is k (leads_to pc i)) k i ≡ true → is_live is k pc ≡ true
live_where_needed is k pc i got need = by_marks (serve ms k 0 is) refl need
  where
    ms : List Bool
    ms = marks_of is k

    by_marks : (b : Bool) → serve ms k 0 is ≡ b → needs (is_live_by b ms (suc pc)) (is_live_by b ms (leads_to pc i)) k i ≡ true → is_live_by b ms pc ≡ true
    by_marks false e h = refl
    by_marks true e h =
        let here : pc ≡ 0 + pc = omega arith in
        subst (λ n. mark ms n ≡ true) (sym here) (marked_there ms k 0 is pc i e got (subst (λ n. needs_at ms k n i ≡ true) here h))

wanted_there : (live : ℕ → Bool) (k from : ℕ) (is : List Instr) (j : ℕ) (i : Instr) → slice_get is j ≡ Some i → wants_back (live (suc (from + j))) k i ≡ true
    → any_wants_back live k from is ≡ true
wanted_there live k from [] j i got want = absurd (let clash : None ≡ Some i = got in cc)
wanted_there live k from (x ∷ xs) zero i got want =
    let same : i ≡ x = sym (some_same x i got) in
    let here : from + 0 ≡ from = omega arith in
    or_first (wants_back (live (suc from)) k x) (any_wants_back live k (suc from) xs)
    (subst (λ y. wants_back (live (suc from)) k y ≡ true) same (subst (λ n. wants_back (live (suc n)) k i ≡ true) here want))
wanted_there live k from (x ∷ xs) (suc j) i got want =
    let next : from + suc j ≡ suc from + j = omega arith in
    or_second (wants_back (live (suc from)) k x) (any_wants_back live k (suc from) xs)
    (wanted_there live k (suc from) xs j i got (subst (λ n. wants_back (live (suc n)) k i ≡ true) next want))

pub lasts_where_wanted : (is : List Instr) (k pc : ℕ) (i : Instr) → slice_get is pc ≡ Some i → wants_back (is_live is k (suc pc)) k i ≡ true → lasts is k ≡ true
lasts_where_wanted is k pc i got want =
    let here : pc ≡ 0 + pc = omega arith in
    wanted_there (is_live is k) k 0 is pc i got (subst (λ n. wants_back (is_live is k (suc n)) k i ≡ true) here want)
