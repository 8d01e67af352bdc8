-- What is among lists of procedures.
use Rattle.std.proofs.Common.{◌≡◌, ◌⊎◌, refl, sym, ap, subst, ◌∙◌, arith, ℕ, zero, suc, ◌+◌, ◌<◌, ◌≤◌, ◌==◌, ◌&&◌, not, nat_lt, Bool, true, false, List, [], ◌∷◌, ◌++◌}
use Rattle.std.proofs.Common.{length, Option, Some, None, slice_get, if◌then◌else◌}
use Rattle.std.proofs.lemmas.Option.{same_Some, none-some}
use mathlib.Core.Logic.{inl, inr}
use Rattle.vg_firm.specs.Session.{is_among}
use Rattle.vg_live.specs.declared.live_set.Reason.{Reason}
use Rattle.vg_live.specs.Sets.{flat}
use Rattle.vg_pack_calls.specs.Procedures.{procedures_from}
use Rattle.vg_plan_uses.specs.Sets.{one_of, with_procedure, with_all}

-- ---- lists

no_clash : {A : Type 0} → false ≡ true → A
no_clash e = absurd (grind (arith, e))

pub split : (xs ys : List ℕ) (q : ℕ) → is_among (xs ++ ys) q ≡ true → (is_among xs q ≡ true) ⊎ (is_among ys q ≡ true)
split [] ys q e = inr e
split (x ∷ xs) ys q e = by (x == q) (split xs ys q) e
  where
    by : (b : Bool) → (is_among (xs ++ ys) q ≡ true → (is_among xs q ≡ true) ⊎ (is_among ys q ≡ true))
        → (if b then true else is_among (xs ++ ys) q) ≡ true → ((if b then true else is_among xs q) ≡ true) ⊎ (is_among ys q ≡ true)
    by true rest t = inl refl
    by false rest t = rest t

pub in_left : (xs ys : List ℕ) (q : ℕ) → is_among xs q ≡ true → is_among (xs ++ ys) q ≡ true
in_left [] ys q e = no_clash e
in_left (x ∷ xs) ys q e = by (x == q) (in_left xs ys q) e
  where
    by : (b : Bool) → (is_among xs q ≡ true → is_among (xs ++ ys) q ≡ true)
        → (if b then true else is_among xs q) ≡ true → (if b then true else is_among (xs ++ ys) q) ≡ true
    by true rest t = refl
    by false rest t = rest t

pub in_right : (xs ys : List ℕ) (q : ℕ) → is_among ys q ≡ true → is_among (xs ++ ys) q ≡ true
in_right [] ys q e = e
in_right (x ∷ xs) ys q e = by (x == q) (in_right xs ys q e)
  where
    by : (b : Bool) → is_among (xs ++ ys) q ≡ true → (if b then true else is_among (xs ++ ys) q) ≡ true
    by true rest = refl
    by false rest = rest

-- ---- sets

one_split : (room : ℕ) (qs : List ℕ) (p q : ℕ) → is_among (with_procedure room qs p) q ≡ true → (is_among qs q ≡ true) ⊎ (is_among (p ∷ []) q ≡ true)
one_split room qs p q e = by (nat_lt p room && not (is_among qs p)) e
  where
    by : (b : Bool) → is_among (if b then qs ++ p ∷ [] else qs) q ≡ true → (is_among qs q ≡ true) ⊎ (is_among (p ∷ []) q ≡ true)
    by true t = split qs (p ∷ []) q t
    by false t = inl t

one_left : (room : ℕ) (qs : List ℕ) (p q : ℕ) → is_among qs q ≡ true → is_among (with_procedure room qs p) q ≡ true
one_left room qs p q e = by (nat_lt p room && not (is_among qs p))
  where
    by : (b : Bool) → is_among (if b then qs ++ p ∷ [] else qs) q ≡ true
    by true = in_left qs (p ∷ []) q e
    by false = e

one_here : (room : ℕ) (qs : List ℕ) (p : ℕ) → p < room → is_among (with_procedure room qs p) p ≡ true
one_here room qs p lt = by (nat_lt p room) (is_among qs p) refl refl
  where
    same : is_among (p ∷ []) p ≡ true
    same = let q : (p == p) ≡ true = grind arith in ap (λ b. if b then true else false) q

    by : (a b : Bool) → nat_lt p room ≡ a → is_among qs p ≡ b → is_among (if a && not b then qs ++ p ∷ [] else qs) p ≡ true
    by true true ea eb = eb
    by true false ea eb = in_right qs (p ∷ []) p same
    by false b ea eb = no_clash (let t : nat_lt p room ≡ true = grind (arith, lt) in sym ea ∙ t)

pub with_split : (room : ℕ) (qs ps : List ℕ) (q : ℕ) → is_among (with_all room qs ps) q ≡ true → (is_among qs q ≡ true) ⊎ (is_among ps q ≡ true)
with_split room qs [] q e = inl e
with_split room qs (p ∷ ps) q e = by (with_split room (with_procedure room qs p) ps q e)
  where
    tail : is_among ps q ≡ true → is_among (p ∷ ps) q ≡ true
    tail t = in_right (p ∷ []) ps q t

    head : (is_among qs q ≡ true) ⊎ (is_among (p ∷ []) q ≡ true) → (is_among qs q ≡ true) ⊎ (is_among (p ∷ ps) q ≡ true)
    head (inl t) = inl t
    head (inr t) = inr (in_left (p ∷ []) ps q t)

    by : (is_among (with_procedure room qs p) q ≡ true) ⊎ (is_among ps q ≡ true) → (is_among qs q ≡ true) ⊎ (is_among (p ∷ ps) q ≡ true)
    by (inl t) = head (one_split room qs p q t)
    by (inr t) = inr (tail t)

pub with_left : (room : ℕ) (qs ps : List ℕ) (q : ℕ) → is_among qs q ≡ true → is_among (with_all room qs ps) q ≡ true
with_left room qs [] q e = e
with_left room qs (p ∷ ps) q e = with_left room (with_procedure room qs p) ps q (one_left room qs p q e)

pub with_right : (room : ℕ) (qs ps : List ℕ) (q : ℕ) → q < room → is_among ps q ≡ true → is_among (with_all room qs ps) q ≡ true
with_right room qs [] q lt e = no_clash e
with_right room qs (p ∷ ps) q lt e = by (p == q) refl (with_right room (with_procedure room qs p) ps q lt) e
  where
    by : (b : Bool) → (p == q) ≡ b → (is_among ps q ≡ true → is_among (with_all room (with_procedure room qs p) ps) q ≡ true)
        → (if b then true else is_among ps q) ≡ true → is_among (with_all room (with_procedure room qs p) ps) q ≡ true
    by true pq rest t =
        let same : p ≡ q = grind (arith, pq) in
        with_left room (with_procedure room qs p) ps q (subst (λ z. is_among (with_procedure room qs z) q ≡ true) (sym same) (one_here room qs q lt))
    by false pq rest t = rest t

-- ---- one procedure

pub one_is : (o : Option ℕ) (q : ℕ) → is_among (one_of o) q ≡ true → o ≡ Some q
one_is None q e = no_clash e
one_is (Some p) q e = by (p == q) refl e
  where
    by : (b : Bool) → (p == q) ≡ b → (if b then true else false) ≡ true → Some p ≡ Some q
    by true pq t = let same : p ≡ q = grind (arith, pq) in ap (λ z. Some z) same
    by false pq t = no_clash t

pub one_among : (o : Option ℕ) (q : ℕ) → o ≡ Some q → is_among (one_of o) q ≡ true
one_among o q e = ap (λ z. is_among (one_of z) q) e ∙ (let s : (q == q) ≡ true = grind arith in ap (λ b. if b then true else false) s)

-- ---- procedures of live methods

pub there : (n : ℕ) (rs : List (Option Reason)) (i q : ℕ) → flat (slice_get (procedures_from n rs) i) ≡ Some q
    → (r : Reason) × (flat (slice_get rs i) ≡ Some r) × (n ≤ q) × (q < n + length rs)
there n [] i q e = absurd (none-some q e)
there n (Some r ∷ rs) zero q e = let s = same_Some n q e in (r, refl, omega (arith, s), omega (arith, s))
there n (Some r ∷ rs) (suc i) q e = let t = there (suc n) rs i q e in let a = t.2 in let b = t.3 in (t.0, t.1, omega (arith, a), omega (arith, b))
there n (None ∷ rs) zero q e = absurd (none-some q e)
there n (None ∷ rs) (suc i) q e = let t = there n rs i q e in let a = t.2 in let b = t.3 in (t.0, t.1, a, omega (arith, b))

pub back : (n : ℕ) (rs : List (Option Reason)) (i : ℕ) (r : Reason) → flat (slice_get rs i) ≡ Some r
    → (q : ℕ) × (flat (slice_get (procedures_from n rs) i) ≡ Some q)
back n [] i r e = absurd (none-some r e)
back n (Some r ∷ rs) zero s e = (n, refl)
back n (Some r ∷ rs) (suc i) s e = back (suc n) rs i s e
back n (None ∷ rs) zero s e = absurd (none-some s e)
back n (None ∷ rs) (suc i) s e = back n rs i s e

pub one : (n : ℕ) (rs : List (Option Reason)) (i j q : ℕ) → flat (slice_get (procedures_from n rs) i) ≡ Some q
    → flat (slice_get (procedures_from n rs) j) ≡ Some q → i ≡ j
one n [] i j q a b = absurd (none-some q a)
one n (Some r ∷ rs) zero zero q a b = refl
one n (Some r ∷ rs) zero (suc j) q a b = let s = same_Some n q a in let t = (there (suc n) rs j q b).2 in absurd (omega (arith, s, t))
one n (Some r ∷ rs) (suc i) zero q a b = let s = same_Some n q b in let t = (there (suc n) rs i q a).2 in absurd (omega (arith, s, t))
one n (Some r ∷ rs) (suc i) (suc j) q a b = ap suc (one (suc n) rs i j q a b)
one n (None ∷ rs) zero j q a b = absurd (none-some q a)
one n (None ∷ rs) (suc i) zero q a b = absurd (none-some q b)
one n (None ∷ rs) (suc i) (suc j) q a b = ap suc (one n rs i j q a b)
