-- A local in which nothing waits may be written, and then has that value.
use Rattle.std.specs.Prelude.{ℕ, zero, suc, ◌+◌, ◌<◌, ◌^◌, Bool, true, false, not, ◌==◌, ◌&&◌, List, [], ◌∷◌, ◌++◌, reverse, Option, Some}
use Rattle.std.specs.Prelude.{slice_get, slice_set}
use Rattle.std.proofs.Common.{◌≡◌, ◌≢◌, refl, sym, ap, ◌∙◌, subst, arith}
use Rattle.std.proofs.lemmas.List.{reverse-append}
use Rattle.vg_lin.specs.declared.instr.Operand.{Operand}
use Rattle.vg_lin.specs.declared.instr.Operand.TheVariants.{Local, Known}
use Rattle.vg_lin.specs.Values.{low}
use Rattle.vg_lin.specs.State.{LocalState, value_in, with_local}
use Rattle.vg_flatten_shapes.specs.declared.room.Room.{Room}
use Rattle.vg_flatten_shapes.specs.Shapes.{same_operand, same_homes, is_free}
use Rattle.vg_flattened.proofs.Related.{IsAt, AreAt, AreKept}
use Rattle.vg_flatten_shapes.proofs.Temps.{some_is, none_is_not}
use Rattle.vg_flattened.proofs.Locals.{written_is, others_stay, kept_there, receiver_stays}

-- ---- what a list of numbers has behind a write

pub set_here : (vs : List ℕ) (i v x : ℕ) → slice_get (slice_set vs i v) i ≡ Some x → x ≡ v
set_here [] i v x e = none_is_not x e
set_here (y ∷ vs) zero v x e = sym (some_is v x e)
set_here (y ∷ vs) (suc i) v x e = set_here vs i v x e

pub set_elsewhere : (vs : List ℕ) (i j v : ℕ) → j ≢ i → slice_get (slice_set vs i v) j ≡ slice_get vs j
set_elsewhere [] i j v ne = refl
set_elsewhere (y ∷ vs) zero zero v ne = absurd (ne refl)
set_elsewhere (y ∷ vs) zero (suc j) v ne = refl
set_elsewhere (y ∷ vs) (suc i) zero v ne = refl
set_elsewhere (y ∷ vs) (suc i) (suc j) v ne = set_elsewhere vs i j v (λ e. ne (ap suc e))

-- ---- homes beside a local

beside_all : (i : ℕ) (xs ys : List Operand) → is_free i (xs ++ ys) ≡ true → (is_free i xs ≡ true) × (is_free i ys ≡ true)
beside_all i [] ys e = (refl, e)
beside_all i (x ∷ xs) ys e = by_first (beside_all i xs ys) (same_operand (Local i) x) refl e
  where
    by_first : (is_free i (xs ++ ys) ≡ true → (is_free i xs ≡ true) × (is_free i ys ≡ true)) → (b : Bool) → same_operand (Local i) x ≡ b
        → (not b && is_free i (xs ++ ys)) ≡ true
        → ((not b && is_free i xs) ≡ true) × (is_free i ys ≡ true)
    by_first more true s e1 = absurd (grind arith)
    by_first more false s e1 = more e1

home_beside : (i x v : ℕ) (h : Operand) (ls : List LocalState) → is_free i (h ∷ []) ≡ true → IsAt h v ls → IsAt h v (with_local ls i x)
home_beside i x v (Local j) ls free at = ap value_in (others_stay ls i j x ne) ∙ at
  where
    by_same : (b : Bool) → (i == j) ≡ b → (not b && true) ≡ true → j ≢ i
    by_same true s e = absurd (grind arith)
    by_same false s e = λ is. absurd (grind arith)

    ne : j ≢ i
    ne = by_same (i == j) refl free
home_beside i x v (Known c) ls free at = at

pub homes_beside : (i x : ℕ) (hs : List Operand) (vs : List ℕ) (ls : List LocalState) → is_free i (reverse hs) ≡ true → AreAt hs vs ls
    → AreAt hs vs (with_local ls i x)
homes_beside i x [] [] ls free at = tt
homes_beside i x [] (v ∷ vs) ls free at = absurd at
homes_beside i x (h ∷ hs) [] ls free at = absurd at
homes_beside i x (h ∷ hs) (v ∷ vs) ls free at = both (λ f. homes_beside i x hs vs ls f at.1) (beside_all i (reverse hs) (h ∷ []) (subst
    (λ z. is_free i z ≡ true) (reverse-append (h ∷ []) hs) free))
  where
    both : (is_free i (reverse hs) ≡ true → AreAt hs vs (with_local ls i x)) → (is_free i (reverse hs) ≡ true) × (is_free i (h ∷ []) ≡ true)
        → AreAt (h ∷ hs) (v ∷ vs) (with_local ls i x)
    both more (f, g) = ((home_beside i x v h ls g at.0.0, at.0.1), more f)

-- ---- the same homes

same_is : (a b : Operand) → same_operand a b ≡ true → a ≡ b
same_is (Local i) (Local j) e = let is : i ≡ j = grind arith in ap Local is
same_is (Known i) (Known j) e = let is : i ≡ j = grind arith in ap Known is
same_is (Local i) (Known j) e = absurd (grind arith)
same_is (Known i) (Local j) e = absurd (grind arith)

rows_same : (xs ys : List Operand) → same_homes xs ys ≡ true → xs ≡ ys
rows_same [] [] e = refl
rows_same [] (y ∷ ys) e = absurd (grind arith)
rows_same (x ∷ xs) [] e = absurd (grind arith)
rows_same (x ∷ xs) (y ∷ ys) e = by_first (rows_same xs ys) (same_operand x y) refl e
  where
    by_first : (same_homes xs ys ≡ true → xs ≡ ys) → (b : Bool) → same_operand x y ≡ b → (b && same_homes xs ys) ≡ true → x ∷ xs ≡ y ∷ ys
    by_first more true s e1 = ap (λ z. z ∷ xs) (same_is x y s) ∙ ap (λ z. y ∷ z) (more e1)
    by_first more false s e1 = absurd (grind arith)

twice : (xs : List Operand) → reverse (reverse xs) ≡ xs
twice [] = refl
twice (x ∷ xs) =
    ap reverse (reverse-append (x ∷ []) xs) ∙ reverse-append (reverse xs) (x ∷ []) ∙ ap (λ z. x ∷ z) (twice xs)

pub homes_same : (xs ys : List Operand) → same_homes (reverse xs) (reverse ys) ≡ true → xs ≡ ys
homes_same xs ys e = sym (twice xs) ∙ ap reverse (rows_same (reverse xs) (reverse ys) e) ∙ twice ys

-- ---- the local gets the value

pub kept_behind_set : (r : Room) (ws : List ℕ) (self : Option ℕ) (vs : List ℕ) (ls : List LocalState) (i w v : ℕ) → slice_get ws (r.receiver + i) ≡ Some w
    → low w v ≡ v → v < 2 ^ 32 → AreKept r ws self vs ls → AreKept r ws self (slice_set vs i v) (with_local ls (r.receiver + i) v)
kept_behind_set r ws self vs ls i w v has same small kept =
    record {
      receiver = receiver_stays r self ls to v (λ n e l1 l2. let ne : 0 ≢ to = omega (arith, l1) in ne) kept.receiver;
      object = kept.object;
      there = kept_there r ws self vs ls to v kept;
      locals = λ j x lt e. by_place j x lt e (j == i) refl;
    }
  where
    to : ℕ
    to = r.receiver + i

    here : (o : Option ℕ) × (slice_get ls to ≡ Some (record { width = w; value = o })) → value_in (slice_get (with_local ls to v) to) ≡ Some v
    here (o, at) = ap value_in (written_is ls to v _ at) ∙ ap Some same

    by_place : (j x : ℕ) → r.receiver + j < r.locals → slice_get (slice_set vs i v) j ≡ Some x → (b : Bool) → (j == i) ≡ b
        → (value_in (slice_get (with_local ls to v) (r.receiver + j)) ≡ Some x) × (x < 2 ^ 32)
    by_place j x lt e true s =
        let is : j ≡ i = grind arith in
        let x_is = set_here vs i v x (subst (λ z. slice_get (slice_set vs i v) z ≡ Some x) is e) in (
          subst (λ z. value_in (slice_get (with_local ls to v) (r.receiver + z)) ≡ Some x) (sym is) (here (kept.there to w has) ∙ ap Some (sym x_is)),
          subst (λ z. z < 2 ^ 32) (sym x_is) small,
        )
    by_place j x lt e false s =
        let ne : j ≢ i = grind arith in
        let apart : r.receiver + j ≢ to = omega (arith, ne) in
        let old = kept.locals j x lt (sym (set_elsewhere vs i j v ne) ∙ e) in
        (ap value_in (others_stay ls to (r.receiver + j) v apart) ∙ old.0, old.1)
