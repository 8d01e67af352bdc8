-- Sums over the kept arrays, type by type and one by one.
use Rattle.std.proofs.Common.{◌≡◌, ◌⊎◌, refl, sym, ap, ◌∙◌, arith, ℕ, suc, ◌+◌, ◌*◌, ◌==◌, ◌&&◌, ◌||◌, not, Bool, true, false, List, [], ◌∷◌, length}
use Rattle.std.proofs.Common.{if◌then◌else◌}
use Rattle.std.proofs.Math.Nat.{mul-add}
use Rattle.std.proofs.lemmas.Bool.Decides.{eqb_tells}
use mathlib.Core.Logic.{inl, inr}
use Rattle.vg_core.specs.Heap.{Kind, ObjectOf, ArrayOf}
use Rattle.vg_core.specs.Tables.{is_in}
use Rattle.vg_numbers.specs.Numbers.{one_if, arrays_before}
use Rattle.vg_placement.specs.Columns.{elements, start_of, array_types}
use Rattle.vg_static_named.proofs.Columns.{over}

-- so many, where this holds
abbrev pub only_if : Bool → ℕ → ℕ
only_if true n = n
only_if false n = 0

module _ (counts : (t size : ℕ) → ℕ) (kept : ℕ → Bool) where
  -- what the kept arrays of a type count, from the cell `at` on
  abbrev pub of_type : (t : ℕ) → (at : ℕ) → List Kind → ℕ
  of_type t at [] = 0
  of_type t at (ObjectOf c ∷ κ) = of_type t (suc at) κ
  of_type t at (ArrayOf u size ∷ κ) = only_if (kept at && (u == t)) (counts u size) + of_type t (suc at) κ

  -- what those count whose types were not seen
  abbrev pub of_others : (seen : List ℕ) → (at : ℕ) → List Kind → ℕ
  of_others seen at [] = 0
  of_others seen at (ObjectOf c ∷ κ) = of_others seen (suc at) κ
  of_others seen at (ArrayOf u size ∷ κ) = only_if (kept at && not (is_in seen u)) (counts u size) + of_others seen (suc at) κ

  -- a type is none of these
  abbrev IsNone : ℕ → List ℕ → Type 0
  IsNone u [] = Unit {0}
  IsNone u (t ∷ ts) = ((u == t) ≡ false) × IsNone u ts

  true_false : true ≡ false → ⊥
  true_false e = cc

  same : (n : ℕ) → (n == n) ≡ true
  same n = grind arith

  or_true : (b : Bool) → (b || true) ≡ true
  or_true true = refl
  or_true false = refl

  -- a type that is seen is apart from one that is not
  apart : (seen : List ℕ) (u t : ℕ) → is_in seen u ≡ true → is_in seen t ≡ false → (u == t) ≡ false
  apart seen u t e f = by (eqb_tells u t)
    where
      by : (((u == t) ≡ true) × (u ≡ t)) ⊎ (((u == t) ≡ false) × ((u ≡ t) → ⊥)) → (u == t) ≡ false
      by (inl (b, q)) = absurd (true_false (sym e ∙ (ap (is_in seen) q ∙ f)))
      by (inr (b, q)) = b

  -- a type that is seen is none of those that are still to come
  none_seen : (seen : List ℕ) (u at : ℕ) (κ : List Kind) → is_in seen u ≡ true → IsNone u (array_types kept seen at κ)
  none_seen seen u at [] e = tt
  none_seen seen u at (ObjectOf c ∷ κ) e = none_seen seen u (suc at) κ e
  none_seen seen u at (ArrayOf t size ∷ κ) e =
      by (kept at) (is_in seen t) refl (none_seen seen u (suc at) κ e)
      (none_seen (t ∷ seen) u (suc at) κ (ap (λ z. t == u || z) e ∙ or_true (t == u)))
    where
      by : (k b : Bool) → is_in seen t ≡ b → IsNone u (array_types kept seen (suc at) κ) → IsNone u (array_types kept (t ∷ seen) (suc at) κ)
          → IsNone u (if k && not b then t ∷ array_types kept (t ∷ seen) (suc at) κ else array_types kept seen (suc at) κ)
      by true false q h g = (apart seen u t e q, g)
      by true true q h g = h
      by false b q h g = h

  turned : (u t : ℕ) → (u == t) ≡ false → (t == u) ≡ false
  turned u t e = grind (arith, e)

  -- an array of a type that is none of these adds nothing to them
  over_none : (u n at : ℕ) (κ : List Kind) (k : Bool) (ts : List ℕ) → IsNone u ts
      → over (λ t. only_if (k && (u == t)) n + of_type t at κ) ts ≡ over (λ t. of_type t at κ) ts
  over_none u n at κ k [] h = refl
  over_none u n at κ k (t ∷ ts) (e, h) =
      ap (λ z. (only_if z n + of_type t at κ) + over (λ t. only_if (k && (u == t)) n + of_type t at κ) ts) (nothing k (u == t) e)
      ∙ none (of_type t at κ) _ _ (over_none u n at κ k ts h)
    where
      nothing : (k b : Bool) → b ≡ false → (k && b) ≡ false
      nothing true b q = q
      nothing false b q = refl

      none : (a b c : ℕ) → b ≡ c → (0 + a) + b ≡ a + c
      none a b c q = omega (arith, q)

  -- nor does one that is not kept
  over_dead : (u n at : ℕ) (κ : List Kind) (k : Bool) (ts : List ℕ) → k ≡ false
      → over (λ t. only_if (k && (u == t)) n + of_type t at κ) ts ≡ over (λ t. of_type t at κ) ts
  over_dead u n at κ k [] h = refl
  over_dead u n at κ k (t ∷ ts) h =
      ap (λ z. (only_if (z && (u == t)) n + of_type t at κ) + over (λ t. only_if (k && (u == t)) n + of_type t at κ) ts) h
      ∙ none (of_type t at κ) _ _ (over_dead u n at κ k ts h)
    where
      none : (a b c : ℕ) → b ≡ c → (0 + a) + b ≡ a + c
      none a b c q = omega (arith, q)

  exchange : (a b c d e : ℕ) → b + d ≡ c → e ≡ d → (a + b) + e ≡ a + c
  exchange a b c d e p q = omega (arith, p, q)

  -- what the arrays of a type count, and those of the types not seen with it
  split : (u at : ℕ) (seen : List ℕ) (κ : List Kind) → is_in seen u ≡ false → of_type u at κ + of_others (u ∷ seen) at κ ≡ of_others seen at κ
  split u at seen [] f = refl
  split u at seen (ObjectOf c ∷ κ) f = split u (suc at) seen κ f
  split u at seen (ArrayOf t size ∷ κ) f = by (kept at) (eqb_tells t u) (split u (suc at) seen κ f)
    where
      two : (x y a b c : ℕ) → a + b ≡ c → (x + a) + (y + b) ≡ (x + y) + c
      two x y a b c q = omega (arith, q)

      one : (k : Bool) → (t == u) ≡ true → t ≡ u
          → only_if (k && (t == u)) (counts t size) + only_if (k && not (u == t || is_in seen t)) (counts t size)
          ≡ only_if (k && not (is_in seen t)) (counts t size)
      one true b q =
          ap (λ z. only_if z (counts t size) + only_if (not (u == t || is_in seen t)) (counts t size)) b
          ∙ ap (λ z. counts t size + only_if (not (z || is_in seen t)) (counts t size)) (ap (λ z. u == z) q ∙ same u)
          ∙ plus (counts t size) ∙ sym (ap (λ z. only_if (not z) (counts t size)) (ap (is_in seen) q ∙ f))
        where
          plus : (n : ℕ) → n + 0 ≡ n
          plus n = omega arith
      one false b q = refl

      other : (k : Bool) → (t == u) ≡ false
          → only_if (k && (t == u)) (counts t size) + only_if (k && not (u == t || is_in seen t)) (counts t size)
          ≡ only_if (k && not (is_in seen t)) (counts t size)
      other true b =
          ap (λ z. only_if z (counts t size) + only_if (not (u == t || is_in seen t)) (counts t size)) b
          ∙ ap (λ z. 0 + only_if (not (z || is_in seen t)) (counts t size)) (turned t u b) ∙ plus (only_if (not (is_in seen t)) (counts t size))
        where
          plus : (n : ℕ) → 0 + n ≡ n
          plus n = omega arith
      other false b = refl

      by : (k : Bool) → (((t == u) ≡ true) × (t ≡ u)) ⊎ (((t == u) ≡ false) × ((t ≡ u) → ⊥))
          → of_type u (suc at) κ + of_others (u ∷ seen) (suc at) κ ≡ of_others seen (suc at) κ
          → (only_if (k && (t == u)) (counts t size) + of_type u (suc at) κ)
          + (only_if (k && not (u == t || is_in seen t)) (counts t size) + of_others (u ∷ seen) (suc at) κ)
          ≡ only_if (k && not (is_in seen t)) (counts t size) + of_others seen (suc at) κ
      by k (inl (b, q)) h = two _ _ _ _ _ h ∙ ap (λ z. z + of_others seen (suc at) κ) (one k b q)
      by k (inr (b, q)) h = two _ _ _ _ _ h ∙ ap (λ z. z + of_others seen (suc at) κ) (other k b)

  -- type by type and one by one is the same
  types_whole : (seen : List ℕ) (at : ℕ) (κ : List Kind) → over (λ t. of_type t at κ) (array_types kept seen at κ) ≡ of_others seen at κ
  types_whole seen at [] = refl
  types_whole seen at (ObjectOf c ∷ κ) = types_whole seen (suc at) κ
  types_whole seen at (ArrayOf u size ∷ κ) =
      by (kept at) (is_in seen u) refl (types_whole seen (suc at) κ) (types_whole (u ∷ seen) (suc at) κ)
    where
      by : (k b : Bool) → is_in seen u ≡ b
          → over (λ t. of_type t (suc at) κ) (array_types kept seen (suc at) κ) ≡ of_others seen (suc at) κ
          → over (λ t. of_type t (suc at) κ) (array_types kept (u ∷ seen) (suc at) κ) ≡ of_others (u ∷ seen) (suc at) κ
          → over (λ t. only_if (k && (u == t)) (counts u size) + of_type t (suc at) κ)
          (if k && not b then u ∷ array_types kept (u ∷ seen) (suc at) κ else array_types kept seen (suc at) κ)
          ≡ only_if (k && not b) (counts u size) + of_others seen (suc at) κ
      by true false q h g =
          ap (λ z. (only_if z (counts u size) + of_type u (suc at) κ)
          + over (λ t. only_if (u == t) (counts u size) + of_type t (suc at) κ) (array_types kept (u ∷ seen) (suc at) κ)) (same u)
          ∙ exchange (counts u size) (of_type u (suc at) κ) (of_others seen (suc at) κ) (of_others (u ∷ seen) (suc at) κ) _ (split u (suc at) seen κ q)
          (over_none u (counts u size) (suc at) κ true (array_types kept (u ∷ seen) (suc at) κ) (none_seen (u ∷ seen) u (suc at) κ
          (ap (λ z. z || is_in seen u) (same u))) ∙ g)
      by true true q h g =
          over_none u (counts u size) (suc at) κ true (array_types kept seen (suc at) κ) (none_seen seen u (suc at) κ q) ∙ h
          ∙ plus (of_others seen (suc at) κ)
        where
          plus : (n : ℕ) → n ≡ 0 + n
          plus n = omega arith
      by false b q h g =
          over_dead u (counts u size) (suc at) κ false (array_types kept seen (suc at) κ) refl ∙ h ∙ plus (of_others seen (suc at) κ)
        where
          plus : (n : ℕ) → n ≡ 0 + n
          plus n = omega arith

  -- what the kept arrays count
  abbrev pub of_arrays : (at : ℕ) → List Kind → ℕ
  of_arrays at [] = 0
  of_arrays at (ObjectOf c ∷ κ) = of_arrays (suc at) κ
  of_arrays at (ArrayOf u size ∷ κ) = only_if (kept at) (counts u size) + of_arrays (suc at) κ

  all_others : (at : ℕ) (κ : List Kind) → of_others [] at κ ≡ of_arrays at κ
  all_others at [] = refl
  all_others at (ObjectOf c ∷ κ) = all_others (suc at) κ
  all_others at (ArrayOf u size ∷ κ) =
      ap (λ z. only_if z (counts u size) + of_others [] (suc at) κ) (and_true (kept at))
      ∙ ap (λ z. only_if (kept at) (counts u size) + z) (all_others (suc at) κ)
    where
      and_true : (b : Bool) → (b && true) ≡ b
      and_true true = refl
      and_true false = refl

  pub by_types : (κ : List Kind) → over (λ t. of_type t 0 κ) (array_types kept [] 0 κ) ≡ of_arrays 0 κ
  by_types κ = types_whole [] 0 κ ∙ all_others 0 κ

-- ---- elements and arrays of a type

-- so many times the elements of a type
pub elements_of : (kept : ℕ → Bool) (w : ℕ → ℕ) (t at : ℕ) (κ : List Kind)
    → w t * start_of kept t at κ (length κ) ≡ of_type (λ u size. w u * size) kept t at κ
elements_of kept w t at [] = none (w t)
  where
    none : (n : ℕ) → n * 0 ≡ 0
    none n = omega arith
elements_of kept w t at (ObjectOf c ∷ κ) =
    ap (λ z. w t * z) (nothing (kept at) (start_of kept t (suc at) κ (length κ))) ∙ elements_of kept w t (suc at) κ
  where
    nothing : (b : Bool) (n : ℕ) → elements b t (ObjectOf c) + n ≡ n
    nothing true n = omega arith
    nothing false n = omega arith
elements_of kept w t at (ArrayOf u size ∷ κ) =
    mul-add (w t) (elements (kept at) t (ArrayOf u size)) (start_of kept t (suc at) κ (length κ))
    ∙ ap (λ z. w t * elements (kept at) t (ArrayOf u size) + z) (elements_of kept w t (suc at) κ)
    ∙ ap (λ z. z + of_type (λ u size. w u * size) kept t (suc at) κ) (one (kept at) (eqb_tells u t))
  where
    none : (n : ℕ) → n * 0 ≡ 0
    none n = omega arith

    one : (k : Bool) → (((u == t) ≡ true) × (u ≡ t)) ⊎ (((u == t) ≡ false) × ((u ≡ t) → ⊥))
        → w t * elements k t (ArrayOf u size) ≡ only_if (k && (u == t)) (w u * size)
    one true (inl (b, q)) =
        ap (λ z. w t * (if z then size else 0)) b ∙ ap (λ z. w z * size) (sym q) ∙ sym (ap (λ z. only_if z (w u * size)) b)
    one true (inr (b, q)) = ap (λ z. w t * (if z then size else 0)) b ∙ none (w t) ∙ sym (ap (λ z. only_if z (w u * size)) b)
    one false h = none (w t)

-- so many times the arrays of a type
pub arrays_of : (kept : ℕ → Bool) (n t at : ℕ) (κ : List Kind) → n * arrays_before t kept at κ (length κ) ≡ of_type (λ u size. n) kept t at κ
arrays_of kept n t at [] = none n
  where
    none : (n : ℕ) → n * 0 ≡ 0
    none n = omega arith
arrays_of kept n t at (ObjectOf c ∷ κ) =
    ap (λ z. n * z) (nothing (kept at) (arrays_before t kept (suc at) κ (length κ))) ∙ arrays_of kept n t (suc at) κ
  where
    nothing : (b : Bool) (m : ℕ) → one_if (b && false) + m ≡ m
    nothing true m = omega arith
    nothing false m = omega arith
arrays_of kept n t at (ArrayOf u size ∷ κ) =
    mul-add n (one_if (kept at && (u == t))) (arrays_before t kept (suc at) κ (length κ))
    ∙ ap (λ z. n * one_if (kept at && (u == t)) + z) (arrays_of kept n t (suc at) κ)
    ∙ ap (λ z. z + of_type (λ u size. n) kept t (suc at) κ) (one (kept at && (u == t)))
  where
    one : (b : Bool) → n * one_if b ≡ only_if b n
    one true = omega arith
    one false = omega arith
