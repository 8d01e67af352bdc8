-- How many kept objects there are of a class or below it.
use Rattle.std.proofs.Common.{◌≡◌, refl, sym, ap, ◌∙◌, arith, ℕ, suc, ◌+◌, ◌==◌, ◌&&◌, Bool, true, false, List, [], ◌∷◌, slice_get}
use Rattle.std.proofs.Common.{if◌then◌else◌}
use Rattle.vg_core.specs.declared.program.Tables.{Tables}
use Rattle.vg_core.specs.Heap.{Kind, ObjectOf, ArrayOf}
use Rattle.vg_core.specs.Tables.{above_in, is_in, is_below, last_of, last_from, top, both_same}
use Rattle.vg_core.specs.Typing.{WellFormed}
use Rattle.vg_numbers.specs.Keys.{Where, Earlier, Inside, Later, place, class_key, key, is_inside, inside, Object}
use Rattle.vg_numbers.specs.Numbers.{AreChains, way, objects, one_if, count}
use Rattle.vg_numbers.proofs.Ways.{below_inside, inside_below}
use Rattle.vg_static_named.proofs.Types.{only_if}

module _ (p : Tables) (formed : WellFormed p) (chains : AreChains p) (kept : ℕ → Bool) (c : ℕ) where
  -- the kept objects of the class c or below it, from the cell `at` on
  abbrev pub below : (at : ℕ) → List Kind → ℕ
  below at [] = 0
  below at (ObjectOf d ∷ κ) = only_if (kept at) (one_if (is_below p d c)) + below (suc at) κ
  below at (ArrayOf t size ∷ κ) = below (suc at) κ

  true_false : true ≡ false → ⊥
  true_false e = cc

  same : (n : ℕ) → (n == n) ≡ true
  same n = grind arith

  same_top : (ms : List ℕ) → is_in ms c ≡ true → both_same (last_of ms) (last_of ms) ≡ true
  same_top [] e = absurd (true_false (sym e))
  same_top (m ∷ ms) e = same (last_from m ms)

  -- a class that is below another has a topmost class, which is that of the other
  one_top : (d : ℕ) → is_below p d c ≡ true → both_same (top p d) (top p c) ≡ true
  one_top d e = sym (ap (both_same (top p d)) (formed.one_top d c e)) ∙ same_top (above_in (slice_get p.classes d)) e

  not_inside : (w : Where) → (w ≡ Inside → ⊥) → is_inside w ≡ 0
  not_inside Earlier h = refl
  not_inside Inside h = absurd (h refl)
  not_inside Later h = refl

  -- an object of the hierarchy stands inside the class where it is of the class or below it
  one_inside : (d at : ℕ) → both_same (top p d) (top p c) ≡ true
      → is_inside (place (class_key (way p c)) (key (record { way = way p d; cell = at }))) ≡ one_if (is_below p d c)
  one_inside d at one = by (is_below p d c) refl
    where
      by : (b : Bool) → is_below p d c ≡ b → is_inside (place (class_key (way p c)) (key (record { way = way p d; cell = at }))) ≡ one_if b
      by true e = ap is_inside (below_inside p chains d c at e)
      by false e =
          not_inside (place (class_key (way p c)) (key (record { way = way p d; cell = at })))
          (λ q. true_false (sym (inside_below p chains d c at one q) ∙ e))

  plus : (a b m n : ℕ) → a ≡ b → m ≡ n → a + m ≡ b + n
  plus a b m n e f = omega (arith, e, f)

  none_plus : (n : ℕ) → n ≡ 0 + n
  none_plus n = omega arith

  -- what one cell adds
  adds : (k : Bool) (d at : ℕ) (rest : List Object) (n : ℕ) → inside rest (class_key (way p c)) ≡ n
      → inside (if k && both_same (top p d) (top p c) then record { way = way p d; cell = at } ∷ rest else rest) (class_key (way p c))
      ≡ only_if k (one_if (is_below p d c)) + n
  adds false d at rest n e = e ∙ none_plus n
  adds true d at rest n e = by (both_same (top p d) (top p c)) refl
    where
      not_below : both_same (top p d) (top p c) ≡ false → (b : Bool) → is_below p d c ≡ b → one_if b ≡ 0
      not_below q true h = absurd (true_false (sym (one_top d h) ∙ q))
      not_below q false h = refl

      by : (b : Bool) → both_same (top p d) (top p c) ≡ b
          → inside (if b then record { way = way p d; cell = at } ∷ rest else rest) (class_key (way p c)) ≡ one_if (is_below p d c) + n
      by true q = plus _ _ _ _ (one_inside d at q) e
      by false q = e ∙ none_plus n ∙ ap (λ z. z + n) (sym (not_below q (is_below p d c) refl))

  among : (at : ℕ) (κ : List Kind) → inside (objects p (top p c) kept at κ) (class_key (way p c)) ≡ below at κ
  among at [] = refl
  among at (ObjectOf d ∷ κ) = adds (kept at) d at (objects p (top p c) kept (suc at) κ) (below (suc at) κ) (among (suc at) κ)
  among at (ArrayOf t size ∷ κ) = by (kept at) (among (suc at) κ)
    where
      by : (k : Bool) → inside (objects p (top p c) kept (suc at) κ) (class_key (way p c)) ≡ below (suc at) κ
          → inside (if k && false then record { way = []; cell = at } ∷ objects p (top p c) kept (suc at) κ else objects p (top p c) kept (suc at) κ)
          (class_key (way p c)) ≡ below (suc at) κ
      by true e = e
      by false e = e

  pub counted : (κ : List Kind) → count p κ kept c ≡ below 0 κ
  counted κ = among 0 κ
