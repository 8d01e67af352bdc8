-- What numbers by counting owe to a layout.
use Rattle.std.proofs.Common.{◌≡◌, refl, sym, ap, subst, ◌∙◌, arith, ℕ, ◌<◌, Bool, true, false, List, length, slice_get}
use Rattle.vg_codes.specs.Dispatch.{is_within}
use Rattle.vg_core.specs.declared.program.Tables.{Tables}
use Rattle.vg_core.specs.Heap.{Kind}
use Rattle.vg_core.specs.Tables.{is_below, one_hierarchy}
use Rattle.vg_numbers.specs.Numbers.{AreChains, numbered, number, first, count}
use Rattle.vg_numbers.proofs.Numbers as counting
use Rattle.vg_packing.specs.Layout.{Layout}
use Rattle.vg_packing.specs.Allowed.{IsObject, IsArray}
use Rattle.vg_packed.specs.Apart.{HasNumbers}
use Rattle.vg_packed.specs.Counted.{IsCounted}

-- what has a number is kept
kept_of : (p : Tables) (κ : List Kind) (kept : ℕ → Bool) (j : ℕ) → 0 < number p κ kept j → kept j ≡ true
kept_of p κ kept j h = by (kept j) refl h
  where
    by : (b : Bool) → kept j ≡ b → 0 < numbered p κ kept j b (slice_get κ j) → kept j ≡ true
    by true e g = e
    by false e g = absurd (omega (arith, g))

module _ (p : Tables) (chains : AreChains p) (l : Layout) (kept : ℕ → Bool) (is : IsCounted p l kept) where
  pub kept_cells : (j : ℕ) → 0 < l.numbering.number j → kept j ≡ true
  kept_cells j h = kept_of p l.kinds kept j (subst (λ n. 0 < n) (is.numbers j) h)

  spans : (j d c : ℕ) → IsObject l j d → one_hierarchy p d c ≡ true → is_below p d c ≡ is_within (l.first c) (l.count c) (l.numbering.number j)
  spans j d c (e, h) one =
      counting.spans p chains l.kinds kept j d c e (kept_cells j h) one
      ∙ (ap (λ n. is_within n (count p l.kinds kept c) (number p l.kinds kept j)) (sym (is.firsts c))
      ∙ (ap (λ n. is_within (l.first c) n (number p l.kinds kept j)) (sym (is.counts c)) ∙ ap (is_within (l.first c) (l.count c)) (sym (is.numbers j))))

  one_object : (i j d e : ℕ) → IsObject l i d → IsObject l j e → one_hierarchy p d e ≡ true → l.numbering.number i ≡ l.numbering.number j → i ≡ j
  one_object i j d e (ei, hi) (ej, hj) one same =
      counting.one_object p l.kinds kept i j d e ei ej (kept_cells i hi) (kept_cells j hj) one (sym (is.numbers i) ∙ (same ∙ is.numbers j))

  pub has_numbers : HasNumbers p l
  has_numbers = record { spans = spans; one_object = one_object }

  pub no_null : (c : ℕ) → is_within (l.first c) (l.count c) 0 ≡ false
  no_null c =
      ap (λ n. is_within n (l.count c) 0) (is.firsts c)
      ∙ (ap (λ n. is_within (first p l.kinds kept c) n 0) (is.counts c) ∙ counting.no_null p l.kinds kept c)

  pub one_array : (i j t n m : ℕ) → IsArray l i t n → IsArray l j t m → l.numbering.number i ≡ l.numbering.number j → i ≡ j
  one_array i j t n m (ei, hi) (ej, hj) same =
      counting.one_array p l.kinds kept i j t n m ei ej (kept_cells i hi) (kept_cells j hj) (sym (is.numbers i) ∙ (same ∙ is.numbers j))

  pub two_bytes : length l.kinds < 65536 → (j : ℕ) → l.numbering.number j < 65536
  two_bytes h j = let e = is.numbers j in let f = counting.few p l.kinds kept j in omega (arith, h, e, f)
