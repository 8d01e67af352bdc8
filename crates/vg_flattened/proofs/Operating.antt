-- Operators on both sides: what is computed, and what is compared.
use Rattle.std.specs.Prelude.{ℕ, ◌+◌, ◌-◌, ◌*◌, ◌^◌, ◌<◌, Bool, not, ◌==◌, Some, bit_and, bit_or, bit_xor}
use Rattle.std.specs.Option.{option_map}
use Rattle.std.proofs.Common.{◌≡◌, refl, ap, ◌∙◌, subst, arith}
use Rattle.std.proofs.lemmas.Nat.{and_le_l, or_lt, xor_lt}
use Rattle.vg_firm.specs.declared.step.Order.{Order}
use Rattle.vg_firm.specs.declared.step.Order.TheVariants.{Signed, Unsigned}
use Rattle.vg_firm.specs.declared.step.Operator.{Operator}
use Rattle.vg_firm.specs.declared.step.Operator.TheVariants.{Plus, Minus, Times, Divide, Remainder, Less, AtMost, Greater, AtLeast, Equal, Unequal}
use Rattle.vg_firm.specs.declared.step.Operator.TheVariants.{And, Or, Xor, ShiftLeft, ShiftRight, Concat}
use Rattle.vg_firm.specs.Operators.{computed as firm_computed, as_number, is_less, is_at_most}
use Rattle.vg_lin.specs.declared.instr.Operand.{Operand}
use Rattle.vg_lin.specs.declared.instr.Operator.{Operator as LinOperator}
use Rattle.vg_lin.specs.declared.instr.Operator.TheVariants.{Plus as Sum, Minus as Difference, Times as Product, And as Both', Or as Either', Xor as Unlike}
use Rattle.vg_lin.specs.declared.instr.Comparison.{Comparison}
use Rattle.vg_lin.specs.declared.instr.Comparison.TheVariants.{Same}
use Rattle.vg_lin.specs.Values.{low, computed as lin_computed, compared}
use Rattle.vg_lin.specs.State.{State, value, holds, both}
use Rattle.vg_flatten_shapes.specs.declared.open.Truth.{Truth}
use Rattle.vg_flatten_values.specs.Values.{computing, comparing, by_order, test_of}
use Rattle.vg_flattened.proofs.Related.{said}
use Rattle.vg_flattened.proofs.Numbers.{low_same, low_small, sum_same, difference_same, product_same, less_same, below_same, same_same, at_most_signed, at_most_unsigned}
use Rattle.vg_flatten_shapes.proofs.Temps.{some_is, none_is_not}

-- Both compute the same number, which has at most four bytes.
pub record Computes (op : Operator) (lop : LinOperator) (width x y : ℕ) : Type 0 where
  pub z : ℕ
  pub packed : firm_computed op x y ≡ Some z
  pub linear : lin_computed lop width x y ≡ Some z
  pub small : z < 2 ^ 32

of_low : (op : Operator) (lop : LinOperator) (x y z n : ℕ) → firm_computed op x y ≡ Some z → z ≡ low 4 n → lin_computed lop 4 x y ≡ Some (low 4 n)
    → Computes op lop 4 x y
of_low op lop x y z n e h g = record { z = low 4 n; packed = e ∙ ap Some h; linear = g; small = low_small n }

of_small : (op : Operator) (lop : LinOperator) (x y z : ℕ) → firm_computed op x y ≡ Some z → lin_computed lop 4 x y ≡ Some (low 4 z) → z < 2 ^ 32
    → Computes op lop 4 x y
of_small op lop x y z e g h = record { z = z; packed = e; linear = g ∙ ap Some (low_same z h); small = h }

pub computes : (op : Operator) (lop : LinOperator) (x y : ℕ) → x < 2 ^ 32 → y < 2 ^ 32 → computing op ≡ Some lop → Computes op lop 4 x y
computes Plus lop x y h g e = subst (λ o. Computes Plus o 4 x y) (some_is Sum lop e) (of_low Plus Sum x y _ (x + y) refl (sum_same x y h g) refl)
computes Minus lop x y h g e =
    subst (λ o. Computes Minus o 4 x y) (some_is Difference lop e)
    (of_low Minus Difference x y _ (x + (256 ^ 4 - low 4 y)) refl (difference_same x y h g) refl)
computes Times lop x y h g e = subst (λ o. Computes Times o 4 x y) (some_is Product lop e) (of_low Times Product x y _ (x * y) refl (product_same x y h g) refl)
computes And lop x y h g e =
    let le = and_le_l x y in subst (λ o. Computes And o 4 x y) (some_is Both' lop e) (of_small And Both' x y (bit_and x y) refl refl (omega (arith, le, h)))
computes Or lop x y h g e =
    subst (λ o. Computes Or o 4 x y) (some_is Either' lop e) (of_small Or Either' x y (bit_or x y) refl refl (or_lt 32 x y h g))
computes Xor lop x y h g e =
    subst (λ o. Computes Xor o 4 x y) (some_is Unlike lop e) (of_small Xor Unlike x y (bit_xor x y) refl refl (xor_lt 32 x y h g))
computes Divide lop x y h g e = none_is_not lop e
computes Remainder lop x y h g e = none_is_not lop e
computes (Less o) lop x y h g e = none_is_not lop e
computes (AtMost o) lop x y h g e = none_is_not lop e
computes (Greater o) lop x y h g e = none_is_not lop e
computes (AtLeast o) lop x y h g e = none_is_not lop e
computes Equal lop x y h g e = none_is_not lop e
computes Unequal lop x y h g e = none_is_not lop e
computes (ShiftLeft k) lop x y h g e = none_is_not lop e
computes (ShiftRight k) lop x y h g e = none_is_not lop e
computes (Concat k) lop x y h g e = none_is_not lop e

-- ---- comparisons

-- The test says what the operator compares.
pub record Compares (op : Operator) (t : Truth) (x y : ℕ) (s : State) : Type 0 where
  pub b : Bool
  pub packed : firm_computed op x y ≡ Some (as_number b)
  pub linear : said t s ≡ Some b

pub holds_of : (c : Comparison) (a b : Operand) (x y : ℕ) (s : State) → value a s ≡ Some x → value b s ≡ Some y
    → holds (test_of c a b) s ≡ Some (compared c 4 x y)
holds_of c a b x y s h g = ap (λ z. both z (value b s) (compared c 4)) h ∙ ap (λ z. both (Some x) z (compared c 4)) g

module _ (a b : Operand) (x y : ℕ) (s : State) (at : value a s ≡ Some x) (bt : value b s ≡ Some y) (h : x < 2 ^ 32) (g : y < 2 ^ 32) where
  less_of : (o : Order) → compared (by_order o) 4 x y ≡ is_less o x y
  less_of Signed = less_same x y h g
  less_of Unsigned = below_same x y h g

  greater_of : (o : Order) → compared (by_order o) 4 y x ≡ is_less o y x
  greater_of Signed = less_same y x g h
  greater_of Unsigned = below_same y x g h

  at_most_of : (o : Order) → not (compared (by_order o) 4 y x) ≡ is_at_most o x y
  at_most_of Signed = at_most_signed x y h g
  at_most_of Unsigned = at_most_unsigned x y h g

  at_least_of : (o : Order) → not (compared (by_order o) 4 x y) ≡ is_at_most o y x
  at_least_of Signed = at_most_signed y x g h
  at_least_of Unsigned = at_most_unsigned y x g h

  pub compares : (op : Operator) (t : Truth) → comparing op a b ≡ Some t → Compares op t x y s
  compares (Less o) t e =
      subst (λ z. Compares (Less o) z x y s) (some_is _ t e)
      (record { b = is_less o x y; packed = refl; linear = holds_of (by_order o) a b x y s at bt ∙ ap Some (less_of o) })
  compares (AtMost o) t e =
      subst (λ z. Compares (AtMost o) z x y s) (some_is _ t e)
      (record { b = is_at_most o x y; packed = refl; linear = ap (option_map not) (holds_of (by_order o) b a y x s bt at) ∙ ap Some (at_most_of o) })
  compares (Greater o) t e =
      subst (λ z. Compares (Greater o) z x y s) (some_is _ t e)
      (record { b = is_less o y x; packed = refl; linear = holds_of (by_order o) b a y x s bt at ∙ ap Some (greater_of o) })
  compares (AtLeast o) t e =
      subst (λ z. Compares (AtLeast o) z x y s) (some_is _ t e)
      (record { b = is_at_most o y x; packed = refl; linear = ap (option_map not) (holds_of (by_order o) a b x y s at bt) ∙ ap Some (at_least_of o) })
  compares Equal t e =
      subst (λ z. Compares Equal z x y s) (some_is _ t e)
      (record { b = x == y; packed = refl; linear = holds_of Same a b x y s at bt ∙ ap Some (same_same x y h g) })
  compares Unequal t e =
      subst (λ z. Compares Unequal z x y s) (some_is _ t e)
      (record { b = not (x == y); packed = refl; linear = ap (option_map not) (holds_of Same a b x y s at bt) ∙ ap (λ z. Some (not z)) (same_same x y h g) })
  compares Plus t e = none_is_not t e
  compares Minus t e = none_is_not t e
  compares Times t e = none_is_not t e
  compares Divide t e = none_is_not t e
  compares Remainder t e = none_is_not t e
  compares And t e = none_is_not t e
  compares Or t e = none_is_not t e
  compares Xor t e = none_is_not t e
  compares (ShiftLeft k) t e = none_is_not t e
  compares (ShiftRight k) t e = none_is_not t e
  compares (Concat k) t e = none_is_not t e
