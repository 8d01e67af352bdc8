-- Operators on numbers compute the numbers of what operators on values compute, and values stay in their ranges.
use Rattle.std.proofs.Common.{◌≡◌, refl, sym, ap, subst, ◌∙◌, arith, ℕ, zero, suc, ◌+◌, ◌-◌, ◌*◌, ◌/◌, ◌%◌, ◌^◌, ◌<◌, ◌≤◌, Bool, true, false, not, ◌==◌, ◌&&◌}
use Rattle.std.proofs.Common.{nat_lt, nat_le, ℤ, pos, negsuc, FitsSigned}
use Rattle.std.proofs.Common.{neg_ℤ, unsigned_abs, int_lt, int_le, int_rem, int_div, if◌then◌else◌, List, Option, Some, None}
use Rattle.std.specs.Ordering.{int_eq}
use Rattle.std.specs.Int.{w32, cast_unsigned, cast_signed, int_wrapping_add, int_wrapping_sub, int_wrapping_mul, int_wrapping_neg, int_wrapping_div}
use Rattle.std.specs.Bool.{one_answer}
use Rattle.std.specs.Cmp.{unsigned_Decides, signed_Decides}
use Rattle.std.proofs.lemmas.Bool.Decides.{Decides-like}
use Rattle.std.proofs.lemmas.Int.{to_z-of_z, of_z-to_z, fits_signed_from_abs, rem_below}
use Rattle.std.proofs.Math.Facts.{sfits_to_z, Fits-bits}
use Rattle.std.proofs.Math.Pow.{pow_mono}
use Rattle.std.proofs.Math.Nat.{mod-lt, div-le_self, mod-eq_of_lt}
use Rattle.std.proofs.lemmas.Nat.{pow_pos, pow-add, mul-add-lt, and_le_l, or_lt, xor_lt}
use Rattle.vg_source.specs.Operators as source
use Rattle.vg_source.specs.Operators.{Scalar, AnInt, ATruth, AChar, Bits, Is, on_ints, on_chars, on_raws, shifted, only_if, compared, same_truth, on_scalars}
use Rattle.vg_source.specs.Operators.{prefixed, recast, ToInt, ToChar, ToBits, in_format}
use Rattle.vg_core.specs.declared.types.CoreType.{CoreType}
use Rattle.vg_core.specs.declared.types.CoreType.TheVariants.{IntType, CharType, RawType}
use Rattle.vg_core.specs.declared.heap.Cell.{Cell}
use Rattle.vg_core.specs.declared.operator.Operator.{Operator}
use Rattle.vg_core.specs.declared.operator.Operator.TheVariants.{Plus, Minus, Times, Divide, Remainder, Less, AtMost, Greater, AtLeast, Equal, Unequal}
use Rattle.vg_core.specs.declared.operator.Operator.TheVariants.{And, Or, Xor, ShiftLeft, ShiftRight, Concat}
use Rattle.vg_core.specs.declared.operator.Prefix.{Prefix}
use Rattle.vg_core.specs.declared.operator.Prefix.TheVariants.{Negative, Not, Complement}
use Rattle.vg_core.specs.declared.program.Tables.{Tables}
use Rattle.vg_core.specs.Operators.{scalar_value, operator_of, prefix_of}
use Rattle.vg_core.specs.State.{is_of}
use Rattle.vg_firm.specs.declared.step.Prefix.TheVariants.{Cut}
use Rattle.vg_firm.specs.Operators.{as_number, computed, applied, has_strings, has_string, is_string}
use Rattle.vg_firm.specs.Operators as firm
use Rattle.vg_coded.specs.Numbers.{scalar_number, IsInRange}
use Rattle.vg_coded.specs.Operators.{bits_of, operator_for, prefix_for, cut_for, cut_by, StandsFor}
use Rattle.vg_coded.proofs.Typed.{int_type, char_type, raw_type}

-- ---- ranges

as_int : (n : ℕ) → n < 2 ^ 32 → FitsSigned w32 (cast_signed w32 n)
as_int n h = sfits_to_z {w = w32} {n = n} (Fits-bits 32 tt h)

wrapped : (n : ℕ) → FitsSigned w32 (cast_signed w32 (n % 2 ^ 32))
wrapped n = as_int (n % 2 ^ 32) (mod-lt n {m = 2 ^ 32} (omega arith))

negated : (n : ℕ) → n < 2 ^ 32 → cast_unsigned w32 (neg_ℤ (pos n)) < 2 ^ 32
negated zero h = h
negated (suc n) h = omega arith

magnitude : (z : ℤ) → FitsSigned w32 z → unsigned_abs z < 2 ^ 32
magnitude (pos n) h = omega (arith, h)
magnitude (negsuc n) h = omega (arith, h)

quotient : (x y : ℤ) → FitsSigned w32 x → cast_unsigned w32 (int_div x y) < 2 ^ 32
quotient (pos a) (pos b) h = let e = div-le_self a b in let m = magnitude (pos a) h in omega (arith, e, m)
quotient (pos a) (negsuc b) h = let e = div-le_self a (suc b) in let m = magnitude (pos a) h in negated (a / suc b) (omega (arith, e, m))
quotient (negsuc a) (pos b) h = let e = div-le_self (suc a) b in let m = magnitude (negsuc a) h in negated (suc a / b) (omega (arith, e, m))
quotient (negsuc a) (negsuc b) h = let e = div-le_self (suc a) (suc b) in let m = magnitude (negsuc a) h in omega (arith, e, m)

remainder : (x y : ℤ) → 0 < unsigned_abs y → FitsSigned w32 y → FitsSigned w32 (int_rem x y)
remainder x y some h = let e = rem_below x y some in fits_signed_from_abs w32 (int_rem x y) (small y h e)
  where
    small : (z : ℤ) → FitsSigned w32 z → unsigned_abs (int_rem x y) < unsigned_abs z → unsigned_abs (int_rem x y) < 2 ^ 31
    small (pos n) f e = omega (arith, f, e)
    small (negsuc n) f e = omega (arith, f, e)

-- ---- ints

-- an int of which the divisor of a division is made is not 0 where its number is not
none_zero : (d r : ℕ) → 0 < d → firm.unless_zero d r ≡ Some r
none_zero zero r h = absurd (omega (arith, h))
none_zero (suc d) r h = refl

below_zero : (n : ℕ) → FitsSigned w32 (negsuc n) → 0 < cast_unsigned w32 (negsuc n)
below_zero n h = omega (arith, h)

module _ (a b : ℤ) (ha : FitsSigned w32 a) (hb : FitsSigned w32 b) where
  ra : cast_signed w32 (cast_unsigned w32 a) ≡ a
  ra = to_z-of_z w32 a ha

  rb : cast_signed w32 (cast_unsigned w32 b) ≡ b
  rb = to_z-of_z w32 b hb

  -- an operation on the numbers is one on the ints
  on_numbers : (go : ℤ → ℤ → ℤ) → firm.on_ints go (cast_unsigned w32 a) (cast_unsigned w32 b) ≡ cast_unsigned w32 (go a b)
  on_numbers go = λ i. cast_unsigned w32 (go (ra i) (rb i))

  tested : (go : ℤ → ℤ → Bool) → Some (as_number (go (cast_signed w32 (cast_unsigned w32 a)) (cast_signed w32 (cast_unsigned w32 b)))) ≡ Some
      (as_number (go a b))
  tested go = λ i. Some (as_number (go (ra i) (rb i)))

  tested_back : (go : ℤ → ℤ → Bool) → Some (as_number (go (cast_signed w32 (cast_unsigned w32 b)) (cast_signed w32 (cast_unsigned w32 a)))) ≡ Some
      (as_number (go b a))
  tested_back go = λ i. Some (as_number (go (rb i) (ra i)))

  same_ints : (cast_unsigned w32 a == cast_unsigned w32 b) ≡ int_eq a b
  same_ints =
      one_answer _ _
      (Decides-like (cast_unsigned w32 a == cast_unsigned w32 b) (λ e. sym ra ∙ (ap (cast_signed w32) e ∙ rb)) (ap (cast_unsigned w32))
      (unsigned_Decides (cast_unsigned w32 a) (cast_unsigned w32 b)))
      (signed_Decides a b)

divided : (a b : ℤ) → FitsSigned w32 a → FitsSigned w32 b
    → StandsFor true (firm.unless_zero (cast_unsigned w32 b) (firm.on_ints (int_wrapping_div w32) (cast_unsigned w32 a) (cast_unsigned w32 b)))
    (source.unless_zero b (AnInt (int_wrapping_div w32 a b)))
divided a (pos zero) ha hb = (refl, refl, refl)
divided a (pos (suc n)) ha hb =
    (as_int _ (quotient a (pos (suc n)) ha), refl, ap Some (on_numbers a (pos (suc n)) ha hb (int_wrapping_div w32)))
divided a (negsuc n) ha hb =
    (as_int _ (quotient a (negsuc n) ha), refl, none_zero _ _ (below_zero n hb) ∙ ap Some (on_numbers a (negsuc n) ha hb (int_wrapping_div w32)))

left_over : (a b : ℤ) → FitsSigned w32 a → FitsSigned w32 b
    → StandsFor true (firm.unless_zero (cast_unsigned w32 b) (firm.on_ints int_rem (cast_unsigned w32 a) (cast_unsigned w32 b)))
    (source.unless_zero b (AnInt (int_rem a b)))
left_over a (pos zero) ha hb = (refl, refl, refl)
left_over a (pos (suc n)) ha hb = (remainder a (pos (suc n)) (omega arith) hb, refl, ap Some (on_numbers a (pos (suc n)) ha hb int_rem))
left_over a (negsuc n) ha hb =
    (remainder a (negsuc n) (omega arith) hb, refl, none_zero _ _ (below_zero n hb) ∙ ap Some (on_numbers a (negsuc n) ha hb int_rem))

ints : (op : Operator) (a b : ℤ) → FitsSigned w32 a → FitsSigned w32 b
    → StandsFor (has_strings (operator_for op IntType IntType) (cast_unsigned w32 a) (cast_unsigned w32 b))
    (computed (operator_for op IntType IntType) (cast_unsigned w32 a) (cast_unsigned w32 b)) (on_ints (operator_of op) a b)
ints Plus a b ha hb = (wrapped _, refl, ap Some (on_numbers a b ha hb (int_wrapping_add w32)))
ints Minus a b ha hb = (wrapped _, refl, ap Some (on_numbers a b ha hb (int_wrapping_sub w32)))
ints Times a b ha hb = (wrapped _, refl, ap Some (on_numbers a b ha hb (int_wrapping_mul w32)))
ints Divide a b ha hb = divided a b ha hb
ints Remainder a b ha hb = left_over a b ha hb
ints Less a b ha hb = (tt, refl, tested a b ha hb int_lt)
ints AtMost a b ha hb = (tt, refl, tested a b ha hb int_le)
ints Greater a b ha hb = (tt, refl, tested_back a b ha hb int_lt)
ints AtLeast a b ha hb = (tt, refl, tested_back a b ha hb int_le)
ints Equal a b ha hb = (tt, refl, ap (λ z. Some (as_number z)) (same_ints a b ha hb))
ints Unequal a b ha hb = (tt, refl, ap (λ z. Some (as_number (not z))) (same_ints a b ha hb))
ints And a b ha hb = tt
ints Or a b ha hb = tt
ints Xor a b ha hb = tt
ints ShiftLeft a b ha hb = tt
ints ShiftRight a b ha hb = tt
ints Concat a b ha hb = tt

chars : (op : Operator) (a b : ℕ) → StandsFor (has_strings (operator_for op CharType CharType) a b) (computed (operator_for op CharType CharType) a b)
    (on_chars (operator_of op) a b)
chars Less a b = (tt, refl, refl)
chars AtMost a b = (tt, refl, refl)
chars Greater a b = (tt, refl, refl)
chars AtLeast a b = (tt, refl, refl)
chars Equal a b = (tt, refl, refl)
chars Unequal a b = (tt, refl, refl)
chars Plus a b = tt
chars Minus a b = tt
chars Times a b = tt
chars Divide a b = tt
chars Remainder a b = tt
chars And a b = tt
chars Or a b = tt
chars Xor a b = tt
chars ShiftLeft a b = tt
chars ShiftRight a b = tt
chars Concat a b = tt

-- ---- bit strings

both : (a b : Bool) → a ≡ true → b ≡ true → (a && b) ≡ true
both true true e f = refl
both true false e f = f
both false b e f = e

below : (a b : ℕ) → a < b → nat_lt a b ≡ true
below a b h = grind (arith, h)

at_most : (a b : ℕ) → a ≤ b → nat_le a b ≡ true
at_most a b h = grind (arith, h)

-- a bit string is one of so many bits
string : (k x : ℕ) → (k ≤ 32) × (x < 2 ^ k) → is_string k x ≡ true
string k x (le, lt) = both (nat_le k 32) (nat_lt x (2 ^ k)) (at_most k 32 le) (below x (2 ^ k) lt)

where_it_holds : (c b : Bool) (o : Option ℕ) (s : Scalar) → (c ≡ true → IsInRange s × (b ≡ true) × (o ≡ Some (scalar_number s))) → StandsFor b o (only_if c s)
where_it_holds true b o s h = h refl
where_it_holds false b o s h = tt

raws : (op : Operator) (j x k y : ℕ) → (j ≤ 32) × (x < 2 ^ j) → (k ≤ 32) × (y < 2 ^ k)
    → StandsFor (has_strings (operator_for op (RawType j) (RawType k)) x y) (computed (operator_for op (RawType j) (RawType k)) x y)
    (on_raws (operator_of op) j x k y)
raws And j x k y (s, p) (r, q) = where_it_holds (j == k) true _ _ (λ e. ((s, let a = and_le_l x y in omega (arith, a, p)), refl, refl))
raws Or j x k y (s, p) (r, q) =
    where_it_holds (j == k) true _ _ (λ e. ((s, or_lt j x y p (subst (λ z. y < 2 ^ z) (sym ((unsigned_Decides j k).0 e)) q)), refl, refl))
raws Xor j x k y (s, p) (r, q) =
    where_it_holds (j == k) true _ _ (λ e. ((s, xor_lt j x y p (subst (λ z. y < 2 ^ z) (sym ((unsigned_Decides j k).0 e)) q)), refl, refl))
raws Concat j x k y (s, p) (r, q) = where_it_holds (nat_le (j + k) 32) _ _ _ (λ e. put_together (grind (arith, e)))
  where
    small : x * 2 ^ k + y < 2 ^ (j + k)
    small =
        let a = mul-add-lt x (2 ^ k) y (2 ^ j) p q in let c : k + j ≡ j + k = omega arith in
        subst (λ z. x * 2 ^ k + y < z) (sym (pow-add 2 k j) ∙ ap (λ z. 2 ^ z) c) a

    put_together : j + k ≤ 32
        → ((j + k ≤ 32) × (x * 2 ^ k + y < 2 ^ (j + k))) × ((is_string k y && nat_lt (x * 2 ^ k + y) (2 ^ 32)) ≡ true)
        × (Some (x * 2 ^ k + y) ≡ Some (x * 2 ^ k + y))
    put_together le =
        ((le, small), both (is_string k y) _ (string k y (r, q)) (below (x * 2 ^ k + y) (2 ^ 32) (let m = pow_mono le in omega (arith, m, small))), refl)
raws Equal j x k y p q = where_it_holds (j == k) true _ _ (λ e. (tt, refl, refl))
raws Unequal j x k y p q = where_it_holds (j == k) true _ _ (λ e. (tt, refl, refl))
raws Plus j x k y p q = tt
raws Minus j x k y p q = tt
raws Times j x k y p q = tt
raws Divide j x k y p q = tt
raws Remainder j x k y p q = tt
raws Less j x k y p q = tt
raws AtMost j x k y p q = tt
raws Greater j x k y p q = tt
raws AtLeast j x k y p q = tt
raws ShiftLeft j x k y p q = tt
raws ShiftRight j x k y p q = tt

left_small : (k x n : ℕ) → (if nat_lt n k then x * 2 ^ n % 2 ^ k else 0) < 2 ^ k
left_small k x n = by (nat_lt n k)
  where
    by : (b : Bool) → (if b then x * 2 ^ n % 2 ^ k else 0) < 2 ^ k
    by true = mod-lt (x * 2 ^ n) {m = 2 ^ k} (pow_pos k)
    by false = pow_pos k

right_small : (k x n : ℕ) → x < 2 ^ k → (if nat_lt n k then x / 2 ^ n else 0) < 2 ^ k
right_small k x n p = by (nat_lt n k)
  where
    by : (b : Bool) → (if b then x / 2 ^ n else 0) < 2 ^ k
    by true = let e = div-le_self x (2 ^ n) in omega (arith, e, p)
    by false = pow_pos k

shifts : (op : Operator) (k x : ℕ) (n : ℤ) → (k ≤ 32) × (x < 2 ^ k) → FitsSigned w32 n
    → StandsFor (has_strings (operator_for op (RawType k) IntType) x (cast_unsigned w32 n))
    (computed (operator_for op (RawType k) IntType) x (cast_unsigned w32 n)) (shifted (operator_of op) k x n)
shifts ShiftLeft k x (pos n) p h =
    ((p.0, left_small k x n), string k x p, ap (λ z. Some (firm.shifted z k (λ m. x * 2 ^ m % 2 ^ k))) (to_z-of_z w32 (pos n) h))
shifts ShiftLeft k x (negsuc n) p h = ((p.0, pow_pos k), string k x p, ap (λ z. Some (firm.shifted z k (λ m. x * 2 ^ m % 2 ^ k))) (to_z-of_z w32 (negsuc n) h))
shifts ShiftRight k x (pos n) p h = ((p.0, right_small k x n p.1), string k x p, ap (λ z. Some (firm.shifted z k (λ m. x / 2 ^ m))) (to_z-of_z w32 (pos n) h))
shifts ShiftRight k x (negsuc n) p h = ((p.0, pow_pos k), string k x p, ap (λ z. Some (firm.shifted z k (λ m. x / 2 ^ m))) (to_z-of_z w32 (negsuc n) h))
shifts Plus k x n p h = tt
shifts Minus k x n p h = tt
shifts Times k x n p h = tt
shifts Divide k x n p h = tt
shifts Remainder k x n p h = tt
shifts Less k x n p h = tt
shifts AtMost k x n p h = tt
shifts Greater k x n p h = tt
shifts AtLeast k x n p h = tt
shifts Equal k x n p h = tt
shifts Unequal k x n p h = tt
shifts And k x n p h = tt
shifts Or k x n p h = tt
shifts Xor k x n p h = tt
shifts Concat k x n p h = tt

-- ---- truth values

same_truths : (a b : Bool) → (as_number a == as_number b) ≡ same_truth a b
same_truths true true = refl
same_truths true false = refl
same_truths false true = refl
same_truths false false = refl

-- a comparison for sameness is one of numbers that are the same where what they stand for is
pub comparisons : (op : Operator) (t u : CoreType) (x y : ℕ) (b : Bool) → (x == y) ≡ b
    → StandsFor (has_strings (operator_for op t u) x y) (computed (operator_for op t u) x y) (compared (operator_of op) b)
comparisons Equal t u x y b e = (tt, refl, ap (λ z. Some (as_number z)) e)
comparisons Unequal t u x y b e = (tt, refl, ap (λ z. Some (as_number (not z))) e)
comparisons Plus t u x y b e = tt
comparisons Minus t u x y b e = tt
comparisons Times t u x y b e = tt
comparisons Divide t u x y b e = tt
comparisons Remainder t u x y b e = tt
comparisons Less t u x y b e = tt
comparisons AtMost t u x y b e = tt
comparisons Greater t u x y b e = tt
comparisons AtLeast t u x y b e = tt
comparisons And t u x y b e = tt
comparisons Or t u x y b e = tt
comparisons Xor t u x y b e = tt
comparisons ShiftLeft t u x y b e = tt
comparisons ShiftRight t u x y b e = tt
comparisons Concat t u x y b e = tt

-- ---- scalars

-- Scalars that casts among numbers take.
abbrev IsNumber : Scalar → Type 0
IsNumber (ATruth b) = ⊥
IsNumber _ = Unit {0}

module _ (p : Tables) (cells : List Cell) where
  pub scalars : (op : Operator) (t u : CoreType) (x y : Scalar) → is_of p cells t (scalar_value x) ≡ true → is_of p cells u (scalar_value y) ≡ true
      → IsInRange x → IsInRange y
      → StandsFor (has_strings (operator_for op t u) (scalar_number x) (scalar_number y)) (computed (operator_for op t u) (scalar_number x) (scalar_number y))
      (on_scalars (operator_of op) x y)
  scalars op t u (AnInt a) (AnInt b) et eu ha hb =
      subst (λ z. StandsFor (has_strings (operator_for op z u) (cast_unsigned w32 a) (cast_unsigned w32 b))
      (computed (operator_for op z u) (cast_unsigned w32 a) (cast_unsigned w32 b)) (on_ints (operator_of op) a b)) (sym (int_type p cells t a et))
      (subst (λ z. StandsFor (has_strings (operator_for op IntType z) (cast_unsigned w32 a) (cast_unsigned w32 b))
      (computed (operator_for op IntType z) (cast_unsigned w32 a) (cast_unsigned w32 b)) (on_ints (operator_of op) a b)) (sym (int_type p cells u b eu))
      (ints op a b ha hb))
  scalars op t u (AChar a) (AChar b) et eu ha hb =
      subst (λ z. StandsFor (has_strings (operator_for op z u) a b) (computed (operator_for op z u) a b) (on_chars (operator_of op) a b))
      (sym (char_type p cells t a et))
      (subst (λ z. StandsFor (has_strings (operator_for op CharType z) a b) (computed (operator_for op CharType z) a b) (on_chars (operator_of op) a b))
      (sym (char_type p cells u b eu))
      (chars op a b))
  scalars op t u (Bits j a) (Bits k b) et eu ha hb =
      subst (λ z. StandsFor (has_strings (operator_for op z u) a b) (computed (operator_for op z u) a b) (on_raws (operator_of op) j a k b))
      (sym (raw_type p cells t j a et))
      (subst (λ z. StandsFor (has_strings (operator_for op (RawType j) z) a b) (computed (operator_for op (RawType j) z) a b)
      (on_raws (operator_of op) j a k b)) (sym (raw_type p cells u k b eu))
      (raws op j a k b ha hb))
  scalars op t u (Bits k a) (AnInt b) et eu ha hb =
      subst (λ z. StandsFor (has_strings (operator_for op z u) a (cast_unsigned w32 b)) (computed (operator_for op z u) a (cast_unsigned w32 b))
      (shifted (operator_of op) k a b)) (sym (raw_type p cells t k a et))
      (subst (λ z. StandsFor (has_strings (operator_for op (RawType k) z) a (cast_unsigned w32 b))
      (computed (operator_for op (RawType k) z) a (cast_unsigned w32 b)) (shifted (operator_of op) k a b)) (sym (int_type p cells u b eu))
      (shifts op k a b ha hb))
  scalars op t u (ATruth a) (ATruth b) et eu ha hb = comparisons op t u (as_number a) (as_number b) (same_truth a b) (same_truths a b)
  scalars op t u (AnInt a) (ATruth b) et eu ha hb = tt
  scalars op t u (AnInt a) (AChar b) et eu ha hb = tt
  scalars op t u (AnInt a) (Bits k b) et eu ha hb = tt
  scalars op t u (ATruth a) (AnInt b) et eu ha hb = tt
  scalars op t u (ATruth a) (AChar b) et eu ha hb = tt
  scalars op t u (ATruth a) (Bits k b) et eu ha hb = tt
  scalars op t u (AChar a) (AnInt b) et eu ha hb = tt
  scalars op t u (AChar a) (ATruth b) et eu ha hb = tt
  scalars op t u (AChar a) (Bits k b) et eu ha hb = tt
  scalars op t u (Bits j a) (ATruth b) et eu ha hb = tt
  scalars op t u (Bits j a) (AChar b) et eu ha hb = tt

  not_number : (b : Bool) → as_number (as_number b == 0) ≡ as_number (not b)
  not_number true = refl
  not_number false = refl

  pub prefixes : (op : Prefix) (t : CoreType) (x : Scalar) → is_of p cells t (scalar_value x) ≡ true → IsInRange x
      → StandsFor (has_string (prefix_for op t) (scalar_number x)) (Some (applied (prefix_for op t) (scalar_number x))) (prefixed (prefix_of op) x)
  prefixes Negative t (AnInt a) et ha = (wrapped _, refl, ap (λ z. Some (cast_unsigned w32 (int_wrapping_neg w32 z))) (to_z-of_z w32 a ha))
  prefixes Not t (ATruth b) et ha = (tt, refl, ap Some (not_number b))
  prefixes Complement t (Bits k a) et ha = (
    (ha.0, let e = pow_pos k in let lt = ha.1 in omega (arith, lt, e)),
    ap (λ z. is_string (bits_of z) a) (raw_type p cells t k a et) ∙ string k a ha,
    ap (λ z. Some (2 ^ bits_of z - 1 - a)) (raw_type p cells t k a et),
  )
  prefixes Negative t (ATruth b) et ha = tt
  prefixes Negative t (AChar b) et ha = tt
  prefixes Negative t (Bits k b) et ha = tt
  prefixes Not t (AnInt b) et ha = tt
  prefixes Not t (AChar b) et ha = tt
  prefixes Not t (Bits k b) et ha = tt
  prefixes Complement t (AnInt b) et ha = tt
  prefixes Complement t (ATruth b) et ha = tt
  prefixes Complement t (AChar b) et ha = tt

  -- ---- casts

  -- the low bits of a number that has few enough are the number
  cut_is : (t u : CoreType) (n : ℕ) → n < 2 ^ bits_of t → cut_by (cut_for t u) n ≡ n % 2 ^ bits_of u
  cut_is t u n h = by (nat_lt (bits_of u) (bits_of t)) refl
    where
      by : (b : Bool) → nat_lt (bits_of u) (bits_of t) ≡ b → cut_by (if b then Some (Cut (bits_of u)) else None) n ≡ n % 2 ^ bits_of u
      by true e = refl
      by false e =
          let le : bits_of t ≤ bits_of u = grind (arith, e) in
          let more = pow_mono le in sym (mod-eq_of_lt (omega (arith, h, more)))

  -- a number has at most the bits of its type
  number_small : (t : CoreType) (x : Scalar) → is_of p cells t (scalar_value x) ≡ true → IsInRange x → IsNumber x → scalar_number x < 2 ^ bits_of t
  number_small t (AnInt a) et ha is = subst (λ z. cast_unsigned w32 a < 2 ^ bits_of z) (sym (int_type p cells t a et)) (bits_small a ha)
    where
      bits_small : (z : ℤ) → FitsSigned w32 z → cast_unsigned w32 z < 2 ^ 32
      bits_small (pos n) h = omega (arith, h)
      bits_small (negsuc n) h = omega (arith, h)
  number_small t (AChar c) et hc is = subst (λ z. c < 2 ^ bits_of z) (sym (char_type p cells t c et)) hc
  number_small t (Bits k b) et hb is = subst (λ z. b < 2 ^ bits_of z) (sym (raw_type p cells t k b et)) hb.1
  number_small t (ATruth b) et hb is = absurd is

  in_int : (t : CoreType) (n : ℕ) → n < 2 ^ bits_of t → StandsFor true (Some (cut_by (cut_for t IntType) n)) (Is (in_format ToInt n))
  in_int t n h = (wrapped n, refl, ap Some (cut_is t IntType n h ∙ sym (of_z-to_z w32 (n % 2 ^ 32) (mod-lt n {m = 2 ^ 32} (omega arith)))))

  in_char : (t : CoreType) (n : ℕ) → n < 2 ^ bits_of t → StandsFor true (Some (cut_by (cut_for t CharType) n)) (Is (in_format ToChar n))
  in_char t n h = (mod-lt n {m = 256} (omega arith), refl, ap Some (cut_is t CharType n h))

  in_bits : (t : CoreType) (k n : ℕ) → k ≤ 32 → n < 2 ^ bits_of t → StandsFor true (Some (cut_by (cut_for t (RawType k)) n)) (Is (in_format (ToBits k) n))
  in_bits t k n le h = ((le, mod-lt n {m = 2 ^ k} (pow_pos k)), refl, ap Some (cut_is t (RawType k) n h))

  pub to_int : (t : CoreType) (x : Scalar) → is_of p cells t (scalar_value x) ≡ true → IsInRange x
      → StandsFor true (Some (cut_by (cut_for t IntType) (scalar_number x))) (recast ToInt x)
  to_int t (AnInt a) et h = in_int t (cast_unsigned w32 a) (number_small t (AnInt a) et h tt)
  to_int t (AChar c) et h = in_int t c (number_small t (AChar c) et h tt)
  to_int t (Bits k b) et h = in_int t b (number_small t (Bits k b) et h tt)
  to_int t (ATruth b) et h = tt

  pub to_char : (t : CoreType) (x : Scalar) → is_of p cells t (scalar_value x) ≡ true → IsInRange x
      → StandsFor true (Some (cut_by (cut_for t CharType) (scalar_number x))) (recast ToChar x)
  to_char t (AnInt a) et h = in_char t (cast_unsigned w32 a) (number_small t (AnInt a) et h tt)
  to_char t (AChar c) et h = in_char t c (number_small t (AChar c) et h tt)
  to_char t (Bits k b) et h = in_char t b (number_small t (Bits k b) et h tt)
  to_char t (ATruth b) et h = tt

  pub to_bits : (t : CoreType) (k : ℕ) (x : Scalar) → k ≤ 32 → is_of p cells t (scalar_value x) ≡ true → IsInRange x
      → StandsFor true (Some (cut_by (cut_for t (RawType k)) (scalar_number x))) (recast (ToBits k) x)
  to_bits t k (AnInt a) le et h = in_bits t k (cast_unsigned w32 a) le (number_small t (AnInt a) et h tt)
  to_bits t k (AChar c) le et h = in_bits t k c le (number_small t (AChar c) et h tt)
  to_bits t k (Bits j b) le et h = in_bits t k b le (number_small t (Bits j b) et h tt)
  to_bits t k (ATruth b) le et h = tt
