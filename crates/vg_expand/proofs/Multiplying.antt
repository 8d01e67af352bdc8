-- That the code in place of a product does it. A product with a known number is a shift, or a shift and a sum or a difference; one of two
-- bytes is one instruction; any other is a call. Each form is proved by itself, and then the computations of all operators.
use Rattle.std.specs.Prelude.{ℕ, zero, suc, ◌+◌, ◌-◌, ◌*◌, ◌<◌, ◌≤◌, ◌^◌, Bool, true, false, ◌==◌, ◌&&◌, nat_lt, List, [], ◌∷◌, length, Option}
use Rattle.std.specs.Prelude.{Some, None, slice_get, get_or, if◌then◌else◌}
use Rattle.std.specs.List.{AllByRecursion}
use Rattle.std.proofs.Common.{◌≡◌, refl, sym, ap, ◌∙◌, subst, arith}
use Rattle.std.proofs.Math.Nat.{mul_assoc, mul_comm, mul-mod_left}
use Rattle.std.proofs.lemmas.Nat.{pow-add}
use Rattle.vg_lin.specs.declared.instr.Operand.{Operand}
use Rattle.vg_lin.specs.declared.instr.Operand.TheVariants.{Local, Known}
use Rattle.vg_lin.specs.declared.instr.Operator.{Operator}
use Rattle.vg_lin.specs.declared.instr.Operator.TheVariants.{Plus, Minus, Times, Divide, Remainder, And, Or, Xor, ShiftLeft, ShiftRight}
use Rattle.vg_lin.specs.declared.instr.Computation.{Computation}
use Rattle.vg_lin.specs.declared.instr.Plain.TheVariants.{Copy, Compute, Product}
use Rattle.vg_lin.specs.declared.instr.Instr.{Instr}
use Rattle.vg_lin.specs.declared.instr.Instr.TheVariants.{Plain}
use Rattle.vg_lin.specs.Values.{low, computed}
use Rattle.vg_lin.specs.Sound.{IsWidth}
use Rattle.vg_lin.specs.Program.{Procedure}
use Rattle.vg_lin.specs.State.{LocalState, State, value, value_in, using, with_local, sets}
use Rattle.vg_lin.specs.Meaning.{language, codes_in}
use Rattle.vg_lin.specs.Steps.{Goes, Config, went, performed, steps}
use Rattle.vg_lin.specs.Follows.{Leads, conf}
use Rattle.vg_lin.proofs.Followed.{leads_then, leads_step}
use Rattle.vg_arith.proofs.ShiftRoutines.{some_is, fetch_of, by_width}
use Rattle.vg_expand.specs.Expansion.{IsHeld, Holds, Does}
use Rattle.vg_expand.specs.Code.{worked_out}
use Rattle.vg_expand.specs.Code.{Base, cut_to, is_narrow, narrow_or, product_of, power_from, power_of, shifted_by, joined_by}
use Rattle.vg_expand.specs.Code.{by_difference, by_sum, is_in, in_two, by_power, by_factor, multiplying, computing, base_of}
use Rattle.vg_expand.proofs.Holding.{sets_holds}
use Rattle.vg_expand.proofs.Computing.{StandAt, Set, set_is, cut, cuts, kept_does, shifts_left, shifts_right, division_does, call_of_product}

-- ---- numbers

power_is : (left n k r : ℕ) → power_from left n k ≡ Some r → 2 ^ r ≡ k
power_is zero n k r e = absurd (grind arith)
power_is (suc left) n k r e = by_test (λ g. power_is left (suc n) k r g) (2 ^ n == k) refl e
  where
    same : (a b : ℕ) → (a == b) ≡ true → a ≡ b
    same a b e = grind arith

    by_test : (power_from left (suc n) k ≡ Some r → 2 ^ r ≡ k) → (b : Bool) → (2 ^ n == k) ≡ b → (if b then Some n else power_from left (suc n) k) ≡ Some r
        → 2 ^ r ≡ k
    by_test more true f g = ap (λ z. 2 ^ z) (sym (some_is n r g)) ∙ same (2 ^ n) k f
    by_test more false f g = more g

some_of : (k : ℕ) → (k == 0) ≡ false → 0 < k
some_of zero e = absurd (grind arith)
some_of (suc k) e = omega arith

-- a shift by as many bits as the width has, or more, leaves nothing of a product either
shift_is : (w x n : ℕ) → IsWidth w → computed ShiftLeft w x n ≡ Some (low w (x * 2 ^ n))
shift_is w x n hw = by_test (nat_lt n (8 * w)) refl
  where
    bits : 256 ^ w ≡ 2 ^ (8 * w)
    bits = by_width (λ w. 256 ^ w ≡ 2 ^ (8 * w)) w hw refl refl refl refl

    above : (a b : ℕ) → nat_lt a b ≡ false → b ≤ a
    above a b e = grind arith

    none : 8 * w ≤ n → low w (x * 2 ^ n) ≡ 0
    none h =
        let i = n - 8 * w in let s : i + 8 * w ≡ n = omega (arith, h) in
        ap (λ z. low w (x * 2 ^ z)) (sym s) ∙ ap (λ z. low w (x * z)) (pow-add 2 i (8 * w) ∙ ap (λ z. 2 ^ i * z) (sym bits))
        ∙ ap (low w) (sym (mul_assoc x (2 ^ i) (256 ^ w))) ∙ mul-mod_left (x * 2 ^ i) (256 ^ w)

    by_test : (b : Bool) → nat_lt n (8 * w) ≡ b → Some (if b then low w (x * 2 ^ n) else 0) ≡ Some (low w (x * 2 ^ n))
    by_test true e = refl
    by_test false e = ap Some (sym (none (above n (8 * w) e)))

-- what is kept of a sum, and of a difference, where a local of t bytes holds the first number on the way
sum_kept : (w t u x : ℕ) → IsWidth w → IsWidth t → low t (low w (low t (low w u) + x)) ≡ low t (low w (u + x))
sum_kept w t u x hw ht =
    by_width (λ w. low t (low w (low t (low w u) + x)) ≡ low t (low w (u + x))) w hw
    (by_width (λ t. low t (low 1 (low t (low 1 u) + x)) ≡ low t (low 1 (u + x))) t ht (omega arith) (omega arith) (omega arith) (omega arith))
    (by_width (λ t. low t (low 2 (low t (low 2 u) + x)) ≡ low t (low 2 (u + x))) t ht (omega arith) (omega arith) (omega arith) (omega arith))
    (by_width (λ t. low t (low 3 (low t (low 3 u) + x)) ≡ low t (low 3 (u + x))) t ht (omega arith) (omega arith) (omega arith) (omega arith))
    (by_width (λ t. low t (low 4 (low t (low 4 u) + x)) ≡ low t (low 4 (u + x))) t ht (omega arith) (omega arith) (omega arith) (omega arith))

abbrev less : ℕ → ℕ → ℕ → ℕ → ℕ
less w t u x = low t (low w (low t (low w (u + x)) + (256 ^ w - low w x)))

difference_kept : (w t u x : ℕ) → IsWidth w → IsWidth t → less w t u x ≡ low t (low w u)
difference_kept w t u x hw ht =
    by_width (λ w. less w t u x ≡ low t (low w u)) w hw
    (by_width (λ t. less 1 t u x ≡ low t (low 1 u)) t ht (omega arith) (omega arith) (omega arith) (omega arith))
    (by_width (λ t. less 2 t u x ≡ low t (low 2 u)) t ht (omega arith) (omega arith) (omega arith) (omega arith))
    (by_width (λ t. less 3 t u x ≡ low t (low 3 u)) t ht (omega arith) (omega arith) (omega arith) (omega arith))
    (by_width (λ t. less 4 t u x ≡ low t (low 4 u)) t ht (omega arith) (omega arith) (omega arith) (omega arith))

-- ---- values

-- an operand of one byte has a value of one byte
narrow_local : (ws : List ℕ) (ls : List LocalState) (i x : ℕ) → Holds ws ls → (get_or ws i 4 == 1) ≡ true → value_in (slice_get ls i) ≡ Some x → x < 256
narrow_local [] [] i x h n e = absurd (grind arith)
narrow_local [] (l ∷ ls) i x h n e = absurd h
narrow_local (w ∷ ws) [] i x h n e = absurd h
narrow_local (w ∷ ws) (l ∷ ls) zero x (g, v, h) n e = one w (same w n) (subst (IsHeld w) e v)
  where
    same : (w : ℕ) → (w == 1) ≡ true → w ≡ 1
    same w n = grind arith

    one : (w : ℕ) → w ≡ 1 → x < 256 ^ w → x < 256
    one w e h = subst (λ k. x < 256 ^ k) e h
narrow_local (w ∷ ws) (l ∷ ls) (suc i) x (g, v, h) n e = narrow_local ws ls i x h n e

narrow_value : (ws : List ℕ) (s : State) (a : Operand) (x : ℕ) → Holds ws s.locals → is_narrow ws a ≡ true → value a s ≡ Some x → x < 256
narrow_value ws s (Local i) x h n e = narrow_local ws s.locals i x h n e
narrow_value ws s (Known v) x h n e = subst (λ k. k < 256) (some_is v x e) (below v n)
  where
    below : (v : ℕ) → nat_lt v 256 ≡ true → v < 256
    below v n = grind arith

-- another local keeps its value
other_local : (ls : List LocalState) (to i v : ℕ) → (i == to) ≡ false → value_in (slice_get (with_local ls to v) i) ≡ value_in (slice_get ls i)
other_local [] to i v e = refl
other_local (l ∷ ls) zero zero v e = absurd (grind arith)
other_local (l ∷ ls) zero (suc i) v e = refl
other_local (l ∷ ls) (suc to) zero v e = refl
other_local (l ∷ ls) (suc to) (suc i) v e = other_local ls to i v (less_one i to e)
  where
    less_one : (i to : ℕ) → (suc i == suc to) ≡ false → (i == to) ≡ false
    less_one i to e = grind arith

other_value : (a : Operand) (to v x : ℕ) (s : State) → is_in a to ≡ false → value a s ≡ Some x → value a (sets to v s) ≡ Some x
other_value (Local i) to v x s e h = other_local s.locals to i v e ∙ h
other_value (Known k) to v x s e h = h

-- ---- the forms

length_cut : (w to from : ℕ) → suc from + cuts (nat_lt w 4) ≡ from + suc (length (cut_to w to))
length_cut w to from = by_test (nat_lt w 4)
  where
    by_test : (b : Bool) → suc from + cuts b
        ≡ from + suc (length (if b then Plain (Compute (record { operator = Plus; width = w; to = to; left = Local to; right = Known 0 })) ∷ [] else []))
    by_test true = omega arith
    by_test false = omega arith

module _ (first : ℕ) (m : Procedure) (from width to : ℕ) (left right : Operand) (ws : AllByRecursion IsWidth m.widths) (hw : IsWidth width)
    (within : to < length m.widths) where
  abbrev pub base : Base
  base = base_of first m

  abbrev pub of : Operator → Operand → Operand → Computation
  of op a b = record { operator = op; width = width; to = to; left = a; right = b }

  abbrev pub c : Computation
  c = of Times left right

  -- the code does the product of two operands
  abbrev pub DoesProduct : List Instr → Operand → Operand → Type 0
  DoesProduct xs a b = Does first m from (from + length xs) (of Times a b)

  none_does : (a : Operand) (k : ℕ) → (k == 0) ≡ true → StandAt m.code from (Plain (Copy to (Known 0)) ∷ []) → DoesProduct (Plain (Copy to (Known 0))
      ∷ []) a (Known k)
  none_does a k n (f, g) p q has routines fs s w x y z held e h r =
      subst (λ j. Leads (language p) (codes_in p.procedures) 1 (conf q from fs s w) (conf q j fs (sets to z s) w)) (next from)
      (leads_step (language p) (codes_in p.procedures) (conf q from fs s w) (conf q (suc from) fs (sets to z s) w)
      (ap (performed (language p) (conf q from fs s w)) (fetch_of p.procedures q m has from ∙ f) ∙ ap (λ v. conf q (suc from) fs (sets to v s) w) zero_is))
    where
      next : (from : ℕ) → suc from ≡ from + 1
      next from = omega arith

      zero_of : (k : ℕ) → (k == 0) ≡ true → k ≡ 0
      zero_of k n = grind arith

      y_is : y ≡ 0
      y_is = sym (some_is k y h) ∙ zero_of k n

      low_zero : low width 0 ≡ 0
      low_zero = by_width (λ w. low w 0 ≡ 0) width hw refl refl refl refl

      nothing : (x : ℕ) → 0 ≡ x * 0
      nothing x = omega arith

      zero_is : 0 ≡ z
      zero_is = sym low_zero ∙ ap (low width) (nothing x ∙ ap (λ v. x * v) (sym y_is)) ∙ some_is _ z r

  shift_does : (a : Operand) (k n : ℕ) → 2 ^ n ≡ k → StandAt m.code from (shifted_by c a n ∷ []) → DoesProduct (shifted_by c a n ∷ []) a (Known k)
  shift_does a k n pw st p q has routines fs s w x y z held e h r =
      kept_does first m from (of ShiftLeft a (Known n)) st p q has routines fs s w x n z held e refl
      (shift_is width x n hw ∙ ap (λ v. Some (low width (x * v))) (pw ∙ some_is k y h) ∙ r)

  -- a shift, and then a sum or a difference with the operand
  two_does : (op : Operator) (a : Operand) (k n : ℕ) → is_in a to ≡ false → StandAt m.code from (shifted_by c a n ∷ joined_by op c a ∷ [])
      → ((t u x : ℕ) → IsWidth t → (v : ℕ) × (computed op width (low t (low width (x * 2 ^ n))) x ≡ Some v) × (low t v ≡ low t (low width (x * k))))
      → DoesProduct (shifted_by c a n ∷ joined_by op c a ∷ []) a (Known k)
  two_does op a k n other (f, (g, l)) law p q has routines fs s w x y z held e h r =
      joined (law local.width u x local.is_width)
    where
      u : ℕ
      u = low width (x * 2 ^ n)

      local : Set s.locals to u
      local = set_is m.widths s.locals to u held ws within

      shifted : Leads (language p) (codes_in p.procedures) 1 (conf q from fs s w) (conf q (from + 1) fs (sets to u s) w)
      shifted = kept_does first m from (of ShiftLeft a (Known n)) (f, tt {0}) p q has routines fs s w x n u held e refl (shift_is width x n hw)

      one_more : (from : ℕ) → suc from ≡ from + 1
      one_more from = omega arith

      two_more : (from : ℕ) → from + 1 + 1 ≡ from + 2
      two_more from = omega arith

      joined : (v : ℕ) × (computed op width (low local.width u) x ≡ Some v) × (low local.width v ≡ low local.width (low width (x * k)))
          → Leads (language p) (codes_in p.procedures) 1 (conf q from fs s w) (conf q (from + 2) fs (sets to z s) w)
      joined (v, d, i) =
          subst (λ ls. Leads (language p) (codes_in p.procedures) 1 (conf q from fs s w) (conf q (from + 2) fs (record s { locals = ls }) w))
          (local.again v ∙ local.same v z (i ∙ ap (low local.width) (ap (λ b. low width (x * b)) (some_is k y h) ∙ some_is _ z r)))
          (subst (λ j. Leads (language p) (codes_in p.procedures) 1 (conf q from fs s w) (conf q j fs (sets to v (sets to u s)) w)) (two_more from)
          (leads_then_one (conf q from fs s w) (conf q (from + 1) fs (sets to u s) w) (conf q (from + 1 + 1) fs (sets to v (sets to u s)) w) shifted
          (kept_does first m (from + 1) (of op (Local to) a) (
            subst (λ j. slice_get m.code j ≡ Some (joined_by op c a))
                (one_more from) g,
            tt {0},
          ) p q has routines fs
          (sets to u s) w (low local.width u) x v (sets_holds m.widths s.locals to u held) local.holds (other_value a to u x s other e) d)))
        where
          leads_then_one : (b d e : Config State) → Leads (language p) (codes_in p.procedures) 1 b d → Leads (language p) (codes_in p.procedures) 1 d e
              → Leads (language p) (codes_in p.procedures) 1 b e
          leads_then_one b d e t v = fewer b e (leads_then (language p) (codes_in p.procedures) 1 1 b d e t v)
            where
              fewer : (b e : Config State) → Leads (language p) (codes_in p.procedures) 2 b e → Leads (language p) (codes_in p.procedures) 1 b e
              fewer b e t = record { by = λ k. less_of k (t.by k) }
                where
                  less_of : (k : ℕ) → (j : ℕ) × (k + 2 ≤ j) × (steps (language p) (codes_in p.procedures) j b ≡ steps (language p) (codes_in p.procedures) k e)
                      → (j : ℕ) × (k + 1 ≤ j) × (steps (language p) (codes_in p.procedures) j b ≡ steps (language p) (codes_in p.procedures) k e)
                  less_of k (j, g, e) = (j, omega (arith, g), e)

  sum_law : (k n : ℕ) → 2 ^ n + 1 ≡ k → (t u x : ℕ) → IsWidth t
      → (v : ℕ) × (computed Plus width (low t (low width (x * 2 ^ n))) x ≡ Some v) × (low t v ≡ low t (low width (x * k)))
  sum_law k n pw t u x ht = (
    low width (low t (low width (x * 2 ^ n)) + x),
    refl,
    sum_kept width t (x * 2 ^ n) x hw ht ∙ ap (λ v. low t (low width v)) (factor x (2 ^ n) ∙ ap (λ v. x * v) pw),
  )
    where
      factor : (x b : ℕ) → x * b + x ≡ x * (b + 1)
      factor x b = omega arith

  difference_law : (k n : ℕ) → 2 ^ n ≡ k + 1 → (t u x : ℕ) → IsWidth t
      → (v : ℕ) × (computed Minus width (low t (low width (x * 2 ^ n))) x ≡ Some v) × (low t v ≡ low t (low width (x * k)))
  difference_law k n pw t u x ht = (
    low width (low t (low width (x * 2 ^ n)) + (256 ^ width - low width x)),
    refl,
    ap (λ v. low t (low width (low t (low width v) + (256 ^ width - low width x)))) (ap (λ v. x * v) pw ∙ factor x k)
        ∙ difference_kept width t (x * k) x hw ht,
  )
    where
      factor : (x k : ℕ) → x * (k + 1) ≡ x * k + x
      factor x k = omega arith

  -- the product of two bytes
  bytes_do : (a b : Operand) → (is_narrow m.widths a && is_narrow m.widths b) ≡ true → StandAt m.code from (Plain (Product to a b) ∷ cut_to width to)
      → DoesProduct (Plain (Product to a b) ∷ cut_to width to) a b
  bytes_do a b n (f, g) p q has routines fs s w x y z held e h r =
      subst (λ j. Leads (language p) (codes_in p.procedures) 1 (conf q from fs s w) (conf q j fs (sets to z s) w)) (length_cut width to from)
      (cut first m c p q has routines fs s w from (x * y) z hw (some_is _ z r) (set_is m.widths s.locals to (x * y) held ws within) (nat_lt width 4) refl g
      (leads_step (language p) (codes_in p.procedures) (conf q from fs s w) (conf q (suc from) fs (sets to (x * y) s) w)
      (ap (performed (language p) (conf q from fs s w)) (fetch_of p.procedures q m has from ∙ f)
      ∙ ap (λ v. went (conf q from fs s w) (using v (λ i. using (value b s) (λ j. Goes (sets to (low 1 i * low 1 j) s) w.outside)))) e
      ∙ ap (λ v. went (conf q from fs s w) (using v (λ j. Goes (sets to (low 1 x * low 1 j) s) w.outside))) h
      ∙ ap (λ i. conf q (suc from) fs (sets to (i * low 1 y) s) w) (a_byte x (narrow_value m.widths s a x held (first_of _ _ n) e))
      ∙ ap (λ j. conf q (suc from) fs (sets to (x * j) s) w) (a_byte y (narrow_value m.widths s b y held (second_of _ _ n) h)))))
    where
      first_of : (a b : Bool) → (a && b) ≡ true → a ≡ true
      first_of true b e = refl
      first_of false b e = absurd (grind arith)

      second_of : (a b : Bool) → (a && b) ≡ true → b ≡ true
      second_of true b e = e
      second_of false b e = absurd (grind arith)

      a_byte : (x : ℕ) → x < 256 → low 1 x ≡ x
      a_byte x h = omega (arith, h)

  product_does : (a b : Operand) → StandAt m.code from (product_of base c a b) → DoesProduct (product_of base c a b) a b
  product_does a b st = by_test (is_narrow m.widths a && is_narrow m.widths b) refl st
    where
      by_test : (t : Bool) → (is_narrow m.widths a && is_narrow m.widths b) ≡ t → StandAt m.code from (narrow_or t first c a b)
          → DoesProduct (narrow_or t first c a b) a b
      by_test true n st = bytes_do a b n st
      by_test false n st = call_of_product first m from width to left right ws hw within a b st

  -- ---- products with a known number

  difference_does : (a : Operand) (k : ℕ) → is_in a to ≡ false → (o : Option ℕ) → power_of (k + 1) ≡ o → StandAt m.code from (by_difference base c a k o)
      → DoesProduct (by_difference base c a k o) a (Known k)
  difference_does a k other (Some n) e st = two_does Minus a k n other st (difference_law k n (power_is 32 0 (k + 1) n e))
  difference_does a k other None e st = product_does a (Known k) st

  sum_does : (a : Operand) (k : ℕ) → 0 < k → is_in a to ≡ false → (o : Option ℕ) → power_of (k - 1) ≡ o → StandAt m.code from (by_sum base c a k o)
      → DoesProduct (by_sum base c a k o) a (Known k)
  sum_does a k some other (Some n) e st =
      two_does Plus a k n other st (sum_law k n (let f : 2 ^ n ≡ k - 1 = power_is 32 0 (k - 1) n e in omega (arith, f, some)))
  sum_does a k some other None e st = difference_does a k other (power_of (k + 1)) refl st

  in_two_does : (a : Operand) (k : ℕ) → 0 < k → (t : Bool) → is_in a to ≡ t → StandAt m.code from (in_two base c a k t)
      → DoesProduct (in_two base c a k t) a (Known k)
  in_two_does a k some true e st = product_does a (Known k) st
  in_two_does a k some false e st = sum_does a k some e (power_of (k - 1)) refl st

  power_does : (a : Operand) (k : ℕ) → 0 < k → (o : Option ℕ) → power_of k ≡ o → StandAt m.code from (by_power base c a k o)
      → DoesProduct (by_power base c a k o) a (Known k)
  power_does a k some (Some n) e st = shift_does a k n (power_is 32 0 k n e) st
  power_does a k some None e st = in_two_does a k some (is_in a to) refl st

  factor_does : (a : Operand) (k : ℕ) (t : Bool) → (k == 0) ≡ t → StandAt m.code from (by_factor base c a k t)
      → DoesProduct (by_factor base c a k t) a (Known k)
  factor_does a k true e st = none_does a k e st
  factor_does a k false e st = power_does a k (some_of k e) (power_of k) refl st

  -- both operands are known
  known_does : (j k : ℕ) → StandAt m.code from (Plain (Copy to (Known (worked_out width (j * k)))) ∷ [])
      → DoesProduct (Plain (Copy to (Known (worked_out width (j * k)))) ∷ []) (Known j) (Known k)
  known_does j k (f, g) p q has routines fs s w x y z held e h r =
      subst (λ i. Leads (language p) (codes_in p.procedures) 1 (conf q from fs s w) (conf q i fs (sets to z s) w)) (next from)
      (leads_step (language p) (codes_in p.procedures) (conf q from fs s w) (conf q (suc from) fs (sets to z s) w)
      (ap (performed (language p) (conf q from fs s w)) (fetch_of p.procedures q m has from ∙ f)
      ∙ ap (λ v. conf q (suc from) fs (sets to v s) w) (worked (j * k) ∙ ap (λ v. low width (v * k)) (some_is j x e)
      ∙ ap (λ v. low width (x * v)) (some_is k y h) ∙ some_is _ z r)))
    where
      next : (from : ℕ) → suc from ≡ from + 1
      next from = omega arith

      worked : (n : ℕ) → worked_out width n ≡ low width n
      worked n = by_width (λ w. worked_out w n ≡ low w n) width hw refl refl refl refl

  -- the operands may change places
  turned_does : (xs : List Instr) (a b : Operand) → DoesProduct xs a b → DoesProduct xs b a
  turned_does xs a b does p q has routines fs s w x y z held e h r =
      does p q has routines fs s w y x z held h e (ap (λ v. Some (low width v)) (mul_comm y x) ∙ r)

  multiplying_does : (a b : Operand) → StandAt m.code from (multiplying base c a b) → DoesProduct (multiplying base c a b) a b
  multiplying_does (Known j) (Known k) st = known_does j k st
  multiplying_does (Local i) (Known k) st = factor_does (Local i) k (k == 0) refl st
  multiplying_does (Known k) (Local i) st =
      turned_does (by_factor base c (Local i) k (k == 0)) (Local i) (Known k) (factor_does (Local i) k (k == 0) refl st)
  multiplying_does (Local i) (Local j) st = product_does (Local i) (Local j) st

  -- ---- all operators

  pub computing_does : (op : Operator) → StandAt m.code from (computing base (of op left right) op)
      → Does first m from (from + length (computing base (of op left right) op)) (of op left right)
  computing_does Plus st = kept_does first m from (of Plus left right) st
  computing_does Minus st = kept_does first m from (of Minus left right) st
  computing_does Times st = multiplying_does left right st
  computing_does Divide st = division_does first m from width to left right ws hw within Divide 0 refl refl (λ k. refl) (λ y. tt {0}) st
  computing_does Remainder st = division_does first m from width to left right ws hw within Remainder 1 refl refl (λ k. refl) (λ y. tt {0}) st
  computing_does And st = kept_does first m from (of And left right) st
  computing_does Or st = kept_does first m from (of Or left right) st
  computing_does Xor st = kept_does first m from (of Xor left right) st
  computing_does ShiftLeft st = shifts_left first m from width to left right ws hw within st
  computing_does ShiftRight st = shifts_right first m from width to left right ws hw within st
