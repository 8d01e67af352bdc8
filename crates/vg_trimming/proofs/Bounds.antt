-- What is known of how much locals have at most: what instructions give, in how few bytes they do it, and what tests say then.
use Rattle.std.specs.Prelude.{ℕ, zero, suc, ◌+◌, ◌-◌, ◌*◌, ◌/◌, ◌<◌, ◌≤◌, ◌^◌, bit_and, bit_or, bit_xor, Bool, true, false, ◌&&◌, nat_lt, nat_le}
use Rattle.std.specs.Prelude.{List}
use Rattle.std.specs.Prelude.{Some, if◌then◌else◌}
use Rattle.std.specs.List.{AllByRecursion}
use Rattle.std.proofs.Common.{◌≡◌, refl, sym, ap, ◌∙◌, subst, arith}
use Rattle.std.proofs.Common.{pow-add}
use Rattle.std.proofs.Math.Nat.{pow-suc, pow-le-pow_right, le_trans, mod-le, mul-le-mul_left, mul-le-mul_right, div-le_self, div-mul-le_self, div-eq_of_lt}
use Rattle.std.proofs.Math.Nat.{one-le-pow}
use Rattle.std.proofs.lemmas.Bool.{and_parts}
use Rattle.std.proofs.lemmas.Option.{same_Some}
use Rattle.std.proofs.lemmas.Nat.{and_le_l, and_le_r, or_lt, xor_lt, le-div}
use Rattle.vg_lin.specs.declared.instr.Operand.{Operand}
use Rattle.vg_lin.specs.declared.instr.Operand.TheVariants.{Local, Known}
use Rattle.vg_lin.specs.declared.instr.Operator.{Operator}
use Rattle.vg_lin.specs.declared.instr.Operator.TheVariants.{Plus, Minus, Times, Divide, Remainder, And, Or, Xor, ShiftLeft, ShiftRight}
use Rattle.vg_lin.specs.declared.instr.Computation.{Computation}
use Rattle.vg_lin.specs.Values.{low, computed}
use Rattle.vg_lin.specs.Sound.{IsWidth}
use Rattle.vg_lin.specs.State.{State, value}
use Rattle.vg_expand.specs.Expansion.{Holds}
use Rattle.vg_trimming.specs.declared.facts.Bound.{Bound}
use Rattle.vg_trimming.specs.Facts.{greatest, most_in, most_of, lesser, untold, most_joined, most_shifted, most_made, most_computed}
use Rattle.vg_trimming.specs.Trimming.{fits_most, fits_bounds}
use Rattle.vg_trimming.proofs.Homes.{no, at_most, is_more, most_fits, fits_most_in, low_small, AreBounded, most_holds}
use Rattle.vg_trimming.proofs.Values.{computed_below}

-- ---- numbers

pub lesser_holds : (a b v : ℕ) → v ≤ a → v ≤ b → v ≤ lesser a b
lesser_holds a b v h g = by_test (nat_le a b)
  where
    by_test : (t : Bool) → v ≤ (if t then a else b)
    by_test true = h
    by_test false = g

most_in_few : (w : ℕ) → most_in w ≤ greatest
most_in_few w = by_four (nat_le 4 w)
  where
    by_one : (b : Bool) → (if b then 255 else 0) ≤ greatest
    by_one true = omega arith
    by_one false = omega arith

    by_two : (b : Bool) → (if b then 65535 else if nat_le 1 w then 255 else 0) ≤ greatest
    by_two true = omega arith
    by_two false = by_one (nat_le 1 w)

    by_three : (b : Bool) → (if b then 16777215 else if nat_le 2 w then 65535 else if nat_le 1 w then 255 else 0) ≤ greatest
    by_three true = omega arith
    by_three false = by_two (nat_le 2 w)

    by_four : (b : Bool) → (if b then greatest else if nat_le 3 w then 16777215 else if nat_le 2 w then 65535 else if nat_le 1 w then 255 else 0) ≤ greatest
    by_four true = omega arith
    by_four false = by_three (nat_le 3 w)

product_most : (x y a b : ℕ) → x ≤ a → y ≤ b → x * y ≤ a * b
product_most x y a b h g = le_trans (mul-le-mul_left x g) (mul-le-mul_right b h)

shifted_less : (x a n : ℕ) → x ≤ a → x / 2 ^ n ≤ a / 2 ^ n
shifted_less x a n h =
    le-div (x / 2 ^ n) a (2 ^ n) (let p = one-le-pow n 2 (omega arith) in omega (arith, p)) (le_trans (div-mul-le_self x (2 ^ n)) h)

-- bits of both
joined_most : (x y a b z : ℕ) → x ≤ a → y ≤ b → ((k : ℕ) → x < 2 ^ k → y < 2 ^ k → z < 2 ^ k) → most_joined a b ≤ greatest → z ≤ most_joined a b
joined_most x y a b z h g bits = by_one (nat_le a 255 && nat_le b 255) refl
  where
    below : (k m : ℕ) → 2 ^ k ≡ suc m → (nat_le a m && nat_le b m) ≡ true → z ≤ m
    below k m e f =
        let i = and_parts (nat_le a m) (nat_le b m) f in
        let ka = at_most a m i.0 in
        let kb = at_most b m i.1 in
        let less = bits k (omega (arith, e, h, ka)) (omega (arith, e, g, kb)) in omega (arith, e, less)

    by_two : (t : Bool) → (nat_le a 65535 && nat_le b 65535) ≡ t → (if t then 65535 else untold) ≤ greatest → z ≤ (if t then 65535 else untold)
    by_two true e f = below 16 65535 refl e
    by_two false e f = absurd (omega (arith, f))

    by_one : (t : Bool) → (nat_le a 255 && nat_le b 255) ≡ t
        → (if t then 255 else if nat_le a 65535 && nat_le b 65535 then 65535 else untold) ≤ greatest
        → z ≤ (if t then 255 else if nat_le a 65535 && nat_le b 65535 then 65535 else untold)
    by_one true e f = below 8 255 refl e
    by_one false e f = by_two (nat_le a 65535 && nat_le b 65535) refl f

-- ---- what comes of two values

module _ (a b x y : ℕ) (h : x ≤ a) (g : y ≤ b) where
  cut : (w z v m : ℕ) → Some (low w z) ≡ Some v → z ≤ m → v ≤ m
  cut w z v m e k = let less = mod-le z (256 ^ w) in let same = same_Some (low w z) v e in omega (arith, less, same, k)

  and_most : bit_and x y ≤ lesser a b
  and_most =
      let l = and_le_l x y in let r = and_le_r x y in lesser_holds a b (bit_and x y) (omega (arith, l, h)) (omega (arith, r, g))

  or_most : most_joined a b ≤ greatest → bit_or x y ≤ most_joined a b
  or_most = joined_most x y a b (bit_or x y) h g (λ k. or_lt k x y)

  xor_most : most_joined a b ≤ greatest → bit_xor x y ≤ most_joined a b
  xor_most = joined_most x y a b (bit_xor x y) h g (λ k. xor_lt k x y)

  right_most : (w v : ℕ) (r : Operand) (s : State) → value r s ≡ Some y → Some (if nat_lt y (8 * w) then low w x / 2 ^ y else 0) ≡ Some v
      → v ≤ most_shifted a r
  right_most w v r s er e = by_right r er
    where
      by_bits : (t : Bool) → (if t then low w x / 2 ^ y else 0) ≤ x / 2 ^ y
      by_bits true = shifted_less (low w x) x y (mod-le x (256 ^ w))
      by_bits false = omega arith

      shifted : v ≤ a / 2 ^ y
      shifted =
          let k = by_bits (nat_lt y (8 * w)) in
          let same = same_Some (if nat_lt y (8 * w) then low w x / 2 ^ y else 0) v e in
          let i = shifted_less x a y h in omega (arith, k, same, i)

      whole : v ≤ a
      whole = let k = div-le_self a (2 ^ y) in omega (arith, k, shifted)

      by_few : (n : ℕ) (t : Bool) → n ≡ y → v ≤ (if t then a / 2 ^ n else a)
      by_few n true f = subst (λ k. v ≤ a / 2 ^ k) (sym f) shifted
      by_few n false f = whole

      by_right : (r : Operand) → value r s ≡ Some y → v ≤ most_shifted a r
      by_right (Known n) f = by_few n (nat_lt n 32) (same_Some n y f)
      by_right (Local i) f = whole

  made_most : (op : Operator) (w v : ℕ) (r : Operand) (s : State) → value r s ≡ Some y → computed op w x y ≡ Some v → most_made op a b r ≤ greatest
      → v ≤ most_made op a b r
  made_most Plus w v r s er e f = cut w (x + y) v (a + b) e (omega (arith, h, g))
  made_most Times w v r s er e f = cut w (x * y) v (a * b) e (product_most x y a b h g)
  made_most And w v r s er e f = cut w (bit_and x y) v (lesser a b) e and_most
  made_most Or w v r s er e f = cut w (bit_or x y) v (most_joined a b) e (or_most f)
  made_most Xor w v r s er e f = cut w (bit_xor x y) v (most_joined a b) e (xor_most f)
  made_most ShiftRight w v r s er e f = right_most w v r s er e
  made_most Minus w v r s er e f = absurd (omega (arith, f))
  made_most Divide w v r s er e f = absurd (omega (arith, f))
  made_most Remainder w v r s er e f = absurd (omega (arith, f))
  made_most ShiftLeft w v r s er e f = absurd (omega (arith, f))

  -- ---- in fewer bytes

  same_cut : (w v z m : ℕ) → v ≤ w → z ≤ m → m ≤ most_in v → Some (low w z) ≡ Some (low v z)
  same_cut w v z m le k f =
      let small = most_fits v z (omega (arith, k, f)) in ap Some (low_small w z v small le ∙ sym (low_small v z v small (omega arith)))

  few : (m v : ℕ) → m ≤ most_in v → m ≤ greatest
  few m v f = let k = most_in_few v in omega (arith, f, k)

  bits_in : (v : ℕ) → 256 ^ v ≡ 2 ^ (8 * v)
  bits_in zero = refl
  bits_in (suc v) =
      let e : 8 * suc v ≡ 8 * v + 8 = omega arith in
      pow-suc 256 v ∙ (ap (λ k. k * 256) (bits_in v) ∙ (sym (pow-add 2 (8 * v) 8) ∙ ap (λ k. 2 ^ k) (sym e)))

  same_shifted : (w v : ℕ) → v ≤ w → a ≤ most_in v
      → Some (if nat_lt y (8 * w) then low w x / 2 ^ y else 0) ≡ Some (if nat_lt y (8 * v) then low v x / 2 ^ y else 0)
  same_shifted w v le f = ap Some (by_narrow (nat_lt y (8 * v)) refl)
    where
      small : x < 256 ^ v
      small = most_fits v x (omega (arith, h, f))

      less : (k : ℕ) → nat_lt y k ≡ true → y < k
      less k e = grind arith

      not_less : (k : ℕ) → nat_lt y k ≡ false → k ≤ y
      not_less k e = grind arith

      more : (k : ℕ) → y < k → nat_lt y k ≡ true
      more k e = grind arith

      none : 8 * v ≤ y → x / 2 ^ y ≡ 0
      none k =
          let wide : 2 ^ (8 * v) ≤ 2 ^ y = pow-le-pow_right (omega arith) k in
          let same = bits_in v in div-eq_of_lt (omega (arith, small, same, wide))

      nothing : (t : Bool) → 8 * v ≤ y → (if t then low w x / 2 ^ y else 0) ≡ 0
      nothing true k = ap (λ z. z / 2 ^ y) (low_small w x v small le) ∙ none k
      nothing false k = refl

      by_narrow : (t : Bool) → nat_lt y (8 * v) ≡ t
          → (if nat_lt y (8 * w) then low w x / 2 ^ y else 0) ≡ (if t then low v x / 2 ^ y else 0)
      by_narrow true e =
          let k = less (8 * v) e in
          ap (λ t. if t then low w x / 2 ^ y else 0) (more (8 * w) (omega (arith, k, le)))
          ∙ ap (λ z. z / 2 ^ y) (low_small w x v small le ∙ sym (low_small v x v small (omega arith)))
      by_narrow false e = nothing (nat_lt y (8 * w)) (not_less (8 * v) e)

  pub fewer_bytes : (op : Operator) (w v : ℕ) (r : Operand) → v ≤ w → fits_most op v a b r ≡ true → computed op w x y ≡ computed op v x y
  fewer_bytes Plus w v r le f = same_cut w v (x + y) (a + b) le (omega (arith, h, g)) (at_most (a + b) (most_in v) f)
  fewer_bytes Times w v r le f = same_cut w v (x * y) (a * b) le (product_most x y a b h g) (at_most (a * b) (most_in v) f)
  fewer_bytes And w v r le f = same_cut w v (bit_and x y) (lesser a b) le and_most (at_most (lesser a b) (most_in v) f)
  fewer_bytes Or w v r le f =
      let k = at_most (most_joined a b) (most_in v) f in
      same_cut w v (bit_or x y) (most_joined a b) le (or_most (few (most_joined a b) v k)) k
  fewer_bytes Xor w v r le f =
      let k = at_most (most_joined a b) (most_in v) f in
      same_cut w v (bit_xor x y) (most_joined a b) le (xor_most (few (most_joined a b) v k)) k
  fewer_bytes ShiftRight w v r le f = same_shifted w v le (at_most a (most_in v) f)
  fewer_bytes Minus w v r le f = no f
  fewer_bytes Divide w v r le f = no f
  fewer_bytes Remainder w v r le f = no f
  fewer_bytes ShiftLeft w v r le f = no f

-- ---- what a computation gives

pub computed_most : (o : List ℕ) (bs : List Bound) (c : Computation) (s : State) (x y z v : ℕ) → AllByRecursion IsWidth o → Holds o s.locals
    → AreBounded bs s → value c.left s ≡ Some x → value c.right s ≡ Some y → computed c.operator c.width x y ≡ Some z → v ≤ z → v ≤ greatest
    → v ≤ most_computed o bs c
computed_most o bs c s x y z v ws held bounded ex ey e le small =
    lesser_holds made (most_in c.width) v (by_told (nat_le made greatest) refl)
    (fits_most_in c.width v (let k = computed_below c.operator c.width x y z e in omega (arith, k, le)) small)
  where
    made : ℕ
    made = most_made c.operator (most_of o bs c.left) (most_of o bs c.right) c.right

    by_told : (t : Bool) → nat_le made greatest ≡ t → v ≤ made
    by_told true f =
        let k = made_most (most_of o bs c.left) (most_of o bs c.right) x y (most_holds o bs c.left x s ws held bounded ex)
        (most_holds o bs c.right y s ws held bounded ey) c.operator c.width z c.right s ey e (at_most made greatest f) in
        omega (arith, k, le)
    by_told false f = let k = is_more made greatest f in omega (arith, k, small)

pub computed_fewer : (o : List ℕ) (bs : List Bound) (c : Computation) (s : State) (v x y : ℕ) → AllByRecursion IsWidth o → Holds o s.locals
    → AreBounded bs s → value c.left s ≡ Some x → value c.right s ≡ Some y → v ≤ c.width → fits_bounds o bs c v ≡ true
    → computed c.operator c.width x y ≡ computed c.operator v x y
computed_fewer o bs c s v x y ws held bounded ex ey le f =
    fewer_bytes (most_of o bs c.left) (most_of o bs c.right) x y (most_holds o bs c.left x s ws held bounded ex)
    (most_holds o bs c.right y s ws held bounded ey) c.operator c.width v c.right le f
