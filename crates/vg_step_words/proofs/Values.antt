-- How many words operators take.
use Rattle.std.specs.Prelude.{ℕ, ◌+◌, ◌-◌, ◌*◌, ◌%◌, ◌^◌, ◌≤◌, Bool, true, false, ◌==◌, nat_lt, nat_le, if◌then◌else◌, List, [], ◌∷◌, Option, Some, None}
use Rattle.std.proofs.Common.{◌≡◌, refl, arith}
use Rattle.vg_firm.specs.declared.step.Operator.{Operator}
use Rattle.vg_firm.specs.declared.step.Operator.TheVariants.{Plus, Minus, Times, Divide, Remainder, Less, AtMost, Greater, AtLeast, Equal, Unequal}
use Rattle.vg_firm.specs.declared.step.Operator.TheVariants.{And, Or, Xor, ShiftLeft, ShiftRight, Concat}
use Rattle.vg_firm.specs.declared.step.Prefix.{Prefix}
use Rattle.vg_firm.specs.declared.step.Prefix.TheVariants.{Negative, Not, Complement, Cut}
use Rattle.vg_lin.specs.declared.instr.Operand.{Operand}
use Rattle.vg_lin.specs.declared.instr.Operand.TheVariants.{Local, Known}
use Rattle.vg_lin.specs.declared.instr.Operator.{Operator as LinOperator}
use Rattle.vg_lin.specs.declared.instr.Operator.TheVariants.{Plus as Sum, Minus as Difference, Times as Product, And as Both', Or as Either', Xor as Unlike}
use Rattle.vg_lin.specs.declared.instr.Operator.TheVariants.{Divide as Quotient, Remainder as Rest, ShiftLeft as LeftShift, ShiftRight as RightShift}
use Rattle.vg_lin.specs.declared.instr.Computation.{Computation}
use Rattle.vg_lin.specs.declared.instr.Plain.TheVariants.{Compute}
use Rattle.vg_lin.specs.declared.instr.Instr.TheVariants.{Plain}
use Rattle.vg_flatten_shapes.specs.declared.room.Room.{Room}
use Rattle.vg_flatten_shapes.specs.declared.open.Truth.TheVariants.{Holds}
use Rattle.vg_flatten_shapes.specs.Shapes.{temp}
use Rattle.vg_flatten_shapes.specs.Blocks.{Skip, stop_where}
use Rattle.vg_flatten_shapes.specs.Made.{is_zero}
use Rattle.vg_flatten_values.specs.Values.{computing, comparing, computed, operated, operated_as, bytes_of, bytes_around, bytes_for, cut_bits, cut, applied}
use Rattle.vg_flatten_values.specs.Values.{masked, shifted_left, shifted_right, divisor_checked, may_be_zero}
use Rattle.vg_expand.specs.Code.{cut_to, power_of, is_in, by_difference, by_sum, in_two, by_power, by_factor}
use Rattle.vg_instr_words.specs.Words.{work_words, is_inside, found_words}
use Rattle.vg_step_words.specs.Words.{list_words, unknown, grown_words, block_words}
use Rattle.vg_step_words.specs.Steps.{operator_words, prefix_words}
use Rattle.vg_step_words.proofs.Operands.{bytes_few, reach_few, found_few, zero_test_few, shift_left_few, shift_right_few}
use Rattle.vg_step_words.proofs.Made.{Within, within_temp, within_if}

-- ---- computations

pub work_few : (o : LinOperator) (a : Operand) (n : ℕ) → work_words o a n ≤ 3 + n + n
work_few o a n = by_inside (is_inside o a)
  where
    by_inside : (b : Bool) → (if b then n else found_words a n + n) ≤ 3 + n + n
    by_inside true = omega arith
    by_inside false = let few = found_few a n in omega (arith, few)

abbrev AtMostFour : Option ℕ → Type 0
AtMostFour (Some w) = w ≤ 4
AtMostFour None = Unit {0}

four_if : (b : Bool) (w : ℕ) (o : Option ℕ) → w ≤ 4 → AtMostFour o → AtMostFour (if b then Some w else o)
four_if true w o h g = h
four_if false w o h g = g

whole_few : (bits : ℕ) → AtMostFour (bytes_of bits)
whole_few bits =
    four_if (bits == 8) 1 _ (omega arith) (four_if (bits == 16) 2 _ (omega arith)
    (four_if (bits == 24) 3 _ (omega arith) (four_if (bits == 32) 4 None (omega arith) tt)))

around_few : (bits : ℕ) → AtMostFour (bytes_around bits)
around_few bits =
    four_if (nat_lt bits 8) 1 _ (omega arith) (four_if (nat_lt bits 16) 2 _ (omega arith)
    (four_if (nat_lt bits 24) 3 _ (omega arith) (four_if (nat_lt bits 32) 4 None (omega arith) tt)))

for_few : (bits : ℕ) → bytes_for bits ≤ 4
for_few bits = by (nat_le bits 8) (nat_le bits 16) (nat_le bits 24)
  where
    by : (a b c : Bool) → (if a then 1 else if b then 2 else if c then 3 else 4) ≤ 4
    by true b c = omega arith
    by false true c = omega arith
    by false false true = omega arith
    by false false false = omega arith

module _ (cases : ℕ → ℕ) where
  abbrev work : LinOperator → (w to : ℕ) → (x y : Operand) → ℕ
  work o w to x y = grown_words cases (Plain (Compute (record { operator = o; width = w; to = to; left = x; right = y })))

  cut_few : (w to : ℕ) → list_words cases (cut_to w to) ≤ 16
  cut_few w to = by (nat_lt w 4) refl
    where
      by : (b : Bool) → nat_lt w 4 ≡ b
          → list_words cases (if b then Plain (Compute (record { operator = Sum; width = w; to = to; left = Local to; right = Known 0 })) ∷ [] else []) ≤ 16
      by true e = let small : w ≤ 3 = grind (arith, e) in omega (arith, small)
      by false e = omega arith

  module _ (w to : ℕ) (x y : Operand) (le : w ≤ 4) where
    pub sum_few : work Sum w to x y ≤ 25
    sum_few = let a = reach_few x in let b = work_few Sum y w in omega (arith, a, b, le)

    pub difference_few : work Difference w to x y ≤ 25
    difference_few = let a = reach_few x in let b = work_few Difference y w in omega (arith, a, b, le)

    both_few : work Both' w to x y ≤ 25
    both_few = let a = reach_few x in let b = work_few Both' y w in omega (arith, a, b, le)

    either_few : work Either' w to x y ≤ 25
    either_few = let a = reach_few x in let b = work_few Either' y w in omega (arith, a, b, le)

    unlike_few : work Unlike w to x y ≤ 25
    unlike_few = let a = reach_few x in let b = work_few Unlike y w in omega (arith, a, b, le)

  masks_few : (w to v : ℕ) (x : Operand) → w ≤ 4 → work Both' w to x (Known v) ≤ 22
  masks_few w to v x le = let a = reach_few x in let b = bytes_few w v in omega (arith, a, b, le)

  left_few : (w to : ℕ) (x y : Operand) → w ≤ 4 → work LeftShift w to x y ≤ 42
  left_few w to x (Known n) le = let few = shift_left_few w x n le in omega (arith, few)
  left_few w to x (Local k) le = let a = reach_few x in let c = cut_few w to in omega (arith, a, c)

  right_few : (w to : ℕ) (x y : Operand) → w ≤ 4 → work RightShift w to x y ≤ 67
  right_few w to x (Known n) le = let few = shift_right_few w x n le in omega (arith, few)
  right_few w to x (Local k) le = let a = found_few x 4 in let b = bytes_few 4 (if nat_lt w 4 then 256 ^ w - 1 else 0xFFFFFFFF) in
      let c = cut_few w to in omega (arith, a, b, c)

  -- ---- products

  module _ (to i : ℕ) (x y : Operand) where
    abbrev c : Computation
    c = record { operator = Product; width = 4; to = to; left = x; right = y }

    difference_few' : (k : ℕ) (o : Option ℕ) → list_words cases (by_difference unknown c (Local i) k o) ≤ 67
    difference_few' k (Some n) = let few = shift_left_few 4 (Local i) n (omega arith) in omega (arith, few)
    difference_few' k None = omega arith

    sum_few' : (k : ℕ) (o : Option ℕ) → list_words cases (by_sum unknown c (Local i) k o) ≤ 67
    sum_few' k (Some n) = let few = shift_left_few 4 (Local i) n (omega arith) in omega (arith, few)
    sum_few' k None = difference_few' k (power_of (k + 1))

    two_few : (k : ℕ) (over : Bool) → list_words cases (in_two unknown c (Local i) k over) ≤ 67
    two_few k true = omega arith
    two_few k false = sum_few' k (power_of (k - 1))

    power_few : (k : ℕ) (o : Option ℕ) → list_words cases (by_power unknown c (Local i) k o) ≤ 67
    power_few k (Some n) = let few = shift_left_few 4 (Local i) n (omega arith) in omega (arith, few)
    power_few k None = two_few k (is_in (Local i) to)

    factor_few : (k : ℕ) (none : Bool) → list_words cases (by_factor unknown c (Local i) k none) ≤ 67
    factor_few k true = omega arith
    factor_few k false = power_few k (power_of k)

  product_few : (to : ℕ) (x y : Operand) → work Product 4 to x y ≤ 67
  product_few to (Known j) (Known k) = let few = bytes_few 4 ((j * k) % 2 ^ 32) in omega (arith, few)
  product_few to (Local i) (Known k) = factor_few to i (Local i) (Known k) k (k == 0)
  product_few to (Known k) (Local i) = factor_few to i (Known k) (Local i) k (k == 0)
  product_few to (Local i) (Local j) = omega arith

  -- ---- quotients

  quotient_few : (to : ℕ) (x y : Operand) → work Quotient 4 to x y ≤ 41
  quotient_few to x y = let a = found_few x 4 in let b = found_few y 4 in omega (arith, a, b)

  rest_few : (to : ℕ) (x y : Operand) → work Rest 4 to x y ≤ 42
  rest_few to x y = let a = found_few x 4 in let b = found_few y 4 in omega (arith, a, b)

  divisor_few : (y : Operand) → block_words cases (divisor_checked y) ≤ 16
  divisor_few y = by (may_be_zero y)
    where
      by : (b : Bool) → block_words cases (if b then stop_where 3 (Holds (is_zero y)) else Skip) ≤ 16
      by true = let few = zero_test_few y in omega (arith, few)
      by false = omega arith

  -- ---- operators

  module _ (r : Room) where
    -- one computation
    one_few : (o : LinOperator) (w n : ℕ) (x y : Operand) (hs : List Operand) → ((to : ℕ) → work o w to x y ≤ n) → Within cases n (computed r o w x y hs)
    one_few o w n x y hs h = within_temp cases n (temp r hs) _ (λ to. let few = h to in omega (arith, few))

    masked_few : (bits : ℕ) (o : Option ℕ) (x y : Operand) (hs : List Operand) → AtMostFour o → Within cases 64 (masked r bits o x y hs)
    masked_few bits (Some w) x y hs le =
        within_temp cases 64 (temp r hs) _ (λ to.
        let a = left_few w to x y le in let b = masks_few w to (2 ^ bits - 1) (Local to) le in omega (arith, a, b))
    masked_few bits None x y hs le = omega arith

    shift_few : (bits : ℕ) (o : Option ℕ) (x y : Operand) (hs : List Operand) → AtMostFour o → Within cases 64 (shifted_left r bits o x y hs)
    shift_few bits (Some w) x y hs le = one_few LeftShift w 64 x y hs (λ to. let few = left_few w to x y le in omega (arith, few))
    shift_few bits None x y hs le = masked_few bits (bytes_around bits) x y hs (around_few bits)

    halved_few : (bits : ℕ) (x y : Operand) (hs : List Operand) → Within cases 67 (shifted_right r bits x y hs)
    halved_few bits x (Known n) hs =
        within_if cases 67 (nat_lt n bits) _ _
        (λ e. one_few RightShift (bytes_for bits) 67 x (Known n) hs (λ to. right_few (bytes_for bits) to x (Known n) (for_few bits))) (omega arith)
    halved_few bits x (Local i) hs = one_few RightShift (bytes_for bits) 67 x (Local i) hs (λ to. right_few (bytes_for bits) to x (Local i) (for_few bits))

    operated_few : (op : Operator) (x y : Operand) (hs : List Operand)
        → Within cases (operator_words op) (operated_as r op (computing op) (comparing op x y) x y hs)
    operated_few Plus x y hs = one_few Sum 4 25 x y hs (λ to. sum_few 4 to x y (omega arith))
    operated_few Minus x y hs = one_few Difference 4 25 x y hs (λ to. difference_few 4 to x y (omega arith))
    operated_few And x y hs = one_few Both' 4 25 x y hs (λ to. both_few 4 to x y (omega arith))
    operated_few Or x y hs = one_few Either' 4 25 x y hs (λ to. either_few 4 to x y (omega arith))
    operated_few Xor x y hs = one_few Unlike 4 25 x y hs (λ to. unlike_few 4 to x y (omega arith))
    operated_few Times x y hs = one_few Product 4 67 x y hs (λ to. product_few to x y)
    operated_few Divide x y hs =
        within_temp cases 57 (temp r hs) _ (λ to. let a = divisor_few y in let b = quotient_few to x y in omega (arith, a, b))
    operated_few Remainder x y hs =
        within_temp cases 58 (temp r hs) _ (λ to. let a = divisor_few y in let b = rest_few to x y in omega (arith, a, b))
    operated_few (ShiftLeft bits) x y hs = shift_few bits (bytes_of bits) x y hs (whole_few bits)
    operated_few (ShiftRight bits) x y hs = halved_few bits x y hs
    operated_few (Concat bits) x y hs =
        within_temp cases 67 (temp r hs) _ (λ to.
        let a = left_few 4 to x (Known bits) (omega arith) in let b = sum_few 4 to (Local to) y (omega arith) in omega (arith, a, b))
    operated_few (Less o) x y hs = let a = found_few x 4 in let b = found_few y 4 in omega (arith, a, b)
    operated_few (AtMost o) x y hs = let a = found_few x 4 in let b = found_few y 4 in omega (arith, a, b)
    operated_few (Greater o) x y hs = let a = found_few x 4 in let b = found_few y 4 in omega (arith, a, b)
    operated_few (AtLeast o) x y hs = let a = found_few x 4 in let b = found_few y 4 in omega (arith, a, b)
    operated_few Equal x y hs = let a = found_few x 4 in let b = found_few y 4 in omega (arith, a, b)
    operated_few Unequal x y hs = let a = found_few x 4 in let b = found_few y 4 in omega (arith, a, b)

    pub within_operated : (op : Operator) (hs : List Operand) → Within cases (operator_words op) (operated r op hs)
    within_operated op [] = tt
    within_operated op (y ∷ []) = tt
    within_operated op (y ∷ x ∷ hs) = operated_few op x y hs

    cut_bits_few : (bits : ℕ) (o : Option ℕ) (h : Operand) (hs : List Operand) → AtMostFour o → Within cases 22 (cut_bits r bits o h hs)
    cut_bits_few bits (Some w) h hs le = one_few Both' w 22 h _ hs (λ to. masks_few w to (2 ^ bits - 1) h le)
    cut_bits_few bits None h hs le = omega arith

    cut_within : (bits : ℕ) (o : Option ℕ) (h : Operand) (hs : List Operand) → AtMostFour o → Within cases 22 (cut r bits o h hs)
    cut_within bits (Some w) h hs le = one_few Sum w 22 h (Known 0) hs (λ to. let a = reach_few h in omega (arith, a, le))
    cut_within bits None h hs le = cut_bits_few bits (bytes_around bits) h hs (around_few bits)

    -- a number is taken from a known one
    taken_few : (w v : ℕ) (h : Operand) (hs : List Operand) → w ≤ 4 → Within cases 22 (computed r Difference w (Known v) h hs)
    taken_few w v h hs le = one_few Difference w 22 (Known v) h hs (λ to. let b = work_few Difference h w in omega (arith, b, le))

    pub within_applied : (op : Prefix) (hs : List Operand) → Within cases (prefix_words op) (applied r op hs)
    within_applied Not [] = tt
    within_applied Negative [] = tt
    within_applied (Cut bits) [] = tt
    within_applied (Complement bits) [] = tt
    within_applied Not (h ∷ hs) = let few = zero_test_few h in omega (arith, few)
    within_applied Negative (h ∷ hs) = taken_few 4 0 h hs (omega arith)
    within_applied (Cut bits) (h ∷ hs) = cut_within bits (bytes_of bits) h hs (whole_few bits)
    within_applied (Complement bits) (h ∷ hs) =
        within_if cases 22 (nat_le bits 32) _ _ (λ e. taken_few (bytes_for bits) (2 ^ bits - 1) h hs (for_few bits)) (omega arith)
