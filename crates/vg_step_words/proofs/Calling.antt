-- How many words calls and delegates take, and tests and casts of objects.
use Rattle.std.specs.Prelude.{ℕ, zero, suc, ◌+◌, ◌-◌, ◌*◌, ◌^◌, ◌≤◌, Bool, true, false, nat_lt, nat_le, if◌then◌else◌, List, [], ◌∷◌, length, reverse, take}
use Rattle.std.specs.Prelude.{drop}
use Rattle.std.specs.Prelude.{Option, Some, None, slice_get}
use Rattle.std.proofs.Common.{◌≡◌, refl, arith}
use Rattle.std.proofs.lemmas.List.{length-take-le, length-reverse}
use Rattle.vg_lin.specs.declared.instr.Operand.{Operand}
use Rattle.vg_lin.specs.declared.instr.Operand.TheVariants.{Local, Known}
use Rattle.vg_lin.specs.declared.instr.Callee.{Callee}
use Rattle.vg_lin.specs.declared.instr.Callee.TheVariants.{Procedure as ByNumber, Code as ByCode}
use Rattle.vg_lin.specs.declared.instr.Passed.{Passed}
use Rattle.vg_lin.specs.declared.instr.Target.{Target}
use Rattle.vg_lin.specs.Meaning.{operands}
use Rattle.vg_flatten_shapes.specs.declared.layout.Layout.{Layout}
use Rattle.vg_flatten_shapes.specs.declared.layout.Passing.{Passing}
use Rattle.vg_flatten_shapes.specs.declared.layout.Width.{Width}
use Rattle.vg_flatten_shapes.specs.declared.layout.Width.TheVariants.{One as OneByte, Two as TwoBytes, Three as ThreeBytes, Four as FourBytes}
use Rattle.vg_flatten_shapes.specs.Widths.{bytes_of}
use Rattle.vg_flatten_shapes.specs.declared.room.Room.{Room}
use Rattle.vg_flatten_shapes.specs.Shapes.{temp, taken}
use Rattle.vg_flatten_shapes.specs.Made.{Made}
use Rattle.vg_flatten_places.specs.Places.{null_check}
use Rattle.vg_flatten_steps.specs.Calls.{in_widths, registers_of, call_with, passing, passing_of, with_taken, with_receiver, resulting, called, passing_found}
use Rattle.vg_flatten_steps.specs.Calls.{called_on, called_for, called_by, called_value, bound_for}
use Rattle.vg_flatten_steps.specs.Objects.{is_near, is_one_of, cast_to}
use Rattle.vg_templates.specs.Flow.{goes_by_registers}
use Rattle.vg_instr_words.specs.Words.{found_words, carried_words, dropped_words, passed_words, callee_words, result_words, test_words}
use Rattle.vg_step_words.specs.Words.{block_words, pushes_words}
use Rattle.vg_step_words.proofs.Operands.{bytes_few, reach_few, found_few, zero_test_few}
use Rattle.vg_step_words.proofs.Made.{Within, within_more, within_temp, within_if}
use Rattle.vg_step_words.proofs.Values.{sum_few}
use Rattle.vg_step_words.proofs.Places.{null_few, stop_few, distance_few}

-- ---- arguments

-- what an argument takes, whether it is pushed as one of many, pushed and dropped, or carried in registers
abbrev arg_words : Passed → ℕ
arg_words a = found_words a.value a.width + a.width + 4 + (a.width - 4)

abbrev args_words : List Passed → ℕ
args_words [] = 0
args_words (a ∷ as') = arg_words a + args_words as'

parted : (n : ℕ) (xs : List Passed) → args_words (take n xs) + args_words (drop n xs) ≡ args_words xs
parted zero xs = omega arith
parted (suc n) [] = omega arith
parted (suc n) (x ∷ xs) = let rest = parted n xs in omega (arith, rest)

pushed_few : (cases : ℕ → ℕ) (xs : List Passed) → pushes_words cases xs + 4 * length xs ≤ args_words xs
pushed_few cases [] = omega arith
pushed_few cases (x ∷ xs) = let rest = pushed_few cases xs in omega (arith, rest)

carried_few : (xs : List Passed) → carried_words xs ≤ args_words xs
carried_few [] = omega arith
carried_few (x ∷ xs) = let one = one_few x.value in let rest = carried_few xs in omega (arith, one, rest)
  where
    one_few : (a : Operand) → carried_words (record { width = x.width; value = a } ∷ []) ≤ arg_words (record { width = x.width; value = a })
    one_few (Local k) = omega arith
    one_few (Known v) = omega arith

dropped_few : (xs : List Passed) → dropped_words xs ≤ args_words xs
dropped_few [] = omega arith
dropped_few (x ∷ xs) = let rest = dropped_few xs in omega (arith, rest)

passed_few : (b : Bool) (xs : List Passed) → passed_words b xs ≤ args_words xs
passed_few true xs = carried_few xs
passed_few false xs = dropped_few xs

registers_few : (b : Bool) (xs : List Passed) → passed_words b (operands (registers_of xs)) ≤ args_words xs
registers_few true [] = omega arith
registers_few false [] = omega arith
registers_few b (x ∷ []) = passed_few b (x ∷ [])
registers_few b (x ∷ y ∷ []) = passed_few b (x ∷ y ∷ [])
registers_few b (x ∷ y ∷ z ∷ []) = passed_few b (x ∷ y ∷ z ∷ [])
registers_few b (x ∷ y ∷ z ∷ u ∷ []) = passed_few b (x ∷ y ∷ z ∷ u ∷ [])
registers_few true (x ∷ y ∷ z ∷ u ∷ v ∷ xs) = omega arith
registers_few false (x ∷ y ∷ z ∷ u ∷ v ∷ xs) = omega arith

passing_few : (cases : ℕ → ℕ) (callee : Callee) (to : Option Target) (xs : List Passed)
    → block_words cases (passing callee to xs) ≤ args_words xs + callee_words callee + result_words to
passing_few cases callee to xs =
    let n = length xs - 4 in
    let push = pushed_few cases (take n xs) in
    let count = length-take-le n xs (omega arith) in
    let pass = registers_few (goes_by_registers (call_with callee to xs)) (drop n xs) in
    let all = parted n xs in omega (arith, push, count, pass, all)

-- a value in at most four bytes
arg_few : (w : Width) (a : Operand) → arg_words (record { width = bytes_of w; value = a }) ≤ 15
arg_few OneByte a = let few = found_few a 1 in omega (arith, few)
arg_few TwoBytes a = let few = found_few a 2 in omega (arith, few)
arg_few ThreeBytes a = let few = found_few a 3 in omega (arith, few)
arg_few FourBytes a = let few = found_few a 4 in omega (arith, few)

none_few : (w : Width) → arg_words (record { width = bytes_of w; value = Known 0 }) ≤ 8
none_few OneByte = omega arith
none_few TwoBytes = omega arith
none_few ThreeBytes = omega arith
none_few FourBytes = omega arith

widths_few : (ws : List Width) (xs : List Operand) → args_words (in_widths ws xs) ≤ 15 * length xs
widths_few [] [] = omega arith
widths_few (w ∷ ws) [] = omega arith
widths_few [] (a ∷ xs) = let one = arg_few FourBytes a in let rest = widths_few [] xs in omega (arith, one, rest)
widths_few (w ∷ ws) (a ∷ xs) = let one = arg_few w a in let rest = widths_few ws xs in omega (arith, one, rest)

receiver_few : (b : Bool) (ws : List Width) (xs : List Operand) → args_words (in_widths ws (with_receiver b xs)) ≤ 8 + 15 * length xs
receiver_few false ws xs = let all = widths_few ws xs in omega (arith, all)
receiver_few true [] xs = let rest = widths_few [] xs in omega (arith, rest)
receiver_few true (w ∷ ws) xs = let one = none_few w in let rest = widths_few ws xs in omega (arith, one, rest)

callee_few : (a : Operand) → callee_words (ByCode a) ≤ 7
callee_few (Local k) = omega arith
callee_few (Known v) = omega arith

module _ (cases : ℕ → ℕ) where
  -- a receiver in two bytes, and others in four
  found_few' : (callee : Callee) (to : ℕ) (h : Operand) (xs : List Operand)
      → block_words cases (passing_found callee to (h ∷ xs)) ≤ 18 + callee_words callee + 15 * length xs
  found_few' callee to h xs =
      let all = passing_few cases callee (Some (record { width = 4; local = to })) (in_widths (TwoBytes ∷ []) (h ∷ xs)) in
      let one = found_few h 2 in
      let rest = widths_few [] xs in omega (arith, all, one, rest)

  -- what is made with so many arguments
  within_taken : (n count : ℕ) (hs : List Operand) (go : List Operand → List Operand → Made)
      → ((xs rest : List Operand) → length xs ≤ count → Within cases n (go xs rest)) → Within cases n (with_taken (taken count hs) go)
  within_taken n count hs go h = by_count (nat_le count (length hs)) refl
    where
      long : nat_le count (length hs) ≡ true → length (reverse (take count hs)) ≤ count
      long e =
          let le : count ≤ length hs = grind (arith, e) in
          let l = length-reverse (take count hs) in
          let t = length-take-le count hs le in
          omega (arith, l, t)

      by_count : (b : Bool) → nat_le count (length hs) ≡ b
          → Within cases n (with_taken (if b then Some (record { args = reverse (take count hs); rest = drop count hs }) else None) go)
      by_count true e = h (reverse (take count hs)) (drop count hs) (long e)
      by_count false e = tt

  module _ (r : Room) where
    resulting_few : (n : ℕ) (callee : Callee) (o : Option Width) (xs : List Passed) (rest : List Operand) → args_words xs + callee_words callee + 7 ≤ n
        → Within cases n (resulting r callee o xs rest)
    resulting_few n callee (Some w) xs rest h =
        within_temp cases n (temp r rest) _ (λ to.
        let few = passing_few cases callee (Some (record { width = bytes_of w; local = to })) xs in omega (arith, few, h))
    resulting_few n callee None xs rest h = let few = passing_few cases callee None xs in omega (arith, few, h)

    pub within_called : (lay : Layout) (q count : ℕ) (hs : List Operand) → Within cases (17 + 15 * count) (called lay r q count hs)
    within_called lay q count hs =
        within_taken (17 + 15 * count) count hs _ (λ xs rest le. resulting_few (17 + 15 * count) (ByNumber q) p.result
        (in_widths p.widths (with_receiver p.receives xs)) rest (let few = receiver_few p.receives p.widths xs in omega (arith, few, le)))
      where
        p : Passing
        p = passing_of (slice_get lay.passing q)

    on_few : (d code count : ℕ) (xs rest : List Operand) → length xs ≤ count + 1 → Within cases (55 + 8 * cases d + 15 * count) (called_on r d code xs rest)
    on_few d code count [] rest le = tt
    on_few d code count (h ∷ xs) rest le =
        within_temp cases (55 + 8 * cases d + 15 * count) (temp r rest) _ (λ to.
        let null = null_few cases r h in let reach = reach_few h in let call = found_few' (ByCode (Local code)) to h xs in omega (arith, null, reach, call, le))

    pub within_called_for : (d count : ℕ) (hs : List Operand) → Within cases (55 + 8 * cases d + 15 * count) (called_for r d count hs)
    within_called_for d count hs =
        within_temp cases (55 + 8 * cases d + 15 * count) (temp r hs) _ (λ code.
        within_taken (55 + 8 * cases d + 15 * count) (count + 1) hs _ (λ xs rest le. on_few d code count xs rest le))

    by_few : (receiver count : ℕ) (xs rest : List Operand) → length xs ≤ count + 1 → Within cases (53 + 15 * count) (called_by r receiver xs rest)
    by_few receiver count [] rest le = tt
    by_few receiver count (h ∷ xs) rest le =
        within_temp cases (53 + 15 * count) (temp r rest) _ (λ to.
        let null = stop_few cases h in let reach = reach_few h in let callee = callee_few h in
        let call = found_few' (ByCode h) to (Local receiver) xs in omega (arith, null, reach, callee, call, le))

    pub within_called_value : (count : ℕ) (hs : List Operand) → Within cases (53 + 15 * count) (called_value r count hs)
    within_called_value count hs =
        within_temp cases (53 + 15 * count) (temp r hs) _ (λ receiver.
        within_taken (53 + 15 * count) (count + 1) hs _ (λ xs rest le. by_few receiver count xs rest le))

    -- a delegate of an object, whose null check takes so many words
    pub within_bound : (n d : ℕ) (h : Operand) (hs : List Operand) → block_words cases (null_check r h) ≤ n
        → Within cases (53 + 8 * cases d + n) (bound_for r d (h ∷ hs))
    within_bound n d h hs null =
        within_temp cases (53 + 8 * cases d + n) (temp r hs) _ (λ to. within_temp cases (53 + 8 * cases d + n) (temp r (h ∷ hs)) _ (λ above.
        let reach = reach_few h in let sum = sum_few cases 4 to (Local to) (Local above) (omega arith) in omega (arith, null, reach, sum)))

    pub within_bound_for : (d : ℕ) (hs : List Operand) → Within cases (69 + 8 * cases d) (bound_for r d hs)
    within_bound_for d [] = tt
    within_bound_for d (h ∷ hs) =
        within_more cases (53 + 8 * cases d + 16) (69 + 8 * cases d) _ (omega arith) (within_bound 16 d h hs (null_few cases r h))

    -- ---- objects

    near_few : (to count : ℕ) → test_words (is_near to count) ≤ 15
    near_few to count = let bytes = bytes_few 4 count in omega (arith, bytes)

    pub within_one_of : (first count : ℕ) (hs : List Operand) → Within cases 53 (is_one_of r first count hs)
    within_one_of first count [] = tt
    within_one_of first count (h ∷ hs) =
        within_if cases 53 (nat_lt (first + count) (2 ^ 32)) _ _ (λ e. within_temp cases 53 (temp r hs) _ (λ to.
        let far = distance_few cases to first h in let near = near_few to count in omega (arith, far, near))) tt

    pub within_cast : (first count : ℕ) (hs : List Operand) → Within cases 52 (cast_to r first count hs)
    within_cast first count [] = tt
    within_cast first count (h ∷ hs) =
        within_if cases 52 (nat_lt (first + count) (2 ^ 32)) _ _ (λ e. within_temp cases 52 (temp r (h ∷ hs)) _ (λ to.
        let null = zero_test_few h in let far = distance_few cases to first h in let near = near_few to count in omega (arith, null, far, near))) tt
