-- That for each step and each form of code at most so many instructions stand.
use Rattle.std.specs.Prelude.{ℕ, zero, suc, ◌+◌, ◌-◌, ◌*◌, ◌≤◌, ◌^◌, Bool, true, false, ◌==◌, ◌&&◌, nat_lt, nat_le, List, [], ◌∷◌, length}
use Rattle.std.specs.Prelude.{reverse, take, drop, Option, Some, None, slice_get, if◌then◌else◌}
use Rattle.std.proofs.Common.{◌≡◌, refl, ap, subst, arith}
use Rattle.std.proofs.lemmas.List.{length-reverse, length-take-le}
use Rattle.vg_meaning.specs.Code.{Code, Nothing, Then, Do, If, Loop, Break, Continue, Return}
use Rattle.vg_firm.specs.declared.step.Operator.{Operator}
use Rattle.vg_firm.specs.declared.step.Operator.TheVariants.{Plus, Minus, Times, Divide, Remainder, Less, AtMost, Greater, AtLeast, Equal, Unequal}
use Rattle.vg_firm.specs.declared.step.Operator.TheVariants.{And, Or, Xor, ShiftLeft, ShiftRight, Concat}
use Rattle.vg_firm.specs.declared.step.Prefix.{Prefix}
use Rattle.vg_firm.specs.declared.step.Prefix.TheVariants.{Negative, Not, Complement, Cut}
use Rattle.vg_firm.specs.declared.step.ArrayPlace.{ArrayPlace}
use Rattle.vg_firm.specs.declared.step.Elements.{Elements}
use Rattle.vg_firm.specs.declared.step.Step.{Step}
use Rattle.vg_firm.specs.declared.step.Step.TheVariants.{Number, This, Local as GetLocal, SetLocal, Forget, Operate, Apply, ReadDevice, WriteDevice}
use Rattle.vg_firm.specs.declared.step.Step.TheVariants.{Load, Store}
use Rattle.vg_firm.specs.declared.step.Step.TheVariants.{LoadAt, StoreAt, LoadNothing, StoreNothing, LoadItem, StoreItem, Length, IsWithin}
use Rattle.vg_firm.specs.declared.step.Step.TheVariants.{StopUnlessWithin, Bind, BindFor, Call, CallFor, CallValue, Idle}
use Rattle.vg_firm.specs.Program.{Procedure}
use Rattle.vg_lin.specs.declared.instr.Operand.{Operand}
use Rattle.vg_lin.specs.declared.instr.Operand.TheVariants.{Local, Known}
use Rattle.vg_lin.specs.declared.instr.Operator.{Operator as LinOperator}
use Rattle.vg_lin.specs.declared.instr.Operator.TheVariants.{Times as Product}
use Rattle.vg_lin.specs.declared.instr.Plain.TheVariants.{Compute}
use Rattle.vg_lin.specs.declared.instr.Memory.{Memory}
use Rattle.vg_lin.specs.declared.instr.Passed.{Passed}
use Rattle.vg_lin.specs.declared.instr.Target.{Target}
use Rattle.vg_lin.specs.declared.instr.Callee.{Callee}
use Rattle.vg_lin.specs.declared.instr.Callee.TheVariants.{Procedure as ByNumber, Code as ByCode}
use Rattle.vg_flatten_shapes.specs.declared.fault.Fault.TheVariants.{NotTaken}
use Rattle.vg_flatten_shapes.specs.declared.open.Truth.{Truth}
use Rattle.vg_flatten_shapes.specs.declared.open.Truth.TheVariants.{Holds}
use Rattle.vg_flatten_shapes.specs.declared.layout.Place.{Place}
use Rattle.vg_flatten_shapes.specs.declared.layout.Layout.{Layout}
use Rattle.vg_flatten_shapes.specs.declared.layout.Passing.{Passing}
use Rattle.vg_flatten_shapes.specs.declared.layout.Width.{Width}
use Rattle.vg_flatten_shapes.specs.declared.layout.Width.TheVariants.{Two as TwoBytes}
use Rattle.vg_flatten_shapes.specs.Widths.{bytes_of as bytes_of_width}
use Rattle.vg_flatten_shapes.specs.declared.room.Room.{Room}
use Rattle.vg_flatten_shapes.specs.Shapes.{Shape, only, empty, is_empty, is_free, same_operand, same_homes, taken, temp}
use Rattle.vg_flatten_shapes.specs.Blocks.{Block, Skip, One, BreakOut, GoOn, Choice, Repeat, stop_where}
use Rattle.vg_flatten_shapes.specs.Blocks.{open_code, block_size}
use Rattle.vg_flatten_shapes.proofs.Sizes.{block_long}
use Rattle.vg_flatten_shapes.specs.Made.{Made, Gives, Refused, behind, after, by_temp, settled, settled_as, Tested, tested, is_zero}
use Rattle.vg_flatten_values.specs.Values.{computing, comparing, computed, operated, operated_as, bytes_of, bytes_around, cut_bits, cut, applied}
use Rattle.vg_flatten_values.specs.Values.{divided, masked, shifted_left, shifted_right, combined, divisor_checked, may_be_zero}
use Rattle.vg_flatten_places.specs.Places.{is_width, fetched, fetched_from, load_one, load_of, length_of, lone_of, known_length, array_length, places_in, memory_of, multiplied}
use Rattle.vg_flatten_places.specs.Places.{store_one, store_of, is_place, load_inside, load_item, store_inside, store_item, no_element}
use Rattle.vg_flatten_steps.specs.Locals.{at_local, set_local, forgotten, written}
use Rattle.vg_flatten_steps.specs.Calls.{in_widths, passing, passing_of, with_receiver, with_taken, resulting, called, passing_found, called_on, called_for, called_by, called_value, bound_for}
use Rattle.vg_flatten_steps.specs.Objects.{is_one_of, cast_to}
use Rattle.vg_flatten_places.specs.Places.{may_be_null, null_check, load_no_field, store_no_field, load_nothing, store_nothing}
use Rattle.vg_flatten_steps.specs.Steps.{stepped}
use Rattle.vg_flatten_control.specs.Flat.{landed_as, landed, joined, chosen, where_empty, repeated, repeated_test, repeated_body, repeated_next}
use Rattle.vg_flatten_control.specs.Flat.{given_back, flat}
use Rattle.vg_flatten.specs.Flattened.{zeroes, own_params, whole}
use Rattle.vg_flatten.specs.Sizes.{step_size, code_size}

-- ---- what is made

abbrev pub Small : (n : ℕ) → Made → Type 0
Small n (Gives b s) = block_size b ≤ n
Small n (Refused why) = Unit {0}

pub fewer : (n m : ℕ) (made : Made) → n ≤ m → Small n made → Small m made
fewer n m (Gives b s) le h = omega (arith, le, h)
fewer n m (Refused why) le h = tt

pub small_behind : (n m : ℕ) (a : Block) (made : Made) → block_size a ≤ n → Small m made → Small (n + m) (behind a made)
small_behind n m a (Gives b s) ha hm = omega (arith, ha, hm)
small_behind n m a (Refused why) ha hm = tt

pub small_after : (n m : ℕ) (made : Made) (more : Shape → Made) → Small n made → ((s : Shape) → Small m (more s)) → Small (n + m) (after made more)
small_after n m (Gives a s) more hm h = small_behind n m a (more s) hm (h s)
small_after n m (Refused why) more hm h = tt

pub small_temp : (n : ℕ) (o : Option ℕ) (go : ℕ → Made) → ((to : ℕ) → Small n (go to)) → Small n (by_temp o go)
small_temp n (Some to) go h = h to
small_temp n None go h = tt

pub small_if : (n : ℕ) (b : Bool) (x y : Made) → Small n x → Small n y → Small n (if b then x else y)
small_if n true x y h g = h
small_if n false x y h g = g

pub small_settled : (r : Room) (s : Shape) → Small 4 (settled r s)
small_settled r s = by_truth s.truth
  where
    by_truth : (o : Option Truth) → Small 4 (settled_as r o s.homes)
    by_truth None = omega arith
    by_truth (Some t) = small_temp 4 (temp r s.homes) _ (λ to. omega arith)

-- ---- steps

module _ (lay : Layout) (r : Room) where
  small_computed : (op : LinOperator) (width : ℕ) (a b : Operand) (hs : List Operand) → Small 12 (computed r op width a b hs)
  small_computed op width a b hs = small_temp 12 (temp r hs) _ (λ to. omega arith)

  divisor_few : (b : Operand) → block_size (divisor_checked b) ≤ 3
  divisor_few b = by_zero (may_be_zero b)
    where
      by_zero : (c : Bool) → block_size (if c then stop_where 3 (Holds (is_zero b)) else Skip) ≤ 3
      by_zero true = omega arith
      by_zero false = omega arith

  null_few : (a : Operand) → block_size (null_check r a) ≤ 3
  null_few a = by_null (may_be_null r a)
    where
      by_null : (c : Bool) → block_size (if c then stop_where 1 (Holds (is_zero a)) else Skip) ≤ 3
      by_null true = omega arith
      by_null false = omega arith

  small_divided : (op : LinOperator) (a b : Operand) (hs : List Operand) → Small 12 (divided r op a b hs)
  small_divided op a b hs = small_temp 12 (temp r hs) _ (λ to. let d = divisor_few b in omega (arith, d))

  small_masked : (bits : ℕ) (o : Option ℕ) (a b : Operand) (hs : List Operand) → Small 12 (masked r bits o a b hs)
  small_masked bits None a b hs = omega arith
  small_masked bits (Some width) a b hs = small_temp 12 (temp r hs) _ (λ to. omega arith)

  small_left : (bits : ℕ) (o : Option ℕ) (a b : Operand) (hs : List Operand) → Small 12 (shifted_left r bits o a b hs)
  small_left bits None a b hs = small_masked bits (bytes_around bits) a b hs
  small_left bits (Some width) a b hs = small_computed _ width a b hs

  small_right : (bits : ℕ) (a b : Operand) (hs : List Operand) → Small 12 (shifted_right r bits a b hs)
  small_right bits a (Known k) hs = small_if 12 (nat_lt k bits) _ _ (small_computed _ _ a (Known k) hs) (omega arith)
  small_right bits a (Local i) hs = small_computed _ _ a (Local i) hs

  small_combined : (op : Operator) (a b : Operand) (hs : List Operand) → Small 12 (combined r op a b hs)
  small_combined Divide a b hs = small_divided _ a b hs
  small_combined Remainder a b hs = small_divided _ a b hs
  small_combined (ShiftLeft bits) a b hs = small_left bits (bytes_of bits) a b hs
  small_combined (ShiftRight bits) a b hs = small_right bits a b hs
  small_combined (Concat bits) a b hs = small_temp 12 (temp r hs) _ (λ to. omega arith)
  small_combined Plus a b hs = omega arith
  small_combined Minus a b hs = omega arith
  small_combined Times a b hs = omega arith
  small_combined (Less o) a b hs = omega arith
  small_combined (AtMost o) a b hs = omega arith
  small_combined (Greater o) a b hs = omega arith
  small_combined (AtLeast o) a b hs = omega arith
  small_combined Equal a b hs = omega arith
  small_combined Unequal a b hs = omega arith
  small_combined And a b hs = omega arith
  small_combined Or a b hs = omega arith
  small_combined Xor a b hs = omega arith

  small_operated : (op : Operator) (hs : List Operand) → Small 12 (operated r op hs)
  small_operated op [] = tt
  small_operated op (b ∷ []) = tt
  small_operated op (b ∷ a ∷ hs) = by_kind (computing op) (comparing op a b)
    where
      by_kind : (o : Option LinOperator) (t : Option Truth) → Small 12 (operated_as r op o t a b hs)
      by_kind (Some lop) t = small_computed lop 4 a b hs
      by_kind None (Some t) = omega arith
      by_kind None None = small_combined op a b hs

  small_cut_bits : (bits : ℕ) (o : Option ℕ) (a : Operand) (hs : List Operand) → Small 12 (cut_bits r bits o a hs)
  small_cut_bits bits None a hs = omega arith
  small_cut_bits bits (Some width) a hs = small_computed _ width a _ hs

  small_cut : (bits : ℕ) (o : Option ℕ) (a : Operand) (hs : List Operand) → Small 12 (cut r bits o a hs)
  small_cut bits None a hs = small_cut_bits bits (bytes_around bits) a hs
  small_cut bits (Some width) a hs = small_computed _ width a _ hs

  small_applied : (op : Prefix) (hs : List Operand) → Small 12 (applied r op hs)
  small_applied Not [] = tt
  small_applied Negative [] = tt
  small_applied (Cut bits) [] = tt
  small_applied (Complement bits) [] = tt
  small_applied Not (a ∷ hs) = omega arith
  small_applied Negative (a ∷ hs) = small_computed _ 4 _ a hs
  small_applied (Cut bits) (a ∷ hs) = small_cut bits (bytes_of bits) a hs
  small_applied (Complement bits) (a ∷ hs) = small_if 12 (nat_le bits 32) _ _ (small_computed _ _ _ a hs) (omega arith)

  small_at_local : (j : ℕ) (hs : List Operand) → Small 12 (at_local r j hs)
  small_at_local j hs = small_if 12 (nat_lt j r.locals) _ _ (omega arith) tt

  small_set : (i : ℕ) (hs : List Operand) → Small 12 (set_local r i hs)
  small_set i [] = tt
  small_set i (a ∷ hs) = small_if 12 (nat_lt (r.receiver + i) r.locals && is_free (r.receiver + i) (reverse hs)) _ _ (omega arith) tt

  -- ---- calls

  small_taken : (n count : ℕ) (hs : List Operand) (go : List Operand → List Operand → Made)
      → ((xs rest : List Operand) → length xs ≤ count → Small n (go xs rest)) → Small n (with_taken (taken count hs) go)
  small_taken n count hs go h = by_count (nat_le count (length hs)) refl
    where
      long : nat_le count (length hs) ≡ true → length (reverse (take count hs)) ≤ count
      long e =
          let le : count ≤ length hs = grind arith in
          let l = length-reverse (take count hs) in
          let t = length-take-le count hs le in
          omega (arith, l, t)

      by_count : (b : Bool) → nat_le count (length hs) ≡ b
          → Small n (with_taken (if b then Some (record { args = reverse (take count hs); rest = drop count hs }) else None) go)
      by_count true e = h (reverse (take count hs)) (drop count hs) (long e)
      by_count false e = tt

  passing_few : (callee : Callee) (to : Option Target) (xs : List Passed) → block_size (passing callee to xs) ≤ length xs + 1
  passing_few callee to xs = let l = length-take-le (length xs - 4) xs (omega arith) in omega (arith, l)

  widths_long : (ws : List Width) (xs : List Operand) → length (in_widths ws xs) ≡ length xs
  widths_long [] [] = refl
  widths_long (w ∷ ws) [] = refl
  widths_long [] (a ∷ xs) = ap suc (widths_long [] xs)
  widths_long (w ∷ ws) (a ∷ xs) = ap suc (widths_long ws xs)

  found_few : (callee : Callee) (to : ℕ) (xs : List Operand) → block_size (passing_found callee to xs) ≤ length xs + 1
  found_few callee to xs =
      let p = passing_few callee (Some (record { width = 4; local = to })) (in_widths (TwoBytes ∷ []) xs) in
      let l = widths_long (TwoBytes ∷ []) xs in omega (arith, p, l)

  receiver_few : (b : Bool) (xs : List Operand) → length (with_receiver b xs) ≤ length xs + 1
  receiver_few true xs = omega arith
  receiver_few false xs = omega arith

  small_resulting : (n : ℕ) (callee : Callee) (o : Option Width) (xs : List Passed) (rest : List Operand) → length xs + 1 ≤ n
      → Small n (resulting r callee o xs rest)
  small_resulting n callee (Some w) xs rest le = small_temp n (temp r rest) _ (λ to. let p = passing_few callee (Some (record { width = bytes_of_width w; local = to })) xs in omega (arith, p, le))
  small_resulting n callee None xs rest le = let p = passing_few callee None xs in omega (arith, p, le)

  small_called : (q count : ℕ) (hs : List Operand) → Small (12 + count) (called lay r q count hs)
  small_called q count hs =
      small_taken (12 + count) count hs _ (λ xs rest le. small_resulting (12 + count) (ByNumber q) p.result
      (in_widths p.widths (with_receiver p.receives xs)) rest
      (let w = receiver_few p.receives xs in let l = widths_long p.widths (with_receiver p.receives xs) in omega (arith, w, l, le)))
    where
      p : Passing
      p = passing_of (slice_get lay.passing q)

  small_on : (d code n : ℕ) (xs rest : List Operand) → length xs ≤ n + 1 → Small (12 + n) (called_on r d code xs rest)
  small_on d code n [] rest le = tt
  small_on d code n (a ∷ xs) rest le =
      small_temp (12 + n) (temp r rest) _ (λ to. let p = found_few (ByCode (Local code)) to (a ∷ xs) in let c = null_few a in omega (arith, p, c, le))

  small_by : (receiver n : ℕ) (xs rest : List Operand) → length xs ≤ n + 1 → Small (12 + n) (called_by r receiver xs rest)
  small_by receiver n [] rest le = tt
  small_by receiver n (a ∷ xs) rest le =
      small_temp (12 + n) (temp r rest) _ (λ to. let p = found_few (ByCode a) to (Local receiver ∷ xs) in omega (arith, p, le))

  small_bound_for : (d : ℕ) (hs : List Operand) → Small 12 (bound_for r d hs)
  small_bound_for d [] = tt
  small_bound_for d (a ∷ hs) = small_temp 12 (temp r hs) _ (λ to. small_temp 12 (temp r (a ∷ hs)) _ (λ above. let c = null_few a in omega (arith, c)))

  -- ---- objects, columns and elements

  small_one_of : (first count : ℕ) (hs : List Operand) → Small 12 (is_one_of r first count hs)
  small_one_of first count [] = tt
  small_one_of first count (a ∷ hs) = small_if 12 (nat_lt (first + count) (2 ^ 32)) _ _ (small_temp 12 (temp r hs) _ (λ to. omega arith)) tt

  small_cast : (first count : ℕ) (hs : List Operand) → Small 12 (cast_to r first count hs)
  small_cast first count [] = tt
  small_cast first count (a ∷ hs) = small_if 12 (nat_lt (first + count) (2 ^ 32)) _ _ (small_temp 12 (temp r (a ∷ hs)) _ (λ to. omega arith)) tt

  small_nothing : (hs : List Operand) → Small 12 (load_nothing hs)
  small_nothing [] = tt
  small_nothing (a ∷ hs) = omega arith

  small_no_store : (hs : List Operand) → Small 12 (store_nothing hs)
  small_no_store [] = tt
  small_no_store (v ∷ []) = tt
  small_no_store (v ∷ a ∷ hs) = omega arith

  small_no_field : (hs : List Operand) → Small 12 (load_no_field r hs)
  small_no_field [] = tt
  small_no_field (a ∷ hs) = let c = null_few a in omega (arith, c)

  small_no_field_store : (hs : List Operand) → Small 12 (store_no_field r hs)
  small_no_field_store [] = tt
  small_no_field_store (v ∷ []) = tt
  small_no_field_store (v ∷ a ∷ hs) = let c = null_few a in omega (arith, c)

  multiplied_few : (to by : ℕ) (h : Operand) → block_size (multiplied to by h) ≤ 1
  multiplied_few to by h = by_one (by == 1)
    where
      by_one : (b : Bool) → block_size (if b then Skip else One (Compute (record { operator = Product; width = 2; to = to; left = h; right = Known by }))) ≤ 1
      by_one true = omega arith
      by_one false = omega arith

  small_fetched : (memory : Memory) (width by base : ℕ) (a : Operand) (hs : List Operand) → Small 12 (fetched r memory width by base a hs)
  small_fetched memory width by base a hs = small_temp 12 (temp r hs) _ (λ to. let m = multiplied_few to by a in let c = null_few a in omega (arith, m, c))

  small_fetched_from : (memory : Memory) (width first base : ℕ) (a : Operand) (hs : List Operand) → Small 12 (fetched_from r memory width first base a hs)
  small_fetched_from memory width first base a hs =
      small_temp 12 (temp r hs) _ (λ to. let m = multiplied_few to width (Local to) in let c = null_few a in omega (arith, m, c))

  small_load_one : (memory : Memory) (o : Option Place) (hs : List Operand) → Small 12 (load_one r memory o hs)
  small_load_one memory None hs = tt
  small_load_one memory (Some place) hs = small_if 12 (is_width place.width) _ _ (small_temp 12 (temp r hs) _ (λ to. omega arith)) tt

  small_load_of : (memory : Memory) (first : ℕ) (o : Option Place) (hs : List Operand) → Small 12 (load_of r memory first o hs)
  small_load_of memory first None hs = tt
  small_load_of memory first (Some place) [] = tt
  small_load_of memory first (Some place) (a ∷ hs) =
      small_if 12 (is_width place.width) _ _
      (small_if 12 (place.count == 1) _ _ (small_temp 12 (temp r hs) _ (λ to. let c = null_few a in omega (arith, c)))
      (small_if 12 (nat_le (place.width * first) place.address) _ _ (small_fetched memory place.width place.width _ a hs)
      (small_fetched_from memory place.width first place.address a hs))) tt

  small_length : (o : Option ℕ) (hs : List Operand) → Small 12 (length_of r o hs)
  small_length None hs = small_nothing hs
  small_length (Some table) [] = tt
  small_length (Some table) (a ∷ hs) = small_if 12 (nat_le 2 table) _ _ (small_fetched _ 2 4 _ a hs) tt

  small_known_length : (length : ℕ) (hs : List Operand) → Small 12 (known_length length hs)
  small_known_length length [] = tt
  small_known_length length (a ∷ hs) = omega arith

  small_array_length : (single : Option ArrayPlace) (o : Option ℕ) (hs : List Operand) → Small 12 (array_length r single o hs)
  small_array_length (Some a) o hs = small_known_length a.length hs
  small_array_length None o hs = small_length o hs

  small_store_one : (width : ℕ) (o : Option Place) (hs : List Operand) → Small 12 (store_one width o hs)
  small_store_one width None hs = tt
  small_store_one width (Some place) [] = tt
  small_store_one width (Some place) (v ∷ hs) = small_if 12 (is_width width && (width == place.width)) _ _ (omega arith) tt

  small_store_of : (first width : ℕ) (o : Option Place) (hs : List Operand) → Small 12 (store_of r first width o hs)
  small_store_of first width None hs = tt
  small_store_of first width (Some place) [] = tt
  small_store_of first width (Some place) (v ∷ []) = tt
  small_store_of first width (Some place) (v ∷ a ∷ hs) =
      small_if 12 (is_width width && (width == place.width)) _ _
      (small_if 12 (place.count == 1) _ _ (let c = null_few a in omega (arith, c))
      (small_if 12 (nat_le (width * first) place.address) _ _
      (small_temp 12 (temp r (v ∷ a ∷ hs)) _ (λ to. let m = multiplied_few to width a in let c = null_few a in omega (arith, m, c)))
      (small_temp 12 (temp r (v ∷ a ∷ hs)) _ (λ to. let m = multiplied_few to width (Local to) in let c = null_few a in omega (arith, m, c))))) tt

  small_no_element : (width table : ℕ) (a i : Operand) (hs left : List Operand) → Small 12 (no_element r width table a i hs left)
  small_no_element width table a i hs left =
      small_temp 12 (temp r (i ∷ a ∷ hs)) _ (λ first. small_temp 12 (temp r (Local first ∷ i ∷ a ∷ hs)) _ (λ second. omega arith))

  small_load_inside : (single : Option ArrayPlace) (e : Elements) (table : ℕ) (a i : Operand) (hs : List Operand)
      → Small 12 (load_inside r single e table a i hs)
  small_load_inside (Some x) e table a i hs = small_temp 12 (temp r hs) _ (λ to. let m = multiplied_few to e.width i in omega (arith, m))
  small_load_inside None e table a i hs =
      small_temp 12 (temp r hs) _ (λ to. small_temp 12 (temp r (i ∷ a ∷ hs)) _ (λ first.
      small_temp 12 (temp r (Local first ∷ i ∷ a ∷ hs)) _ (λ second. omega arith)))

  small_load_item : (single : Option ArrayPlace) (e : Elements) (o : Option Place) (u : Option ℕ) (hs : List Operand) → Small 12 (load_item r single e o u hs)
  small_load_item single e o None [] = tt
  small_load_item single e o None (i ∷ hs) = small_nothing hs
  small_load_item single e None (Some table) [] = tt
  small_load_item single e None (Some table) (i ∷ []) = tt
  small_load_item single e None (Some table) (i ∷ a ∷ hs) =
      small_if 12 (nat_le 4 table) _ _ (small_no_element e.width table a i hs (Known 0 ∷ hs)) tt
  small_load_item single e (Some place) (Some table) [] = tt
  small_load_item single e (Some place) (Some table) (i ∷ []) = tt
  small_load_item single e (Some place) (Some table) (i ∷ a ∷ hs) =
      small_if 12 (is_width e.width && is_place e place && nat_le 4 table) _ _ (small_load_inside single e table a i hs) tt

  small_store_inside : (single : Option ArrayPlace) (width table : ℕ) (v a i : Operand) (hs : List Operand)
      → Small 12 (store_inside r single width table v a i hs)
  small_store_inside (Some x) width table v a i hs = small_temp 12 (temp r (v ∷ i ∷ a ∷ hs)) _ (λ to. let m = multiplied_few to width i in omega (arith, m))
  small_store_inside None width table v a i hs =
      small_temp 12 (temp r (v ∷ i ∷ a ∷ hs)) _ (λ first. small_temp 12 (temp r (Local first ∷ v ∷ i ∷ a ∷ hs)) _ (λ second. omega arith))

  small_store_item : (single : Option ArrayPlace) (e : Elements) (o : Option Place) (u : Option ℕ) (hs : List Operand) → Small 12 (store_item r single e o u hs)
  small_store_item single e o None [] = tt
  small_store_item single e o None (v ∷ []) = tt
  small_store_item single e o None (v ∷ i ∷ hs) = small_no_store (v ∷ hs)
  small_store_item single e None (Some table) [] = tt
  small_store_item single e None (Some table) (v ∷ []) = tt
  small_store_item single e None (Some table) (v ∷ i ∷ []) = tt
  small_store_item single e None (Some table) (v ∷ i ∷ a ∷ hs) = small_if 12 (nat_le 4 table) _ _ (small_no_element e.width table a i hs hs) tt
  small_store_item single e (Some place) (Some table) [] = tt
  small_store_item single e (Some place) (Some table) (v ∷ []) = tt
  small_store_item single e (Some place) (Some table) (v ∷ i ∷ []) = tt
  small_store_item single e (Some place) (Some table) (v ∷ i ∷ a ∷ hs) =
      small_if 12 (is_width e.width && is_place e place && nat_le 4 table) _ _ (small_store_inside single e.width table v a i hs) tt

  small_forgotten : (hs : List Operand) → Small 12 (forgotten hs)
  small_forgotten [] = tt
  small_forgotten (a ∷ hs) = omega arith

  small_written : (address : ℕ) (hs : List Operand) → Small 12 (written address hs)
  small_written address [] = tt
  small_written address (a ∷ hs) = omega arith

  pub small_step : (p : Step) (hs : List Operand) → Small (step_size p - 4) (stepped lay r p hs)
  small_step (Number v) hs = small_if 12 (nat_lt v (2 ^ 32)) _ _ (omega arith) tt
  small_step This hs = small_if 12 (r.receiver == 0) _ _ (omega arith) (small_at_local 0 hs)
  small_step (GetLocal i) hs = small_at_local (r.receiver + i) hs
  small_step (SetLocal i) hs = small_set i hs
  small_step Forget hs = small_forgotten hs
  small_step (Operate op) hs = small_operated op hs
  small_step (Apply op) hs = small_applied op hs
  small_step (ReadDevice address) hs = small_temp 12 (temp r hs) _ (λ to. omega arith)
  small_step (WriteDevice address) hs = small_written address hs
  small_step (Load home c) hs = small_load_one (memory_of home) (slice_get (places_in lay home) c) hs
  small_step (Store c width) hs = small_store_one width (slice_get lay.ram c) hs
  small_step (LoadAt home c first) hs = small_load_of (memory_of home) first (slice_get (places_in lay home) c) hs
  small_step (StoreAt c first width) hs = small_store_of first width (slice_get lay.ram c) hs
  small_step LoadNothing hs = small_no_field hs
  small_step StoreNothing hs = small_no_field_store hs
  small_step (LoadItem e) hs = small_load_item (lone_of lay e.table) e (slice_get (places_in lay e.home) e.column) (slice_get lay.tables e.table) hs
  small_step (StoreItem e) hs = small_store_item (lone_of lay e.table) e (slice_get lay.ram e.column) (slice_get lay.tables e.table) hs
  small_step (Length t) hs = small_array_length (lone_of lay t) (slice_get lay.tables t) hs
  small_step (IsWithin first count) hs = small_one_of first count hs
  small_step (StopUnlessWithin first count) hs = small_cast first count hs
  small_step (Bind q) hs = small_temp 12 (temp r hs) _ (λ to. omega arith)
  small_step (BindFor d) hs = small_bound_for d hs
  small_step (Call q count) hs = fewer (12 + count) (16 + count - 4) (called lay r q count hs) (omega arith) (small_called q count hs)
  small_step (CallFor d count) hs =
      fewer (12 + count) (16 + count - 4) (called_for r d count hs) (omega arith)
      (small_temp (12 + count) (temp r hs) _ (λ code. small_taken (12 + count) (count + 1) hs _ (λ xs rest le. small_on d code count xs rest le)))
  small_step (CallValue count) hs =
      fewer (12 + count) (16 + count - 4) (called_value r count hs) (omega arith)
      (small_temp (12 + count) (temp r hs) _ (λ receiver. small_taken (12 + count) (count + 1) hs _ (λ xs rest le. small_by receiver count xs rest le)))
  small_step Idle hs = omega arith

  -- ---- code

  small_landed : (n : ℕ) (made : Made) → Small n made → Small (n + 5) (landed r made)
  small_landed n made h = small_after n 5 made _ h (λ s. small_after 4 1 (settled r s) _ (small_settled r s) (λ s1. landed_few s1.homes))
    where
      landed_few : (hs : List Operand) → Small 1 (landed_as r hs)
      landed_few [] = omega arith
      landed_few (h ∷ hs) = small_temp 1 (temp r hs) _ (λ to. small_if 1 (same_operand (Local to) h) _ _ (omega arith) (omega arith))

  pub small_joined : (n m : ℕ) (t : Truth) (x y : Made) → Small n x → Small m y → Small (2 + n + m) (joined t x y)
  small_joined n m t (Refused why) y hx hy = tt
  small_joined n m t (Gives a s) (Refused why) hx hy = tt
  small_joined n m t (Gives a s) (Gives b s1) hx hy =
      small_if (2 + n + m) (same_homes (reverse s.homes) (reverse s1.homes)) (Gives (Choice t a b) s) (Refused NotTaken) (omega (arith, hx, hy)) tt

  small_chosen : (n m : ℕ) (o : Option Tested) (f g : Shape → Made) → ((s : Shape) → Small n (f s)) → ((s : Shape) → Small m (g s))
      → Small (12 + n + m) (chosen r o f g)
  small_chosen n m None f g hf hg = tt
  small_chosen n m (Some t) f g hf hg =
      fewer (2 + (n + 5) + (m + 5)) (12 + n + m) (chosen r (Some t) f g) (omega arith)
      (small_joined (n + 5) (m + 5) t.truth (landed r (f (only t.homes))) (landed r (g (only t.homes))) (small_landed n (f (only t.homes)) (hf (only t.homes)))
      (small_landed m (g (only t.homes)) (hg (only t.homes))))

  pub small_where : (n : ℕ) (s : Shape) (made : Made) → Small n made → Small n (where_empty s made)
  small_where n s made h = small_if n (is_empty s) made (Refused NotTaken) h tt

  pub small_repeated : (n m k : ℕ) (x y z : Made) → Small n x → Small m y → Small k z → Small (2 + n + m + k) (repeated x y z)
  small_repeated n m k (Refused why) y z hx hy hz = tt
  small_repeated n m k (Gives p s) y z hx hy hz = by_test (tested s)
    where
      by_body : (t : Truth) (y : Made) → Small m y → Small (2 + n + m + k) (repeated_body p t y z)
      by_body t (Refused why) hy = tt
      by_body t (Gives b s1) hy = small_where (2 + n + m + k) s1 (repeated_next p t b z) (by_next z hz)
        where
          by_next : (z : Made) → Small k z → Small (2 + n + m + k) (repeated_next p t b z)
          by_next (Refused why) hz = tt
          by_next (Gives c s2) hz =
              small_where (2 + n + m + k) s2 (Gives (Repeat p t b c) empty) (omega (arith, hx, hy, hz))

      by_test : (o : Option Tested) → Small (2 + n + m + k) (repeated_test p o y z)
      by_test None = tt
      by_test (Some t) = small_where (2 + n + m + k) (only t.homes) (repeated_body p t.truth y z) (by_body t.truth y hy)

  pub small_given : (hs : List Operand) → Small 1 (given_back r hs)
  small_given [] = tt
  small_given (a ∷ []) = omega arith
  small_given (a ∷ b ∷ hs) = tt

  pub small_flat : (c : Code Step) (s : Shape) → Small (code_size c) (flat lay r c s)
  small_flat Nothing s = omega arith
  small_flat (Then a b) s = small_after (code_size a) (code_size b) (flat lay r a s) (flat lay r b) (small_flat a s) (small_flat b)
  small_flat (Do p) s =
      fewer (4 + (step_size p - 4)) (step_size p) _ (enough p)
      (small_after 4 (step_size p - 4) (settled r s) _ (small_settled r s) (λ s1. small_step p s1.homes))
    where
      enough : (p : Step) → 4 + (step_size p - 4) ≤ step_size p
      enough (Call q count) = omega arith
      enough (CallFor d count) = omega arith
      enough (CallValue count) = omega arith
      enough (Number v) = omega arith
      enough This = omega arith
      enough (GetLocal i) = omega arith
      enough (SetLocal i) = omega arith
      enough Forget = omega arith
      enough (Operate op) = omega arith
      enough (Apply op) = omega arith
      enough (ReadDevice address) = omega arith
      enough (WriteDevice address) = omega arith
      enough (Load home c) = omega arith
      enough (Store c width) = omega arith
      enough (LoadAt home c first) = omega arith
      enough (StoreAt c first width) = omega arith
      enough LoadNothing = omega arith
      enough StoreNothing = omega arith
      enough (LoadItem e) = omega arith
      enough (StoreItem e) = omega arith
      enough (Length t) = omega arith
      enough (IsWithin first count) = omega arith
      enough (StopUnlessWithin first count) = omega arith
      enough (Bind q) = omega arith
      enough (BindFor d) = omega arith
      enough Idle = omega arith
  small_flat (If a b) s = small_chosen (code_size a) (code_size b) (tested s) (flat lay r a) (flat lay r b) (small_flat a) (small_flat b)
  small_flat (Loop c body next) s =
      small_where (code_size (Loop c body next)) s _
      (small_repeated (code_size c) (code_size body) (code_size next) (flat lay r c empty) (flat lay r body empty) (flat lay r next empty)
      (small_flat c empty) (small_flat body empty) (small_flat next empty))
  small_flat Break s = small_where 1 s (Gives BreakOut empty) (omega arith)
  small_flat Continue s = small_where 1 s (Gives GoOn empty) (omega arith)
  small_flat Return s = small_after 4 1 (settled r s) _ (small_settled r s) (λ s1. small_given s1.homes)

  -- ---- whole procedures

  pub zeroes_size : (c i : ℕ) → block_size (zeroes c i) ≤ c
  zeroes_size zero i = omega arith
  zeroes_size (suc c) i = let h = zeroes_size c (suc i) in omega (arith, h)

  pub whole_long : (m : Procedure) (b : Block) (s : Shape) → flat lay r m.body empty ≡ Gives b s
      → length (open_code (whole m b) 0) ≤ length m.widths - m.params + code_size m.body + 1
  whole_long m b s e =
      let h = block_long (whole m b) 0 in
      let f : block_size b ≤ code_size m.body = subst (Small (code_size m.body)) e (small_flat m.body empty) in
      let z = zeroes_size (length m.widths - m.params) (own_params m) in
      omega (arith, h, f, z)
