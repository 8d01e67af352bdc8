-- What the instructions of a step name.
use Rattle.std.specs.Prelude.{ℕ, ◌+◌, ◌-◌, ◌*◌, ◌^◌, zero, suc, Bool, true, false, ◌==◌, ◌&&◌, nat_lt, nat_le, List, []}
use Rattle.std.specs.Prelude.{◌∷◌, length, reverse, take, drop, Option, Some, None, slice_get, if◌then◌else◌}
use Rattle.vg_firm.specs.declared.step.Operator.{Operator}
use Rattle.vg_firm.specs.declared.step.Operator.TheVariants.{Plus, Minus, Times, Divide, Remainder, Less, AtMost, Greater, AtLeast, Equal, Unequal}
use Rattle.vg_firm.specs.declared.step.Operator.TheVariants.{And, Or, Xor, ShiftLeft, ShiftRight, Concat}
use Rattle.vg_firm.specs.declared.step.Prefix.{Prefix}
use Rattle.vg_firm.specs.declared.step.Prefix.TheVariants.{Negative, Not, Complement, Cut}
use Rattle.vg_firm.specs.declared.step.ArrayPlace.{ArrayPlace}
use Rattle.vg_firm.specs.declared.step.Elements.{Elements}
use Rattle.vg_firm.specs.declared.step.Step.{Step}
use Rattle.vg_firm.specs.declared.step.Step.TheVariants.{Number, This, Local as GetLocal, SetLocal, Forget, Operate, Apply, ReadDevice, WriteDevice}
use Rattle.vg_firm.specs.declared.step.Step.TheVariants.{Load, Store, LoadAt, StoreAt, LoadNothing, StoreNothing, LoadItem, StoreItem, Length, IsWithin}
use Rattle.vg_firm.specs.declared.step.Step.TheVariants.{StopUnlessWithin, Bind, BindFor, Call, CallFor, CallValue, Idle}
use Rattle.vg_lin.specs.declared.instr.Operand.{Operand}
use Rattle.vg_lin.specs.declared.instr.Operand.TheVariants.{Local, Known}
use Rattle.vg_lin.specs.declared.instr.Operator.{Operator as LinOperator}
use Rattle.vg_lin.specs.declared.instr.Plain.{Plain as PlainInstr}
use Rattle.vg_lin.specs.declared.instr.Memory.{Memory}
use Rattle.vg_lin.specs.declared.instr.Passed.{Passed}
use Rattle.vg_lin.specs.declared.instr.Target.{Target}
use Rattle.vg_lin.specs.declared.instr.Callee.{Callee}
use Rattle.vg_lin.specs.declared.instr.Callee.TheVariants.{Procedure as ByNumber, Code as ByCode}
use Rattle.vg_lin.specs.Meaning.{operands}
use Rattle.vg_flatten_shapes.specs.declared.open.Truth.{Truth}
use Rattle.vg_flatten_shapes.specs.declared.open.Truth.TheVariants.{Holds}
use Rattle.vg_flatten_shapes.specs.declared.layout.Place.{Place}
use Rattle.vg_flatten_shapes.specs.declared.layout.Layout.{Layout}
use Rattle.vg_flatten_shapes.specs.declared.layout.Passing.{Passing}
use Rattle.vg_flatten_shapes.specs.declared.layout.Width.{Width}
use Rattle.vg_flatten_shapes.specs.declared.layout.Width.TheVariants.{Two}
use Rattle.vg_flatten_shapes.specs.Widths.{bytes_of as bytes_of_width}
use Rattle.vg_flatten_shapes.specs.declared.room.Room.{Room}
use Rattle.vg_flatten_shapes.specs.Shapes.{is_free, taken, temp}
use Rattle.vg_flatten_shapes.specs.Blocks.{Skip, One, stop_where}
use Rattle.vg_flatten_shapes.specs.Made.{Made, by_temp, is_zero}
use Rattle.vg_flatten_values.specs.Values.{computing, comparing, computed, operated, operated_as, bytes_of, bytes_around, cut_bits, cut, applied}
use Rattle.vg_flatten_values.specs.Values.{divided, masked, shifted_left, shifted_right, combined, divisor_checked, may_be_zero}
use Rattle.vg_flatten_places.specs.declared.elements.Reach.{Reach}
use Rattle.vg_flatten_places.specs.Places.{is_width, fetched, fetched_from, load_one, load_of, length_of, lone_of, known_length}
use Rattle.vg_flatten_places.specs.Places.{array_length, places_in, memory_of, multiplied}
use Rattle.vg_flatten_places.specs.Places.{multiple, timed, load_from, store_at, store_one, store_of, is_place, load_inside, load_item}
use Rattle.vg_flatten_places.specs.Places.{store_inside, store_item, inside, element_of, lone_element, no_element}
use Rattle.vg_flatten_places.specs.Places.{may_be_null, null_check, load_no_field, store_no_field, load_nothing, store_nothing}
use Rattle.vg_flatten_steps.specs.Locals.{at_local, set_local, forgotten, written}
use Rattle.vg_flatten_steps.specs.Calls.{in_widths, registers_of, passing, with_taken, passing_of, passing_found, with_receiver, resulting, called}
use Rattle.vg_flatten_steps.specs.Calls.{called_on, called_by, bound_for}
use Rattle.vg_flatten_steps.specs.Objects.{is_one_of, cast_to}
use Rattle.vg_flatten_steps.specs.Steps.{stepped}
use Rattle.vg_flat_names.specs.Names.{PlainNames, PassedNames, CalleeNames, TargetNames, NoReceiver}
use Rattle.vg_flat_names.proofs.Blocks.{BlockNames}
use Rattle.vg_flat_names.proofs.Shapes.{AllOk, MayNames, MadeNames, by_taken, names_if, names_temp}

module _ (Ok : Operand → Type 0) (known : (n : ℕ) → Ok (Known n)) (lay : Layout) (r : Room) (own : (i : ℕ) → Ok (Local (r.receiver + i)))
    (temps : (n : ℕ) → Ok (Local (r.locals + n))) where
  by_temps : (hs : List Operand) (go : ℕ → Made) → ((to : ℕ) → Ok (Local to) → MadeNames Ok (go to)) → MadeNames Ok (by_temp (temp r hs) go)
  by_temps = names_temp Ok known r temps

  -- ---- operators

  names_computed : (op : LinOperator) (width : ℕ) (a b : Operand) (hs : List Operand) → Ok a → Ok b → AllOk Ok hs → MadeNames Ok (computed r op width a b hs)
  names_computed op width a b hs ha hb h = by_temps hs _ (λ to lt. ((lt, ha, hb), ((lt, h), tt)))

  names_divisor : (b : Operand) → Ok b → BlockNames Ok (divisor_checked b)
  names_divisor b hb = by_zero (may_be_zero b)
    where
      by_zero : (c : Bool) → BlockNames Ok (if c then stop_where 3 (Holds (is_zero b)) else Skip)
      by_zero true = ((hb, known 0), tt, tt)
      by_zero false = tt

  names_null : (a : Operand) → Ok a → BlockNames Ok (null_check r a)
  names_null a ha = by_null (may_be_null r a)
    where
      by_null : (c : Bool) → BlockNames Ok (if c then stop_where 1 (Holds (is_zero a)) else Skip)
      by_null true = ((ha, known 0), tt, tt)
      by_null false = tt

  names_divided : (op : LinOperator) (a b : Operand) (hs : List Operand) → Ok a → Ok b → AllOk Ok hs → MadeNames Ok (divided r op a b hs)
  names_divided op a b hs ha hb h = by_temps hs _ (λ to lt. ((names_divisor b hb, (lt, ha, hb)), ((lt, h), tt)))

  names_masked : (bits : ℕ) (o : Option ℕ) (a b : Operand) (hs : List Operand) → Ok a → Ok b → AllOk Ok hs → MadeNames Ok (masked r bits o a b hs)
  names_masked bits None a b hs ha hb h = (tt, ((known 0, h), tt))
  names_masked bits (Some width) a b hs ha hb h = by_temps hs _ (λ to lt. (((lt, ha, hb), (lt, lt, known _)), ((lt, h), tt)))

  names_left : (bits : ℕ) (o : Option ℕ) (a b : Operand) (hs : List Operand) → Ok a → Ok b → AllOk Ok hs → MadeNames Ok (shifted_left r bits o a b hs)
  names_left bits None a b hs ha hb h = names_masked bits (bytes_around bits) a b hs ha hb h
  names_left bits (Some width) a b hs ha hb h = names_computed _ width a b hs ha hb h

  names_right : (bits : ℕ) (a b : Operand) (hs : List Operand) → Ok a → Ok b → AllOk Ok hs → MadeNames Ok (shifted_right r bits a b hs)
  names_right bits a (Known n) hs ha hb h =
      names_if Ok (nat_lt n bits) _ _ (names_computed _ _ a (Known n) hs ha hb h) (tt, ((known 0, h), tt))
  names_right bits a (Local i) hs ha hb h = names_computed _ _ a (Local i) hs ha hb h

  names_combined : (op : Operator) (a b : Operand) (hs : List Operand) → Ok a → Ok b → AllOk Ok hs → MadeNames Ok (combined r op a b hs)
  names_combined Divide a b hs ha hb h = names_divided _ a b hs ha hb h
  names_combined Remainder a b hs ha hb h = names_divided _ a b hs ha hb h
  names_combined (ShiftLeft bits) a b hs ha hb h = names_left bits (bytes_of bits) a b hs ha hb h
  names_combined (ShiftRight bits) a b hs ha hb h = names_right bits a b hs ha hb h
  names_combined (Concat bits) a b hs ha hb h = by_temps hs _ (λ to lt. (((lt, ha, known _), (lt, lt, hb)), ((lt, h), tt)))
  names_combined Plus a b hs ha hb h = (tt, ((known 0, h), tt))
  names_combined Minus a b hs ha hb h = (tt, ((known 0, h), tt))
  names_combined Times a b hs ha hb h = (tt, ((known 0, h), tt))
  names_combined (Less o) a b hs ha hb h = (tt, ((known 0, h), tt))
  names_combined (AtMost o) a b hs ha hb h = (tt, ((known 0, h), tt))
  names_combined (Greater o) a b hs ha hb h = (tt, ((known 0, h), tt))
  names_combined (AtLeast o) a b hs ha hb h = (tt, ((known 0, h), tt))
  names_combined Equal a b hs ha hb h = (tt, ((known 0, h), tt))
  names_combined Unequal a b hs ha hb h = (tt, ((known 0, h), tt))
  names_combined And a b hs ha hb h = (tt, ((known 0, h), tt))
  names_combined Or a b hs ha hb h = (tt, ((known 0, h), tt))
  names_combined Xor a b hs ha hb h = (tt, ((known 0, h), tt))

  names_comparing : (op : Operator) (a b : Operand) → Ok a → Ok b → MayNames Ok (comparing op a b)
  names_comparing (Less o) a b ha hb = (ha, hb)
  names_comparing (AtMost o) a b ha hb = (hb, ha)
  names_comparing (Greater o) a b ha hb = (hb, ha)
  names_comparing (AtLeast o) a b ha hb = (ha, hb)
  names_comparing Equal a b ha hb = (ha, hb)
  names_comparing Unequal a b ha hb = (ha, hb)
  names_comparing Plus a b ha hb = tt
  names_comparing Minus a b ha hb = tt
  names_comparing Times a b ha hb = tt
  names_comparing Divide a b ha hb = tt
  names_comparing Remainder a b ha hb = tt
  names_comparing And a b ha hb = tt
  names_comparing Or a b ha hb = tt
  names_comparing Xor a b ha hb = tt
  names_comparing (ShiftLeft k) a b ha hb = tt
  names_comparing (ShiftRight k) a b ha hb = tt
  names_comparing (Concat k) a b ha hb = tt

  names_operated : (op : Operator) (hs : List Operand) → AllOk Ok hs → MadeNames Ok (operated r op hs)
  names_operated op [] h = tt
  names_operated op (b ∷ []) h = tt
  names_operated op (b ∷ a ∷ hs) (hb, (ha, h)) = by_kind (computing op) (comparing op a b) (names_comparing op a b ha hb)
    where
      by_kind : (o : Option LinOperator) (x : Option Truth) → MayNames Ok x → MadeNames Ok (operated_as r op o x a b hs)
      by_kind (Some lop) x e = names_computed lop 4 a b hs ha hb h
      by_kind None (Some x) e = (tt, (h, e))
      by_kind None None e = names_combined op a b hs ha hb h

  names_cut_bits : (bits : ℕ) (o : Option ℕ) (a : Operand) (hs : List Operand) → Ok a → AllOk Ok hs → MadeNames Ok (cut_bits r bits o a hs)
  names_cut_bits bits None a hs ha h = (tt, ((ha, h), tt))
  names_cut_bits bits (Some width) a hs ha h = names_computed _ width a _ hs ha (known _) h

  names_cut : (bits : ℕ) (o : Option ℕ) (a : Operand) (hs : List Operand) → Ok a → AllOk Ok hs → MadeNames Ok (cut r bits o a hs)
  names_cut bits None a hs ha h = names_cut_bits bits (bytes_around bits) a hs ha h
  names_cut bits (Some width) a hs ha h = names_computed _ width a _ hs ha (known 0) h

  names_applied : (op : Prefix) (hs : List Operand) → AllOk Ok hs → MadeNames Ok (applied r op hs)
  names_applied Not [] h = tt
  names_applied Negative [] h = tt
  names_applied (Cut bits) [] h = tt
  names_applied (Complement bits) [] h = tt
  names_applied Not (a ∷ hs) (ha, h) = (tt, (h, (ha, known 0)))
  names_applied Negative (a ∷ hs) (ha, h) = names_computed _ 4 _ a hs (known 0) ha h
  names_applied (Cut bits) (a ∷ hs) (ha, h) = names_cut bits (bytes_of bits) a hs ha h
  names_applied (Complement bits) (a ∷ hs) (ha, h) =
      names_if Ok (nat_le bits 32) _ _ (names_computed _ _ _ a hs (known _) ha h) (tt, ((known 0, h), tt))

  -- ---- locals and devices

  names_local : (j : ℕ) (hs : List Operand) → Ok (Local j) → AllOk Ok hs → MadeNames Ok (at_local r j hs)
  names_local j hs hj h = names_if Ok (nat_lt j r.locals) _ _ (tt, ((hj, h), tt)) tt

  names_set : (i : ℕ) (hs : List Operand) → AllOk Ok hs → MadeNames Ok (set_local r i hs)
  names_set i [] h = tt
  names_set i (a ∷ hs) (ha, h) =
      names_if Ok (nat_lt (r.receiver + i) r.locals && is_free (r.receiver + i) (reverse hs)) _ _ ((own i, ha), (h, tt)) tt

  names_forgotten : (hs : List Operand) → AllOk Ok hs → MadeNames Ok (forgotten hs)
  names_forgotten [] h = tt
  names_forgotten (a ∷ hs) h = (tt, (h.1, tt))

  names_written : (address : ℕ) (hs : List Operand) → AllOk Ok hs → MadeNames Ok (written address hs)
  names_written address [] h = tt
  names_written address (a ∷ hs) h = (h.0, (h.1, tt))

  -- ---- calls

  passed_take : (n : ℕ) (xs : List Passed) → PassedNames Ok xs → PassedNames Ok (take n xs)
  passed_take zero xs h = tt
  passed_take (suc n) [] h = tt
  passed_take (suc n) (a ∷ xs) h = (h.0, passed_take n xs h.1)

  passed_drop : (n : ℕ) (xs : List Passed) → PassedNames Ok xs → PassedNames Ok (drop n xs)
  passed_drop zero xs h = h
  passed_drop (suc n) [] h = tt
  passed_drop (suc n) (a ∷ xs) h = passed_drop n xs h.1

  in_registers : (xs : List Passed) → PassedNames Ok xs → PassedNames Ok (operands (registers_of xs))
  in_registers [] h = tt
  in_registers (a ∷ []) h = h
  in_registers (a ∷ b ∷ []) h = h
  in_registers (a ∷ b ∷ c ∷ []) h = h
  in_registers (a ∷ b ∷ c ∷ d ∷ []) h = h
  in_registers (a ∷ b ∷ c ∷ d ∷ e ∷ xs) h = tt

  in_all_widths : (ws : List Width) (xs : List Operand) → AllOk Ok xs → PassedNames Ok (in_widths ws xs)
  in_all_widths [] [] h = tt
  in_all_widths (w ∷ ws) [] h = tt
  in_all_widths [] (a ∷ xs) h = (h.0, in_all_widths [] xs h.1)
  in_all_widths (w ∷ ws) (a ∷ xs) h = (h.0, in_all_widths ws xs h.1)

  names_passing : (callee : Callee) (to : Option Target) (xs : List Passed) → CalleeNames Ok callee → TargetNames Ok to → PassedNames Ok xs
      → BlockNames Ok (passing callee to xs)
  names_passing callee to xs hc ht h =
      (passed_take (length xs - 4) xs h, (hc, in_registers (drop (length xs - 4) xs) (passed_drop (length xs - 4) xs h), ht))

  found : (callee : Callee) (to : ℕ) (xs : List Operand) → CalleeNames Ok callee → Ok (Local to) → AllOk Ok xs → BlockNames Ok (passing_found callee to xs)
  found callee to xs hc ht h =
      names_passing callee (Some (record { width = 4; local = to })) (in_widths (Two ∷ []) xs) hc ht (in_all_widths (Two ∷ []) xs h)

  names_taken : (count : ℕ) (hs : List Operand) (go : List Operand → List Operand → Made) → AllOk Ok hs
      → ((xs rest : List Operand) → AllOk Ok xs → AllOk Ok rest → MadeNames Ok (go xs rest)) → MadeNames Ok (with_taken (taken count hs) go)
  names_taken count hs go h hg = by_taken Ok (λ o. MadeNames Ok (with_taken o go)) count hs h tt hg

  receiving : (b : Bool) (xs : List Operand) → AllOk Ok xs → AllOk Ok (with_receiver b xs)
  receiving true xs h = (known 0, h)
  receiving false xs h = h

  names_resulting : (callee : Callee) (o : Option Width) (xs : List Passed) (rest : List Operand) → CalleeNames Ok callee → PassedNames Ok xs → AllOk Ok rest
      → MadeNames Ok (resulting r callee o xs rest)
  names_resulting callee (Some w) xs rest hc hx hr =
      by_temps rest _ (λ to lt. (names_passing callee (Some (record { width = bytes_of_width w; local = to })) xs hc lt hx, ((lt, hr), tt)))
  names_resulting callee None xs rest hc hx hr = (names_passing callee None xs hc tt hx, ((known 0, hr), tt))

  names_called : (q count : ℕ) (hs : List Operand) → AllOk Ok hs → MadeNames Ok (called lay r q count hs)
  names_called q count hs h =
      names_taken count hs _ h (λ xs rest hx hr. names_resulting (ByNumber q) p.result (in_widths p.widths (with_receiver p.receives xs)) rest tt
      (in_all_widths p.widths (with_receiver p.receives xs) (receiving p.receives xs hx)) hr)
    where
      p : Passing
      p = passing_of (slice_get lay.passing q)

  names_on : (d code : ℕ) → Ok (Local code) → (xs rest : List Operand) → AllOk Ok xs → AllOk Ok rest → MadeNames Ok (called_on r d code xs rest)
  names_on d code lc [] rest hx hr = tt
  names_on d code lc (a ∷ xs) rest (ha, hx) hr =
      by_temps rest _ (λ to lt. ((names_null a ha, ((lc, ha), found (ByCode (Local code)) to (a ∷ xs) lc lt (ha, hx))), ((lt, hr), tt)))

  names_by : (receiver : ℕ) → Ok (Local receiver) → (xs rest : List Operand) → AllOk Ok xs → AllOk Ok rest → MadeNames Ok (called_by r receiver xs rest)
  names_by receiver lr [] rest hx hr = tt
  names_by receiver lr (a ∷ xs) rest (ha, hx) hr =
      by_temps rest _ (λ to lt. (
        (((ha, known 0), tt, tt), ((lr, ha, known 16), found (ByCode a) to (Local receiver ∷ xs) ha lt (lr, hx))),
        ((lt, hr), tt),
      ))

  names_bound_for : (d : ℕ) (hs : List Operand) → AllOk Ok hs → MadeNames Ok (bound_for r d hs)
  names_bound_for d [] h = tt
  names_bound_for d (a ∷ hs) (ha, h) =
      by_temps hs _ (λ to lt. by_temps (a ∷ hs) _ (λ above la. (
        (names_null a ha, ((la, ha, known 16), ((lt, ha), (lt, lt, la)))),
        ((lt, h), tt),
      )))

  -- ---- objects, columns and elements

  names_one_of : (first count : ℕ) (hs : List Operand) → AllOk Ok hs → MadeNames Ok (is_one_of r first count hs)
  names_one_of first count [] h = tt
  names_one_of first count (a ∷ hs) (ha, h) =
      names_if Ok (nat_lt (first + count) (2 ^ 32)) _ _ (by_temps hs _ (λ to lt. ((lt, ha, known first), (h, (lt, known count))))) tt

  names_cast : (first count : ℕ) (hs : List Operand) → AllOk Ok hs → MadeNames Ok (cast_to r first count hs)
  names_cast first count [] h = tt
  names_cast first count (a ∷ hs) (ha, h) =
      names_if Ok (nat_lt (first + count) (2 ^ 32)) _ _ (by_temps (a ∷ hs) _ (λ to lt. (
        ((ha, known 0), ((lt, ha, known first), ((lt, known count), tt, tt)), tt),
        ((ha, h), tt),
      ))) tt

  names_nothing : (hs : List Operand) → AllOk Ok hs → MadeNames Ok (load_nothing hs)
  names_nothing [] h = tt
  names_nothing (a ∷ hs) h = (((h.0, known 0), tt, tt), ((known 0, h.1), tt))

  names_no_store : (hs : List Operand) → AllOk Ok hs → MadeNames Ok (store_nothing hs)
  names_no_store [] h = tt
  names_no_store (v ∷ []) h = tt
  names_no_store (v ∷ a ∷ hs) (hv, (ha, h)) = (((ha, known 0), tt, tt), (h, tt))

  names_no_field : (hs : List Operand) → AllOk Ok hs → MadeNames Ok (load_no_field r hs)
  names_no_field [] h = tt
  names_no_field (a ∷ hs) h = (names_null a h.0, ((known 0, h.1), tt))

  names_no_field_store : (hs : List Operand) → AllOk Ok hs → MadeNames Ok (store_no_field r hs)
  names_no_field_store [] h = tt
  names_no_field_store (v ∷ []) h = tt
  names_no_field_store (v ∷ a ∷ hs) (hv, (ha, h)) = (names_null a ha, (h, tt))

  names_multiplied : (to by : ℕ) (a : Operand) → Ok (Local to) → Ok a → BlockNames Ok (multiplied to by a)
  names_multiplied to by a ht ha = by_one (by == 1)
    where
      by_one : (b : Bool) → BlockNames Ok (if b then Skip else One (timed to by a))
      by_one true = tt
      by_one false = (ht, ha, known by)

  names_multiple : (to by : ℕ) (a : Operand) → Ok (Local to) → Ok a → Ok (multiple to by a)
  names_multiple to by a ht ha = by_one (by == 1)
    where
      by_one : (b : Bool) → Ok (if b then a else Local to)
      by_one true = ha
      by_one false = ht

  names_fetched : (memory : Memory) (width by base : ℕ) (a : Operand) (hs : List Operand) → Ok a → AllOk Ok hs
      → MadeNames Ok (fetched r memory width by base a hs)
  names_fetched memory width by base a hs ha h =
      by_temps hs _ (λ to lt. ((names_null a ha, (names_multiplied to by a lt ha, (lt, names_multiple to by a lt ha))), ((lt, h), tt)))

  names_fetched_from : (memory : Memory) (width first base : ℕ) (a : Operand) (hs : List Operand) → Ok a → AllOk Ok hs
      → MadeNames Ok (fetched_from r memory width first base a hs)
  names_fetched_from memory width first base a hs ha h =
      by_temps hs _ (λ to lt. (
        (names_null a ha, ((lt, ha, known first), (names_multiplied to width (Local to) lt lt, (lt, names_multiple to width (Local to) lt lt)))),
        ((lt, h), tt),
      ))

  names_load_one : (memory : Memory) (o : Option Place) (hs : List Operand) → AllOk Ok hs → MadeNames Ok (load_one r memory o hs)
  names_load_one memory None hs h = tt
  names_load_one memory (Some place) hs h = names_if Ok (is_width place.width) _ _ (by_temps hs _ (λ to lt. ((lt, known 0), ((lt, h), tt)))) tt

  names_load_of : (memory : Memory) (first : ℕ) (o : Option Place) (hs : List Operand) → AllOk Ok hs → MadeNames Ok (load_of r memory first o hs)
  names_load_of memory first None hs h = tt
  names_load_of memory first (Some place) [] h = tt
  names_load_of memory first (Some place) (a ∷ hs) (ha, h) =
      names_if Ok (is_width place.width) _ _
      (names_if Ok (place.count == 1) _ _ (by_temps hs _ (λ to lt. ((names_null a ha, (lt, known 0)), ((lt, h), tt))))
      (names_if Ok (nat_le (place.width * first) place.address) _ _ (names_fetched memory place.width place.width _ a hs ha h)
      (names_fetched_from memory place.width first place.address a hs ha h))) tt

  names_length : (o : Option ℕ) (hs : List Operand) → AllOk Ok hs → MadeNames Ok (length_of r o hs)
  names_length None hs h = names_nothing hs h
  names_length (Some table) [] h = tt
  names_length (Some table) (a ∷ hs) (ha, h) = names_if Ok (nat_le 2 table) _ _ (names_fetched _ 2 4 _ a hs ha h) tt

  names_known_length : (length : ℕ) (hs : List Operand) → AllOk Ok hs → MadeNames Ok (known_length length hs)
  names_known_length length [] h = tt
  names_known_length length (a ∷ hs) h = (((h.0, known 0), tt, tt), ((known length, h.1), tt))

  names_array_length : (single : Option ArrayPlace) (o : Option ℕ) (hs : List Operand) → AllOk Ok hs → MadeNames Ok (array_length r single o hs)
  names_array_length (Some a) o hs h = names_known_length a.length hs h
  names_array_length None o hs h = names_length o hs h

  names_store_one : (width : ℕ) (o : Option Place) (hs : List Operand) → AllOk Ok hs → MadeNames Ok (store_one width o hs)
  names_store_one width None hs h = tt
  names_store_one width (Some place) [] h = tt
  names_store_one width (Some place) (v ∷ hs) (hv, h) = names_if Ok (is_width width && (width == place.width)) _ _ ((known 0, hv), (h, tt)) tt

  names_store_of : (first width : ℕ) (o : Option Place) (hs : List Operand) → AllOk Ok hs → MadeNames Ok (store_of r first width o hs)
  names_store_of first width None hs h = tt
  names_store_of first width (Some place) [] h = tt
  names_store_of first width (Some place) (v ∷ []) h = tt
  names_store_of first width (Some place) (v ∷ a ∷ hs) (hv, (ha, h)) =
      names_if Ok (is_width width && (width == place.width)) _ _
      (names_if Ok (place.count == 1) _ _ ((names_null a ha, (known 0, hv)), (h, tt))
      (names_if Ok (nat_le (width * first) place.address) _ _
      (by_temps (v ∷ a ∷ hs) _ (λ to lt. ((names_null a ha, (names_multiplied to width a lt ha, (names_multiple to width a lt ha, hv))), (h, tt))))
      (by_temps (v ∷ a ∷ hs) _ (λ to lt. (
        (names_null a ha, ((lt, ha, known first), (names_multiplied to width (Local to) lt lt, (names_multiple to width (Local to) lt lt, hv)))),
        (h, tt),
      ))))) tt

  -- an element is reached by loads and computations, and then loaded or stored
  names_reached : (x : Reach) (last : Option PlainInstr) → Ok (Local x.first) → Ok (Local x.second) → Ok x.home → Ok x.index → BlockNames Ok (inside x last)
      → BlockNames Ok (element_of x last)
  names_reached x last l1 l2 ha hi h =
      (((ha, known 0), tt, tt), ((l1, ha, known 4), ((l2, l1), (((hi, l2), tt, tt), h))))

  names_element : (x : Reach) (last : PlainInstr) → Ok (Local x.first) → Ok (Local x.second) → Ok x.home → Ok x.index → PlainNames Ok last
      → BlockNames Ok (element_of x (Some last))
  names_element x last l1 l2 ha hi h =
      names_reached x (Some last) l1 l2 ha hi ((l1, l1), ((l2, hi, known x.width), ((l1, l1, l2), h)))

  names_no_element : (width table : ℕ) (a i : Operand) (hs left : List Operand) → Ok a → Ok i → AllOk Ok left
      → MadeNames Ok (no_element r width table a i hs left)
  names_no_element width table a i hs left ha hi h =
      by_temps (i ∷ a ∷ hs) _ (λ first l1. by_temps (Local first ∷ i ∷ a ∷ hs) _ (λ second l2. (
        names_reached (record { first = first; second = second; table = table; width = width; home = a; index = i }) None l1 l2 ha hi tt,
        (h, tt),
      )))

  -- one that is the only one by known numbers
  names_lone : (length width to : ℕ) (a i : Operand) (last : PlainInstr) → Ok (Local to) → Ok a → Ok i → PlainNames Ok last
      → BlockNames Ok (lone_element length width to a i last)
  names_lone length width to a i last lt ha hi h =
      (((ha, known 0), tt, tt), (((hi, known length), tt, tt), (names_multiplied to width i lt hi, h)))

  names_load_inside : (single : Option ArrayPlace) (e : Elements) (table : ℕ) (a i : Operand) (hs : List Operand) → Ok a → Ok i → AllOk Ok hs
      → MadeNames Ok (load_inside r single e table a i hs)
  names_load_inside (Some x) e table a i hs ha hi h =
      by_temps hs _ (λ to lt. (
        names_lone x.length e.width to a i (load_from (memory_of e.home) e.width to x.address (multiple to e.width i))
            lt ha hi (lt, names_multiple to e.width i lt hi),
        ((lt, h), tt),
      ))
  names_load_inside None e table a i hs ha hi h =
      by_temps hs _ (λ to lt. by_temps (i ∷ a ∷ hs) _ (λ first l1. by_temps (Local first ∷ i ∷ a ∷ hs) _ (λ second l2. (
        names_element (record { first = first; second = second; table = table; width = e.width; home = a; index = i })
            (load_from (memory_of e.home) e.width to 0 (Local first)) l1 l2 ha hi (lt, l1),
        ((lt, h), tt),
      ))))

  names_load_item : (single : Option ArrayPlace) (e : Elements) (o : Option Place) (u : Option ℕ) (hs : List Operand) → AllOk Ok hs
      → MadeNames Ok (load_item r single e o u hs)
  names_load_item single e o None [] h = tt
  names_load_item single e o None (i ∷ hs) h = names_nothing hs h.1
  names_load_item single e None (Some table) [] h = tt
  names_load_item single e None (Some table) (i ∷ []) h = tt
  names_load_item single e None (Some table) (i ∷ a ∷ hs) (hi, (ha, h)) =
      names_if Ok (nat_le 4 table) _ _ (names_no_element e.width table a i hs (Known 0 ∷ hs) ha hi (known 0, h)) tt
  names_load_item single e (Some place) (Some table) [] h = tt
  names_load_item single e (Some place) (Some table) (i ∷ []) h = tt
  names_load_item single e (Some place) (Some table) (i ∷ a ∷ hs) (hi, (ha, h)) =
      names_if Ok (is_width e.width && is_place e place && nat_le 4 table) _ _ (names_load_inside single e table a i hs ha hi h) tt

  names_store_inside : (single : Option ArrayPlace) (width table : ℕ) (v a i : Operand) (hs : List Operand) → Ok v → Ok a → Ok i → AllOk Ok hs
      → MadeNames Ok (store_inside r single width table v a i hs)
  names_store_inside (Some x) width table v a i hs hv ha hi h =
      by_temps (v ∷ i ∷ a ∷ hs) _ (λ to lt. (
        names_lone x.length width to a i (store_at width x.address (multiple to width i) v)
            lt ha hi (names_multiple to width i lt hi, hv),
        (h, tt),
      ))
  names_store_inside None width table v a i hs hv ha hi h =
      by_temps (v ∷ i ∷ a ∷ hs) _ (λ first l1. by_temps (Local first ∷ v ∷ i ∷ a ∷ hs) _ (λ second l2. (
        names_element (record { first = first; second = second; table = table; width = width; home = a; index = i }) (store_at width 0 (Local first) v)
            l1 l2 ha hi (l1, hv),
        (h, tt),
      )))

  names_store_item : (single : Option ArrayPlace) (e : Elements) (o : Option Place) (u : Option ℕ) (hs : List Operand) → AllOk Ok hs
      → MadeNames Ok (store_item r single e o u hs)
  names_store_item single e o None [] h = tt
  names_store_item single e o None (v ∷ []) h = tt
  names_store_item single e o None (v ∷ i ∷ hs) h = names_no_store (v ∷ hs) (h.0, h.1.1)
  names_store_item single e None (Some table) [] h = tt
  names_store_item single e None (Some table) (v ∷ []) h = tt
  names_store_item single e None (Some table) (v ∷ i ∷ []) h = tt
  names_store_item single e None (Some table) (v ∷ i ∷ a ∷ hs) (hv, (hi, (ha, h))) =
      names_if Ok (nat_le 4 table) _ _ (names_no_element e.width table a i hs hs ha hi h) tt
  names_store_item single e (Some place) (Some table) [] h = tt
  names_store_item single e (Some place) (Some table) (v ∷ []) h = tt
  names_store_item single e (Some place) (Some table) (v ∷ i ∷ []) h = tt
  names_store_item single e (Some place) (Some table) (v ∷ i ∷ a ∷ hs) (hv, (hi, (ha, h))) =
      names_if Ok (is_width e.width && is_place e place && nat_le 4 table) _ _ (names_store_inside single e.width table v a i hs hv ha hi h) tt

  -- ---- all steps

  pub names_step : (p : Step) (hs : List Operand) → NoReceiver p → AllOk Ok hs → MadeNames Ok (stepped lay r p hs)
  names_step (Number v) hs n h = names_if Ok (nat_lt v (2 ^ 32)) _ _ (tt, ((known v, h), tt)) tt
  names_step This hs n h = absurd n
  names_step (GetLocal i) hs n h = names_local (r.receiver + i) hs (own i) h
  names_step (SetLocal i) hs n h = names_set i hs h
  names_step Forget hs n h = names_forgotten hs h
  names_step (Operate op) hs n h = names_operated op hs h
  names_step (Apply op) hs n h = names_applied op hs h
  names_step (ReadDevice address) hs n h = by_temps hs _ (λ to lt. (lt, ((lt, h), tt)))
  names_step (WriteDevice address) hs n h = names_written address hs h
  names_step (Load home c) hs n h = names_load_one (memory_of home) (slice_get (places_in lay home) c) hs h
  names_step (Store c width) hs n h = names_store_one width (slice_get lay.ram c) hs h
  names_step (LoadAt home c first) hs n h = names_load_of (memory_of home) first (slice_get (places_in lay home) c) hs h
  names_step (StoreAt c first width) hs n h = names_store_of first width (slice_get lay.ram c) hs h
  names_step LoadNothing hs n h = names_no_field hs h
  names_step StoreNothing hs n h = names_no_field_store hs h
  names_step (LoadItem e) hs n h =
      names_load_item (lone_of lay e.table) e (slice_get (places_in lay e.home) e.column) (slice_get lay.tables e.table) hs h
  names_step (StoreItem e) hs n h = names_store_item (lone_of lay e.table) e (slice_get lay.ram e.column) (slice_get lay.tables e.table) hs h
  names_step (Length table) hs n h = names_array_length (lone_of lay table) (slice_get lay.tables table) hs h
  names_step (IsWithin first count) hs n h = names_one_of first count hs h
  names_step (StopUnlessWithin first count) hs n h = names_cast first count hs h
  names_step (Bind q) hs n h = by_temps hs _ (λ to lt. (lt, ((lt, h), tt)))
  names_step (BindFor d) hs n h = names_bound_for d hs h
  names_step (Call q count) hs n h = names_called q count hs h
  names_step (CallFor d count) hs n h = by_temps hs _ (λ code lc. names_taken (count + 1) hs _ h (names_on d code lc))
  names_step (CallValue count) hs n h = by_temps hs _ (λ receiver lr. names_taken (count + 1) hs _ h (names_by receiver lr))
  names_step Idle hs n h = (tt, (h, tt))
