-- What holds of each instruction that a step becomes.
use Rattle.std.specs.Prelude.{ℕ, ◌+◌, ◌*◌, ◌^◌, Bool, true, false, ◌==◌, ◌&&◌, nat_lt, nat_le, List, []}
use Rattle.std.specs.Prelude.{◌∷◌, reverse, Option, Some, None, slice_get, if◌then◌else◌}
use Rattle.vg_firm.specs.declared.step.Operator.{Operator}
use Rattle.vg_firm.specs.declared.step.Operator.TheVariants.{Plus, Minus, Times, Divide, Remainder, Less, AtMost, Greater, AtLeast, Equal, Unequal}
use Rattle.vg_firm.specs.declared.step.Operator.TheVariants.{And, Or, Xor, ShiftLeft, ShiftRight, Concat}
use Rattle.vg_firm.specs.declared.step.Prefix.{Prefix}
use Rattle.vg_firm.specs.declared.step.Prefix.TheVariants.{Negative, Not, Complement, Cut}
use Rattle.vg_firm.specs.declared.step.ArrayPlace.{ArrayPlace}
use Rattle.vg_firm.specs.declared.step.Elements.{Elements}
use Rattle.vg_firm.specs.declared.step.Step.{Step}
use Rattle.vg_firm.specs.declared.step.Step.TheVariants.{Number, This, Local as GetLocal, SetLocal, Forget, Operate, Apply, ReadDevice, WriteDevice}
use Rattle.vg_firm.specs.declared.step.Step.TheVariants.{Load, Store, LoadAt, StoreAt, LoadNothing, StoreNothing, LoadItem, StoreItem, Length, IsWithin}
use Rattle.vg_firm.specs.declared.step.Step.TheVariants.{StopUnlessWithin, Bind, BindFor, Call, CallFor, CallValue, Idle}
use Rattle.vg_lin.specs.declared.instr.Operand.{Operand}
use Rattle.vg_lin.specs.declared.instr.Operand.TheVariants.{Local, Known}
use Rattle.vg_lin.specs.declared.instr.Operator.{Operator as LinOperator}
use Rattle.vg_lin.specs.declared.instr.Operator.TheVariants.{Times as Product}
use Rattle.vg_lin.specs.declared.instr.Plain.TheVariants.{Compute, Find}
use Rattle.vg_lin.specs.declared.instr.Plain.{Plain as PlainInstr}
use Rattle.vg_lin.specs.declared.instr.Memory.{Memory}
use Rattle.vg_lin.specs.declared.instr.Passed.{Passed}
use Rattle.vg_lin.specs.declared.instr.Callee.{Callee}
use Rattle.vg_lin.specs.declared.instr.Callee.TheVariants.{Code}
use Rattle.vg_lin.specs.declared.instr.Instr.{Instr}
use Rattle.vg_lin.specs.declared.instr.Instr.TheVariants.{Plain}
use Rattle.vg_flatten_shapes.specs.declared.open.Truth.{Truth}
use Rattle.vg_flatten_shapes.specs.declared.open.Truth.TheVariants.{Holds}
use Rattle.vg_flatten_shapes.specs.declared.layout.Place.{Place}
use Rattle.vg_flatten_shapes.specs.declared.layout.Layout.{Layout}
use Rattle.vg_flatten_shapes.specs.declared.layout.Passing.{Passing}
use Rattle.vg_flatten_shapes.specs.declared.layout.Width.{Width}
use Rattle.vg_flatten_shapes.specs.declared.layout.Width.TheVariants.{Two}
use Rattle.vg_flatten_shapes.specs.declared.room.Room.{Room}
use Rattle.vg_flatten_shapes.specs.Shapes.{Shape, is_free, Taken, taken, temp}
use Rattle.vg_flatten_shapes.specs.Blocks.{Block, Skip, One, stop_where}
use Rattle.vg_flatten_shapes.specs.Made.{Made, Gives, Refused, behind, after, by_temp, settled, settled_as, is_zero}
use Rattle.vg_flatten_values.specs.Values.{computing, comparing, computed, operated, operated_as, bytes_of, bytes_around, cut_bits, cut, applied}
use Rattle.vg_flatten_values.specs.Values.{divided, masked, shifted_left, shifted_right, combined, divisor_checked, may_be_zero}
use Rattle.vg_flatten_places.specs.declared.elements.Reach.{Reach}
use Rattle.vg_flatten_places.specs.Places.{is_width, fetched, fetched_from, load_one, load_of, length_of, lone_of, known_length, array_length, places_in, memory_of, multiplied}
use Rattle.vg_flatten_places.specs.Places.{store_one, store_of, is_place, load_inside, load_item, store_inside, store_item, inside, element_of, lone_element, no_element}
use Rattle.vg_flatten_steps.specs.Locals.{at_local, set_local, forgotten, written}
use Rattle.vg_flatten_steps.specs.Calls.{in_widths, with_taken, passing_of, passing_found, with_receiver, resulting, called, called_on, called_by, bound_for}
use Rattle.vg_flatten_steps.specs.Objects.{is_one_of, cast_to}
use Rattle.vg_flatten_places.specs.Places.{may_be_null, null_check, load_no_field, store_no_field, load_nothing, store_nothing}
use Rattle.vg_flatten_steps.specs.Steps.{stepped}
use Rattle.vg_flat_each.specs.Each.{Carries, StepHas}
use Rattle.vg_flat_each.proofs.Blocks.{EachIn}

-- Of what is made.
abbrev pub HasEach : (Instr → Type 0) → Made → Type 0
HasEach Has (Gives b s) = EachIn Has b
HasEach Has (Refused why) = Unit {0}

module _ (Has : Instr → Type 0) where
  pub each_behind : (a : Block) (made : Made) → EachIn Has a → HasEach Has made → HasEach Has (behind a made)
  each_behind a (Gives b s) ha hm = (ha, hm)
  each_behind a (Refused why) ha hm = tt

  pub each_after : (made : Made) (more : Shape → Made) → HasEach Has made → ((s : Shape) → HasEach Has (more s)) → HasEach Has (after made more)
  each_after (Gives a s) more hm h = each_behind a (more s) hm (h s)
  each_after (Refused why) more hm h = tt

  pub each_temp : (o : Option ℕ) (go : ℕ → Made) → ((to : ℕ) → HasEach Has (go to)) → HasEach Has (by_temp o go)
  each_temp (Some to) go h = h to
  each_temp None go h = tt

  pub each_if : (b : Bool) (x y : Made) → HasEach Has x → HasEach Has y → HasEach Has (if b then x else y)
  each_if true x y h g = h
  each_if false x y h g = g

module _ (Has : Instr → Type 0) (k : Carries Has) where
  pub each_settled : (r : Room) (s : Shape) → HasEach Has (settled r s)
  each_settled r s = by_truth s.truth
    where
      by_truth : (o : Option Truth) → HasEach Has (settled_as r o s.homes)
      by_truth None = tt
      by_truth (Some t) = each_temp Has (temp r s.homes) _ (λ to. (k.copies to (Known 1), k.copies to (Known 0)))

module _ (Has : Instr → Type 0) (k : Carries Has) (lay : Layout) (r : Room) where
  -- ---- operators

  each_computed : (op : LinOperator) (width : ℕ) (a b : Operand) (hs : List Operand) → HasEach Has (computed r op width a b hs)
  each_computed op width a b hs = each_temp Has (temp r hs) _ (λ to. k.computes _)

  each_divisor : (b : Operand) → EachIn Has (divisor_checked b)
  each_divisor b = by_zero (may_be_zero b)
    where
      by_zero : (c : Bool) → EachIn Has (if c then stop_where 3 (Holds (is_zero b)) else Skip)
      by_zero true = (k.stops 3, tt)
      by_zero false = tt

  each_null : (a : Operand) → EachIn Has (null_check r a)
  each_null a = by_null (may_be_null r a)
    where
      by_null : (c : Bool) → EachIn Has (if c then stop_where 1 (Holds (is_zero a)) else Skip)
      by_null true = (k.stops 1, tt)
      by_null false = tt

  each_divided : (op : LinOperator) (a b : Operand) (hs : List Operand) → HasEach Has (divided r op a b hs)
  each_divided op a b hs = each_temp Has (temp r hs) _ (λ to. (each_divisor b, k.computes _))

  each_masked : (bits : ℕ) (o : Option ℕ) (a b : Operand) (hs : List Operand) → HasEach Has (masked r bits o a b hs)
  each_masked bits None a b hs = tt
  each_masked bits (Some width) a b hs = each_temp Has (temp r hs) _ (λ to. (k.computes _, k.computes _))

  each_left : (bits : ℕ) (o : Option ℕ) (a b : Operand) (hs : List Operand) → HasEach Has (shifted_left r bits o a b hs)
  each_left bits None a b hs = each_masked bits (bytes_around bits) a b hs
  each_left bits (Some width) a b hs = each_computed _ width a b hs

  each_right : (bits : ℕ) (a b : Operand) (hs : List Operand) → HasEach Has (shifted_right r bits a b hs)
  each_right bits a (Known n) hs = each_if Has (nat_lt n bits) _ _ (each_computed _ _ a (Known n) hs) tt
  each_right bits a (Local i) hs = each_computed _ _ a (Local i) hs

  each_combined : (op : Operator) (a b : Operand) (hs : List Operand) → HasEach Has (combined r op a b hs)
  each_combined Divide a b hs = each_divided _ a b hs
  each_combined Remainder a b hs = each_divided _ a b hs
  each_combined (ShiftLeft bits) a b hs = each_left bits (bytes_of bits) a b hs
  each_combined (ShiftRight bits) a b hs = each_right bits a b hs
  each_combined (Concat bits) a b hs = each_temp Has (temp r hs) _ (λ to. (k.computes _, k.computes _))
  each_combined Plus a b hs = tt
  each_combined Minus a b hs = tt
  each_combined Times a b hs = tt
  each_combined (Less o) a b hs = tt
  each_combined (AtMost o) a b hs = tt
  each_combined (Greater o) a b hs = tt
  each_combined (AtLeast o) a b hs = tt
  each_combined Equal a b hs = tt
  each_combined Unequal a b hs = tt
  each_combined And a b hs = tt
  each_combined Or a b hs = tt
  each_combined Xor a b hs = tt

  each_operated : (op : Operator) (hs : List Operand) → HasEach Has (operated r op hs)
  each_operated op [] = tt
  each_operated op (b ∷ []) = tt
  each_operated op (b ∷ a ∷ hs) = by_kind (computing op) (comparing op a b)
    where
      by_kind : (o : Option LinOperator) (t : Option Truth) → HasEach Has (operated_as r op o t a b hs)
      by_kind (Some lop) t = each_computed lop 4 a b hs
      by_kind None (Some t) = tt
      by_kind None None = each_combined op a b hs

  each_cut_bits : (bits : ℕ) (o : Option ℕ) (a : Operand) (hs : List Operand) → HasEach Has (cut_bits r bits o a hs)
  each_cut_bits bits None a hs = tt
  each_cut_bits bits (Some width) a hs = each_computed _ width a _ hs

  each_cut : (bits : ℕ) (o : Option ℕ) (a : Operand) (hs : List Operand) → HasEach Has (cut r bits o a hs)
  each_cut bits None a hs = each_cut_bits bits (bytes_around bits) a hs
  each_cut bits (Some width) a hs = each_computed _ width a _ hs

  each_applied : (op : Prefix) (hs : List Operand) → HasEach Has (applied r op hs)
  each_applied Not [] = tt
  each_applied Negative [] = tt
  each_applied (Cut bits) [] = tt
  each_applied (Complement bits) [] = tt
  each_applied Not (a ∷ hs) = tt
  each_applied Negative (a ∷ hs) = each_computed _ 4 _ a hs
  each_applied (Cut bits) (a ∷ hs) = each_cut bits (bytes_of bits) a hs
  each_applied (Complement bits) (a ∷ hs) = each_if Has (nat_le bits 32) _ _ (each_computed _ _ _ a hs) tt

  -- ---- locals and devices

  each_local : (j : ℕ) (hs : List Operand) → HasEach Has (at_local r j hs)
  each_local j hs = each_if Has (nat_lt j r.locals) _ _ tt tt

  each_set : (i : ℕ) (hs : List Operand) → HasEach Has (set_local r i hs)
  each_set i [] = tt
  each_set i (a ∷ hs) = each_if Has (nat_lt (r.receiver + i) r.locals && is_free (r.receiver + i) (reverse hs)) _ _ (k.copies _ a) tt

  each_forgotten : (hs : List Operand) → HasEach Has (forgotten hs)
  each_forgotten [] = tt
  each_forgotten (a ∷ hs) = tt

  each_written : (address : ℕ) (hs : List Operand) → StepHas Has (WriteDevice address) → HasEach Has (written address hs)
  each_written address [] h = tt
  each_written address (a ∷ hs) h = h a

  -- ---- calls

  each_taken : (o : Option Taken) (go : List Operand → List Operand → Made) → ((args rest : List Operand) → HasEach Has (go args rest))
      → HasEach Has (with_taken o go)
  each_taken (Some t) go h = h t.args t.rest
  each_taken None go h = tt

  each_resulting : (callee : Callee) (o : Option Width) (xs : List Passed) (rest : List Operand) → HasEach Has (resulting r callee o xs rest)
  each_resulting callee (Some w) xs rest = each_temp Has (temp r rest) _ (λ to. k.calls callee _ xs)
  each_resulting callee None xs rest = k.calls callee None xs

  each_called : (q count : ℕ) (hs : List Operand) → HasEach Has (called lay r q count hs)
  each_called q count hs =
      each_taken (taken count hs) _ (λ xs rest. each_resulting _ p.result (in_widths p.widths (with_receiver p.receives xs)) rest)
    where
      p : Passing
      p = passing_of (slice_get lay.passing q)

  found : (callee : Callee) (to : ℕ) (xs : List Operand) → EachIn Has (passing_found callee to xs)
  found callee to xs = k.calls callee (Some (record { width = 4; local = to })) (in_widths (Two ∷ []) xs)

  each_on : (d code : ℕ) (xs rest : List Operand) → ((to : ℕ) (a : Operand) → Has (Plain (Find d to a))) → HasEach Has (called_on r d code xs rest)
  each_on d code [] rest h = tt
  each_on d code (a ∷ xs) rest h = each_temp Has (temp r rest) _ (λ to. (each_null a, (h code a, found (Code (Local code)) to (a ∷ xs))))

  each_by : (receiver : ℕ) (xs rest : List Operand) → HasEach Has (called_by r receiver xs rest)
  each_by receiver [] rest = tt
  each_by receiver (a ∷ xs) rest = each_temp Has (temp r rest) _ (λ to. ((k.stops 1, tt), (k.computes _, found (Code a) to (Local receiver ∷ xs))))

  each_bound_for : (d : ℕ) (hs : List Operand) → ((to : ℕ) (a : Operand) → Has (Plain (Find d to a))) → HasEach Has (bound_for r d hs)
  each_bound_for d [] h = tt
  each_bound_for d (a ∷ hs) h =
      each_temp Has (temp r hs) _ (λ to. each_temp Has (temp r (a ∷ hs)) _ (λ above. (each_null a, (k.computes _, (h to a, k.computes _)))))

  -- ---- objects, columns and elements

  each_one_of : (first count : ℕ) (hs : List Operand) → HasEach Has (is_one_of r first count hs)
  each_one_of first count [] = tt
  each_one_of first count (a ∷ hs) =
      each_if Has (nat_lt (first + count) (2 ^ 32)) _ _ (each_temp Has (temp r hs) _ (λ to. k.computes _)) tt

  each_cast : (first count : ℕ) (hs : List Operand) → HasEach Has (cast_to r first count hs)
  each_cast first count [] = tt
  each_cast first count (a ∷ hs) =
      each_if Has (nat_lt (first + count) (2 ^ 32)) _ _ (each_temp Has (temp r (a ∷ hs)) _ (λ to. ((k.computes _, (k.stops 4, tt)), tt))) tt

  each_nothing : (hs : List Operand) → HasEach Has (load_nothing hs)
  each_nothing [] = tt
  each_nothing (a ∷ hs) = (k.stops 1, tt)

  each_no_store : (hs : List Operand) → HasEach Has (store_nothing hs)
  each_no_store [] = tt
  each_no_store (v ∷ []) = tt
  each_no_store (v ∷ a ∷ hs) = (k.stops 1, tt)

  each_no_field : (hs : List Operand) → HasEach Has (load_no_field r hs)
  each_no_field [] = tt
  each_no_field (a ∷ hs) = each_null a

  each_no_field_store : (hs : List Operand) → HasEach Has (store_no_field r hs)
  each_no_field_store [] = tt
  each_no_field_store (v ∷ []) = tt
  each_no_field_store (v ∷ a ∷ hs) = each_null a

  each_multiplied : (to by : ℕ) (h : Operand) → EachIn Has (multiplied to by h)
  each_multiplied to by h = by_one (by == 1)
    where
      by_one : (b : Bool) → EachIn Has (if b then Skip else One (Compute (record { operator = Product; width = 2; to = to; left = h; right = Known by })))
      by_one true = tt
      by_one false = k.computes _

  each_fetched : (memory : Memory) (width by base : ℕ) (a : Operand) (hs : List Operand) → HasEach Has (fetched r memory width by base a hs)
  each_fetched memory width by base a hs = each_temp Has (temp r hs) _ (λ to. (each_null a, (each_multiplied to by a, k.loads memory width to _)))

  each_fetched_from : (memory : Memory) (width first base : ℕ) (a : Operand) (hs : List Operand) → HasEach Has (fetched_from r memory width first base a hs)
  each_fetched_from memory width first base a hs =
      each_temp Has (temp r hs) _ (λ to. (each_null a, (k.computes _, (each_multiplied to width (Local to), k.loads memory width to _))))

  each_load_one : (memory : Memory) (o : Option Place) (hs : List Operand) → HasEach Has (load_one r memory o hs)
  each_load_one memory None hs = tt
  each_load_one memory (Some place) hs =
      each_if Has (is_width place.width) _ _ (each_temp Has (temp r hs) _ (λ to. k.loads memory place.width to _)) tt

  each_load_of : (memory : Memory) (first : ℕ) (o : Option Place) (hs : List Operand) → HasEach Has (load_of r memory first o hs)
  each_load_of memory first None hs = tt
  each_load_of memory first (Some place) [] = tt
  each_load_of memory first (Some place) (a ∷ hs) =
      each_if Has (is_width place.width) _ _
      (each_if Has (place.count == 1) _ _ (each_temp Has (temp r hs) _ (λ to. (each_null a, k.loads memory place.width to _)))
      (each_if Has (nat_le (place.width * first) place.address) _ _ (each_fetched memory place.width place.width _ a hs)
      (each_fetched_from memory place.width first place.address a hs))) tt

  each_length : (o : Option ℕ) (hs : List Operand) → HasEach Has (length_of r o hs)
  each_length None hs = each_nothing hs
  each_length (Some table) [] = tt
  each_length (Some table) (a ∷ hs) = each_if Has (nat_le 2 table) _ _ (each_fetched _ 2 4 _ a hs) tt

  each_known_length : (length : ℕ) (hs : List Operand) → HasEach Has (known_length length hs)
  each_known_length length [] = tt
  each_known_length length (a ∷ hs) = (k.stops 1, tt)

  each_array_length : (single : Option ArrayPlace) (o : Option ℕ) (hs : List Operand) → HasEach Has (array_length r single o hs)
  each_array_length (Some a) o hs = each_known_length a.length hs
  each_array_length None o hs = each_length o hs

  each_store_one : (width : ℕ) (o : Option Place) (hs : List Operand) → HasEach Has (store_one width o hs)
  each_store_one width None hs = tt
  each_store_one width (Some place) [] = tt
  each_store_one width (Some place) (v ∷ hs) = each_if Has (is_width width && (width == place.width)) _ _ (k.stores width _ v) tt

  each_store_of : (first width : ℕ) (o : Option Place) (hs : List Operand) → HasEach Has (store_of r first width o hs)
  each_store_of first width None hs = tt
  each_store_of first width (Some place) [] = tt
  each_store_of first width (Some place) (v ∷ []) = tt
  each_store_of first width (Some place) (v ∷ a ∷ hs) =
      each_if Has (is_width width && (width == place.width)) _ _
      (each_if Has (place.count == 1) _ _ (each_null a, k.stores width _ v)
      (each_if Has (nat_le (width * first) place.address) _ _
      (each_temp Has (temp r (v ∷ a ∷ hs)) _ (λ to. (each_null a, (each_multiplied to width a, k.stores width _ v))))
      (each_temp Has (temp r (v ∷ a ∷ hs)) _ (λ to. (each_null a, (k.computes _, (each_multiplied to width (Local to), k.stores width _ v))))))) tt

  -- an element is reached by loads and computations, and then loaded or stored
  each_inside : (x : Reach) (last : Option PlainInstr) → EachIn Has (inside x last) → EachIn Has (element_of x last)
  each_inside x last h = ((k.stops 1, tt), (k.computes _, (k.loads _ 2 x.second _, ((k.stops 2, tt), h))))

  each_element : (x : Reach) (last : PlainInstr) → Has (Plain last) → EachIn Has (element_of x (Some last))
  each_element x last h = each_inside x (Some last) (k.loads _ 2 x.first _, (k.computes _, (k.computes _, h)))

  each_no_element : (width table : ℕ) (a i : Operand) (hs left : List Operand) → HasEach Has (no_element r width table a i hs left)
  each_no_element width table a i hs left =
      each_temp Has (temp r (i ∷ a ∷ hs)) _ (λ first. each_temp Has (temp r (Local first ∷ i ∷ a ∷ hs)) _ (λ second.
      each_inside (record { first = first; second = second; table = table; width = width; home = a; index = i }) None (k.stops 2)))

  -- one that is the only one by known numbers
  each_lone : (length width to : ℕ) (a i : Operand) (last : PlainInstr) → Has (Plain last) → EachIn Has (lone_element length width to a i last)
  each_lone length width to a i last h = ((k.stops 1, tt), ((k.stops 2, tt), (each_multiplied to width i, h)))

  each_load_inside : (single : Option ArrayPlace) (e : Elements) (table : ℕ) (a i : Operand) (hs : List Operand)
      → HasEach Has (load_inside r single e table a i hs)
  each_load_inside (Some x) e table a i hs = each_temp Has (temp r hs) _ (λ to. each_lone x.length e.width to a i _ (k.loads (memory_of e.home) e.width to _))
  each_load_inside None e table a i hs =
      each_temp Has (temp r hs) _ (λ to. each_temp Has (temp r (i ∷ a ∷ hs)) _ (λ first.
      each_temp Has (temp r (Local first ∷ i ∷ a ∷ hs)) _ (λ second. each_element _ _ (k.loads (memory_of e.home) e.width to _))))

  each_load_item : (single : Option ArrayPlace) (e : Elements) (o : Option Place) (u : Option ℕ) (hs : List Operand) → HasEach Has (load_item r single e o u hs)
  each_load_item single e o None [] = tt
  each_load_item single e o None (i ∷ hs) = each_nothing hs
  each_load_item single e None (Some table) [] = tt
  each_load_item single e None (Some table) (i ∷ []) = tt
  each_load_item single e None (Some table) (i ∷ a ∷ hs) =
      each_if Has (nat_le 4 table) _ _ (each_no_element e.width table a i hs (Known 0 ∷ hs)) tt
  each_load_item single e (Some place) (Some table) [] = tt
  each_load_item single e (Some place) (Some table) (i ∷ []) = tt
  each_load_item single e (Some place) (Some table) (i ∷ a ∷ hs) =
      each_if Has (is_width e.width && is_place e place && nat_le 4 table) _ _ (each_load_inside single e table a i hs) tt

  each_store_inside : (single : Option ArrayPlace) (width table : ℕ) (v a i : Operand) (hs : List Operand)
      → HasEach Has (store_inside r single width table v a i hs)
  each_store_inside (Some x) width table v a i hs = each_temp Has (temp r (v ∷ i ∷ a ∷ hs)) _ (λ to. each_lone x.length width to a i _ (k.stores width _ v))
  each_store_inside None width table v a i hs =
      each_temp Has (temp r (v ∷ i ∷ a ∷ hs)) _ (λ first. each_temp Has (temp r (Local first ∷ v ∷ i ∷ a ∷ hs)) _ (λ second.
      each_element _ _ (k.stores width _ v)))

  each_store_item : (single : Option ArrayPlace) (e : Elements) (o : Option Place) (u : Option ℕ) (hs : List Operand) → HasEach Has (store_item r single e o u hs)
  each_store_item single e o None [] = tt
  each_store_item single e o None (v ∷ []) = tt
  each_store_item single e o None (v ∷ i ∷ hs) = each_no_store (v ∷ hs)
  each_store_item single e None (Some table) [] = tt
  each_store_item single e None (Some table) (v ∷ []) = tt
  each_store_item single e None (Some table) (v ∷ i ∷ []) = tt
  each_store_item single e None (Some table) (v ∷ i ∷ a ∷ hs) = each_if Has (nat_le 4 table) _ _ (each_no_element e.width table a i hs hs) tt
  each_store_item single e (Some place) (Some table) [] = tt
  each_store_item single e (Some place) (Some table) (v ∷ []) = tt
  each_store_item single e (Some place) (Some table) (v ∷ i ∷ []) = tt
  each_store_item single e (Some place) (Some table) (v ∷ i ∷ a ∷ hs) =
      each_if Has (is_width e.width && is_place e place && nat_le 4 table) _ _ (each_store_inside single e.width table v a i hs) tt

  -- ---- all steps

  pub each_step : (p : Step) (hs : List Operand) → StepHas Has p → HasEach Has (stepped lay r p hs)
  each_step (Number v) hs h = each_if Has (nat_lt v (2 ^ 32)) _ _ tt tt
  each_step This hs h = each_if Has (r.receiver == 0) _ _ tt (each_local 0 hs)
  each_step (GetLocal i) hs h = each_local (r.receiver + i) hs
  each_step (SetLocal i) hs h = each_set i hs
  each_step Forget hs h = each_forgotten hs
  each_step (Operate op) hs h = each_operated op hs
  each_step (Apply op) hs h = each_applied op hs
  each_step (ReadDevice address) hs h = each_temp Has (temp r hs) _ (λ to. h to)
  each_step (WriteDevice address) hs h = each_written address hs h
  each_step (Load home c) hs h = each_load_one (memory_of home) (slice_get (places_in lay home) c) hs
  each_step (Store c width) hs h = each_store_one width (slice_get lay.ram c) hs
  each_step (LoadAt home c first) hs h = each_load_of (memory_of home) first (slice_get (places_in lay home) c) hs
  each_step (StoreAt c first width) hs h = each_store_of first width (slice_get lay.ram c) hs
  each_step LoadNothing hs h = each_no_field hs
  each_step StoreNothing hs h = each_no_field_store hs
  each_step (LoadItem e) hs h = each_load_item (lone_of lay e.table) e (slice_get (places_in lay e.home) e.column) (slice_get lay.tables e.table) hs
  each_step (StoreItem e) hs h = each_store_item (lone_of lay e.table) e (slice_get lay.ram e.column) (slice_get lay.tables e.table) hs
  each_step (Length t) hs h = each_array_length (lone_of lay t) (slice_get lay.tables t) hs
  each_step (IsWithin first count) hs h = each_one_of first count hs
  each_step (StopUnlessWithin first count) hs h = each_cast first count hs
  each_step (Bind q) hs h = each_temp Has (temp r hs) _ (λ to. k.codes q to)
  each_step (BindFor d) hs h = each_bound_for d hs h
  each_step (Call q count) hs h = each_called q count hs
  each_step (CallFor d count) hs h = each_temp Has (temp r hs) _ (λ code. each_taken (taken (count + 1) hs) _ (λ xs rest. each_on d code xs rest h))
  each_step (CallValue count) hs h =
      each_temp Has (temp r hs) _ (λ receiver. each_taken (taken (count + 1) hs) _ (λ xs rest. each_by receiver xs rest))
  each_step Idle hs h = h
