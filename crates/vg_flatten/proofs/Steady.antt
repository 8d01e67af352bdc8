-- What a step becomes neither leaves the code nor turns back: it has no loop, no jump out of one, and gives nothing back.
use Rattle.std.specs.Prelude.{ℕ, ◌+◌, ◌*◌, ◌^◌, Bool, true, false, ◌==◌, ◌&&◌, nat_lt, nat_le, List, [], ◌∷◌}
use Rattle.std.specs.Prelude.{reverse, Option, Some, None, slice_get, if◌then◌else◌}
use Rattle.std.proofs.Common.{◌≡◌, refl, ap, ◌∙◌}
use Rattle.vg_firm.specs.declared.step.Operator.{Operator}
use Rattle.vg_firm.specs.declared.step.Operator.TheVariants.{Plus, Minus, Times, Divide, Remainder, Less, AtMost, Greater, AtLeast, Equal, Unequal}
use Rattle.vg_firm.specs.declared.step.Operator.TheVariants.{And, Or, Xor, ShiftLeft, ShiftRight, Concat}
use Rattle.vg_firm.specs.declared.step.Prefix.{Prefix}
use Rattle.vg_firm.specs.declared.step.Prefix.TheVariants.{Negative, Not, Complement, Cut}
use Rattle.vg_firm.specs.declared.step.ArrayPlace.{ArrayPlace}
use Rattle.vg_firm.specs.declared.step.Elements.{Elements}
use Rattle.vg_firm.specs.declared.step.Step.{Step}
use Rattle.vg_firm.specs.declared.step.Step.TheVariants.{Number, This, Local as GetLocal, SetLocal, Forget, Operate, Apply, ReadDevice, WriteDevice}
use Rattle.vg_firm.specs.declared.step.Step.TheVariants.{Load, Store}
use Rattle.vg_firm.specs.declared.step.Step.TheVariants.{LoadAt, StoreAt, LoadNothing, StoreNothing, LoadItem, StoreItem, Length, IsWithin}
use Rattle.vg_firm.specs.declared.step.Step.TheVariants.{StopUnlessWithin, Bind, BindFor, Call, CallFor, CallValue, Idle}
use Rattle.vg_lin.specs.declared.instr.Operand.{Operand}
use Rattle.vg_lin.specs.declared.instr.Operand.TheVariants.{Local, Known}
use Rattle.vg_lin.specs.declared.instr.Operator.{Operator as LinOperator}
use Rattle.vg_lin.specs.declared.instr.Operator.TheVariants.{Times as Product}
use Rattle.vg_lin.specs.declared.instr.Plain.TheVariants.{Compute}
use Rattle.vg_lin.specs.declared.instr.Memory.{Memory}
use Rattle.vg_lin.specs.declared.instr.Passed.{Passed}
use Rattle.vg_lin.specs.declared.instr.Callee.TheVariants.{Procedure as ByNumber}
use Rattle.vg_flatten_shapes.specs.declared.open.Truth.{Truth}
use Rattle.vg_flatten_shapes.specs.declared.open.Truth.TheVariants.{Holds}
use Rattle.vg_flatten_shapes.specs.declared.layout.Place.{Place}
use Rattle.vg_flatten_shapes.specs.declared.layout.Layout.{Layout}
use Rattle.vg_flatten_shapes.specs.declared.layout.Passing.{Passing}
use Rattle.vg_flatten_shapes.specs.declared.layout.Width.{Width}
use Rattle.vg_flatten_shapes.specs.declared.room.Room.{Room}
use Rattle.vg_flatten_shapes.specs.Shapes.{Shape, is_free, Taken, taken, temp}
use Rattle.vg_flatten_shapes.specs.Blocks.{Block, Skip, One, GiveBack, BreakOut, GoOn, Both, Choice, Repeat, stop_where}
use Rattle.vg_flatten_shapes.specs.Made.{Made, Gives, Refused, by_temp, settled, settled_as, is_zero}
use Rattle.vg_flatten_values.specs.Values.{computing, comparing, computed, operated, operated_as, bytes_of, bytes_around, cut_bits, cut, applied}
use Rattle.vg_flatten_values.specs.Values.{divided, masked, shifted_left, shifted_right, combined, divisor_checked, may_be_zero}
use Rattle.vg_flatten_places.specs.Places.{is_width, fetched, fetched_from, load_one, load_of, length_of, lone_of, known_length, array_length, places_in, memory_of, multiplied}
use Rattle.vg_flatten_places.specs.Places.{store_one, store_of, is_place, load_inside, load_item, store_inside, store_item, no_element}
use Rattle.vg_flatten_steps.specs.Locals.{at_local, set_local, forgotten, written}
use Rattle.vg_flatten_steps.specs.Calls.{in_widths, with_taken, passing_of, with_receiver, resulting, called, called_on, called_by as called_by', bound_for}
use Rattle.vg_flatten_steps.specs.Objects.{is_one_of, cast_to}
use Rattle.vg_flatten_places.specs.Places.{may_be_null, null_check, load_no_field, store_no_field, load_nothing, store_nothing}
use Rattle.vg_flatten_steps.specs.Steps.{stepped}

abbrev pub steady : Block → Bool
steady (GiveBack w a) = false
steady BreakOut = false
steady GoOn = false
steady (Both a b) = steady a && steady b
steady (Choice t a b) = steady a && steady b
steady (Repeat p t body next) = false
steady b = true

abbrev pub IsSteady : Made → Type 0
IsSteady (Gives b s) = steady b ≡ true
IsSteady (Refused why) = Unit {0}

pub steady_temp : (o : Option ℕ) (go : ℕ → Made) → ((to : ℕ) → IsSteady (go to)) → IsSteady (by_temp o go)
steady_temp (Some to) go h = h to
steady_temp None go h = tt

pub steady_if : (b : Bool) (x y : Made) → IsSteady x → IsSteady y → IsSteady (if b then x else y)
steady_if true x y h g = h
steady_if false x y h g = g

pub steady_settled : (r : Room) (s : Shape) → IsSteady (settled r s)
steady_settled r s = by_truth s.truth
  where
    by_truth : (o : Option Truth) → IsSteady (settled_as r o s.homes)
    by_truth None = refl
    by_truth (Some t) = steady_temp (temp r s.homes) _ (λ to. refl)

-- ---- steps

module _ (lay : Layout) (r : Room) where
  steady_computed : (op : LinOperator) (width : ℕ) (a b : Operand) (hs : List Operand) → IsSteady (computed r op width a b hs)
  steady_computed op width a b hs = steady_temp (temp r hs) _ (λ to. refl)

  divisor_steady : (b : Operand) → steady (divisor_checked b) ≡ true
  divisor_steady b = by_zero (may_be_zero b)
    where
      by_zero : (c : Bool) → steady (if c then stop_where 3 (Holds (is_zero b)) else Skip) ≡ true
      by_zero true = refl
      by_zero false = refl

  null_steady : (a : Operand) → steady (null_check r a) ≡ true
  null_steady a = by_null (may_be_null r a)
    where
      by_null : (c : Bool) → steady (if c then stop_where 1 (Holds (is_zero a)) else Skip) ≡ true
      by_null true = refl
      by_null false = refl

  -- the null check, and what is done behind it
  behind_null : (a : Operand) (b : Bool) → b ≡ true → (steady (null_check r a) && b) ≡ true
  behind_null a b e = ap (λ z. z && b) (null_steady a) ∙ e

  steady_divided : (op : LinOperator) (a b : Operand) (hs : List Operand) → IsSteady (divided r op a b hs)
  steady_divided op a b hs = steady_temp (temp r hs) _ (λ to. ap (λ z. z && true) (divisor_steady b))

  steady_masked : (bits : ℕ) (o : Option ℕ) (a b : Operand) (hs : List Operand) → IsSteady (masked r bits o a b hs)
  steady_masked bits None a b hs = refl
  steady_masked bits (Some width) a b hs = steady_temp (temp r hs) _ (λ to. refl)

  steady_left : (bits : ℕ) (o : Option ℕ) (a b : Operand) (hs : List Operand) → IsSteady (shifted_left r bits o a b hs)
  steady_left bits None a b hs = steady_masked bits (bytes_around bits) a b hs
  steady_left bits (Some width) a b hs = steady_computed _ width a b hs

  steady_right : (bits : ℕ) (a b : Operand) (hs : List Operand) → IsSteady (shifted_right r bits a b hs)
  steady_right bits a (Known k) hs = steady_if (nat_lt k bits) _ _ (steady_computed _ _ a (Known k) hs) refl
  steady_right bits a (Local i) hs = steady_computed _ _ a (Local i) hs

  steady_combined : (op : Operator) (a b : Operand) (hs : List Operand) → IsSteady (combined r op a b hs)
  steady_combined Divide a b hs = steady_divided _ a b hs
  steady_combined Remainder a b hs = steady_divided _ a b hs
  steady_combined (ShiftLeft bits) a b hs = steady_left bits (bytes_of bits) a b hs
  steady_combined (ShiftRight bits) a b hs = steady_right bits a b hs
  steady_combined (Concat bits) a b hs = steady_temp (temp r hs) _ (λ to. refl)
  steady_combined Plus a b hs = refl
  steady_combined Minus a b hs = refl
  steady_combined Times a b hs = refl
  steady_combined (Less o) a b hs = refl
  steady_combined (AtMost o) a b hs = refl
  steady_combined (Greater o) a b hs = refl
  steady_combined (AtLeast o) a b hs = refl
  steady_combined Equal a b hs = refl
  steady_combined Unequal a b hs = refl
  steady_combined And a b hs = refl
  steady_combined Or a b hs = refl
  steady_combined Xor a b hs = refl

  steady_operated : (op : Operator) (hs : List Operand) → IsSteady (operated r op hs)
  steady_operated op [] = tt
  steady_operated op (b ∷ []) = tt
  steady_operated op (b ∷ a ∷ hs) = by_kind (computing op) (comparing op a b)
    where
      by_kind : (o : Option LinOperator) (t : Option Truth) → IsSteady (operated_as r op o t a b hs)
      by_kind (Some lop) t = steady_computed lop 4 a b hs
      by_kind None (Some t) = refl
      by_kind None None = steady_combined op a b hs

  steady_cut_bits : (bits : ℕ) (o : Option ℕ) (a : Operand) (hs : List Operand) → IsSteady (cut_bits r bits o a hs)
  steady_cut_bits bits None a hs = refl
  steady_cut_bits bits (Some width) a hs = steady_computed _ width a _ hs

  steady_cut : (bits : ℕ) (o : Option ℕ) (a : Operand) (hs : List Operand) → IsSteady (cut r bits o a hs)
  steady_cut bits None a hs = steady_cut_bits bits (bytes_around bits) a hs
  steady_cut bits (Some width) a hs = steady_computed _ width a _ hs

  steady_applied : (op : Prefix) (hs : List Operand) → IsSteady (applied r op hs)
  steady_applied Not [] = tt
  steady_applied Negative [] = tt
  steady_applied (Cut bits) [] = tt
  steady_applied (Complement bits) [] = tt
  steady_applied Not (a ∷ hs) = refl
  steady_applied Negative (a ∷ hs) = steady_computed _ 4 _ a hs
  steady_applied (Cut bits) (a ∷ hs) = steady_cut bits (bytes_of bits) a hs
  steady_applied (Complement bits) (a ∷ hs) = steady_if (nat_le bits 32) _ _ (steady_computed _ _ _ a hs) refl

  steady_at_local : (j : ℕ) (hs : List Operand) → IsSteady (at_local r j hs)
  steady_at_local j hs = steady_if (nat_lt j r.locals) _ _ refl tt

  steady_set : (i : ℕ) (hs : List Operand) → IsSteady (set_local r i hs)
  steady_set i [] = tt
  steady_set i (a ∷ hs) = steady_if (nat_lt (r.receiver + i) r.locals && is_free (r.receiver + i) (reverse hs)) _ _ refl tt

  -- ---- calls

  steady_taken : (o : Option Taken) (go : List Operand → List Operand → Made)
      → ((args rest : List Operand) → IsSteady (go args rest)) → IsSteady (with_taken o go)
  steady_taken (Some t) go h = h t.args t.rest
  steady_taken None go h = tt

  steady_resulting : (q : ℕ) (o : Option Width) (xs : List Passed) (rest : List Operand) → IsSteady (resulting r (ByNumber q) o xs rest)
  steady_resulting q (Some w) xs rest = steady_temp (temp r rest) _ (λ to. refl)
  steady_resulting q None xs rest = refl

  steady_called : (q count : ℕ) (hs : List Operand) → IsSteady (called lay r q count hs)
  steady_called q count hs =
      steady_taken (taken count hs) _ (λ xs rest. steady_resulting q p.result (in_widths p.widths (with_receiver p.receives xs)) rest)
    where
      p : Passing
      p = passing_of (slice_get lay.passing q)

  steady_on : (d code : ℕ) (xs rest : List Operand) → IsSteady (called_on r d code xs rest)
  steady_on d code [] rest = tt
  steady_on d code (a ∷ xs) rest = steady_temp (temp r rest) _ (λ to. behind_null a true refl)

  steady_by : (receiver : ℕ) (xs rest : List Operand) → IsSteady (called_by' r receiver xs rest)
  steady_by receiver [] rest = tt
  steady_by receiver (a ∷ xs) rest = steady_temp (temp r rest) _ (λ to. refl)

  steady_bound_for : (d : ℕ) (hs : List Operand) → IsSteady (bound_for r d hs)
  steady_bound_for d [] = tt
  steady_bound_for d (a ∷ hs) = steady_temp (temp r hs) _ (λ to. steady_temp (temp r (a ∷ hs)) _ (λ above. behind_null a true refl))

  -- ---- objects, columns and elements

  steady_one_of : (first count : ℕ) (hs : List Operand) → IsSteady (is_one_of r first count hs)
  steady_one_of first count [] = tt
  steady_one_of first count (a ∷ hs) = steady_if (nat_lt (first + count) (2 ^ 32)) _ _ (steady_temp (temp r hs) _ (λ to. refl)) tt

  steady_cast : (first count : ℕ) (hs : List Operand) → IsSteady (cast_to r first count hs)
  steady_cast first count [] = tt
  steady_cast first count (a ∷ hs) = steady_if (nat_lt (first + count) (2 ^ 32)) _ _ (steady_temp (temp r (a ∷ hs)) _ (λ to. refl)) tt

  steady_nothing : (hs : List Operand) → IsSteady (load_nothing hs)
  steady_nothing [] = tt
  steady_nothing (a ∷ hs) = refl

  steady_no_store : (hs : List Operand) → IsSteady (store_nothing hs)
  steady_no_store [] = tt
  steady_no_store (v ∷ []) = tt
  steady_no_store (v ∷ a ∷ hs) = refl

  steady_no_field : (hs : List Operand) → IsSteady (load_no_field r hs)
  steady_no_field [] = tt
  steady_no_field (a ∷ hs) = null_steady a

  steady_no_field_store : (hs : List Operand) → IsSteady (store_no_field r hs)
  steady_no_field_store [] = tt
  steady_no_field_store (v ∷ []) = tt
  steady_no_field_store (v ∷ a ∷ hs) = null_steady a

  multiplied_steady : (to by : ℕ) (h : Operand) → steady (multiplied to by h) ≡ true
  multiplied_steady to by h = by_one (by == 1)
    where
      by_one : (b : Bool) → steady (if b then Skip else One (Compute (record { operator = Product; width = 2; to = to; left = h; right = Known by }))) ≡ true
      by_one true = refl
      by_one false = refl

  steady_fetched : (memory : Memory) (width by base : ℕ) (a : Operand) (hs : List Operand) → IsSteady (fetched r memory width by base a hs)
  steady_fetched memory width by base a hs =
      steady_temp (temp r hs) _ (λ to. behind_null a _ (ap (λ z. z && true) (multiplied_steady to by a)))

  steady_fetched_from : (memory : Memory) (width first base : ℕ) (a : Operand) (hs : List Operand) → IsSteady (fetched_from r memory width first base a hs)
  steady_fetched_from memory width first base a hs =
      steady_temp (temp r hs) _ (λ to. behind_null a _ (ap (λ z. z && true) (multiplied_steady to width (Local to))))

  steady_load_one : (memory : Memory) (o : Option Place) (hs : List Operand) → IsSteady (load_one r memory o hs)
  steady_load_one memory None hs = tt
  steady_load_one memory (Some place) hs = steady_if (is_width place.width) _ _ (steady_temp (temp r hs) _ (λ to. refl)) tt

  steady_load_of : (memory : Memory) (first : ℕ) (o : Option Place) (hs : List Operand) → IsSteady (load_of r memory first o hs)
  steady_load_of memory first None hs = tt
  steady_load_of memory first (Some place) [] = tt
  steady_load_of memory first (Some place) (a ∷ hs) =
      steady_if (is_width place.width) _ _
      (steady_if (place.count == 1) _ _ (steady_temp (temp r hs) _ (λ to. behind_null a true refl))
      (steady_if (nat_le (place.width * first) place.address) _ _ (steady_fetched memory place.width place.width _ a hs)
      (steady_fetched_from memory place.width first place.address a hs))) tt

  steady_length : (o : Option ℕ) (hs : List Operand) → IsSteady (length_of r o hs)
  steady_length None hs = steady_nothing hs
  steady_length (Some table) [] = tt
  steady_length (Some table) (a ∷ hs) = steady_if (nat_le 2 table) _ _ (steady_fetched _ 2 4 _ a hs) tt

  steady_known_length : (length : ℕ) (hs : List Operand) → IsSteady (known_length length hs)
  steady_known_length length [] = tt
  steady_known_length length (a ∷ hs) = refl

  steady_array_length : (single : Option ArrayPlace) (o : Option ℕ) (hs : List Operand) → IsSteady (array_length r single o hs)
  steady_array_length (Some a) o hs = steady_known_length a.length hs
  steady_array_length None o hs = steady_length o hs

  steady_store_one : (width : ℕ) (o : Option Place) (hs : List Operand) → IsSteady (store_one width o hs)
  steady_store_one width None hs = tt
  steady_store_one width (Some place) [] = tt
  steady_store_one width (Some place) (v ∷ hs) = steady_if (is_width width && (width == place.width)) _ _ refl tt

  steady_store_of : (first width : ℕ) (o : Option Place) (hs : List Operand) → IsSteady (store_of r first width o hs)
  steady_store_of first width None hs = tt
  steady_store_of first width (Some place) [] = tt
  steady_store_of first width (Some place) (v ∷ []) = tt
  steady_store_of first width (Some place) (v ∷ a ∷ hs) =
      steady_if (is_width width && (width == place.width)) _ _
      (steady_if (place.count == 1) _ _ (behind_null a true refl)
      (steady_if (nat_le (width * first) place.address) _ _
      (steady_temp (temp r (v ∷ a ∷ hs)) _ (λ to. behind_null a _ (ap (λ z. z && true) (multiplied_steady to width a))))
      (steady_temp (temp r (v ∷ a ∷ hs)) _ (λ to. behind_null a _ (ap (λ z. z && true) (multiplied_steady to width (Local to))))))) tt

  steady_no_element : (width table : ℕ) (a i : Operand) (hs left : List Operand) → IsSteady (no_element r width table a i hs left)
  steady_no_element width table a i hs left =
      steady_temp (temp r (i ∷ a ∷ hs)) _ (λ first. steady_temp (temp r (Local first ∷ i ∷ a ∷ hs)) _ (λ second. refl))

  steady_load_inside : (single : Option ArrayPlace) (e : Elements) (table : ℕ) (a i : Operand) (hs : List Operand)
      → IsSteady (load_inside r single e table a i hs)
  steady_load_inside (Some x) e table a i hs = steady_temp (temp r hs) _ (λ to. ap (λ z. z && true) (multiplied_steady to e.width i))
  steady_load_inside None e table a i hs =
      steady_temp (temp r hs) _ (λ to. steady_temp (temp r (i ∷ a ∷ hs)) _ (λ first.
      steady_temp (temp r (Local first ∷ i ∷ a ∷ hs)) _ (λ second. refl)))

  steady_load_item : (single : Option ArrayPlace) (e : Elements) (o : Option Place) (u : Option ℕ) (hs : List Operand) → IsSteady (load_item r single e o u hs)
  steady_load_item single e o None [] = tt
  steady_load_item single e o None (i ∷ hs) = steady_nothing hs
  steady_load_item single e None (Some table) [] = tt
  steady_load_item single e None (Some table) (i ∷ []) = tt
  steady_load_item single e None (Some table) (i ∷ a ∷ hs) =
      steady_if (nat_le 4 table) _ _ (steady_no_element e.width table a i hs (Known 0 ∷ hs)) tt
  steady_load_item single e (Some place) (Some table) [] = tt
  steady_load_item single e (Some place) (Some table) (i ∷ []) = tt
  steady_load_item single e (Some place) (Some table) (i ∷ a ∷ hs) =
      steady_if (is_width e.width && is_place e place && nat_le 4 table) _ _ (steady_load_inside single e table a i hs) tt

  steady_store_inside : (single : Option ArrayPlace) (width table : ℕ) (v a i : Operand) (hs : List Operand)
      → IsSteady (store_inside r single width table v a i hs)
  steady_store_inside (Some x) width table v a i hs = steady_temp (temp r (v ∷ i ∷ a ∷ hs)) _ (λ to. ap (λ z. z && true) (multiplied_steady to width i))
  steady_store_inside None width table v a i hs =
      steady_temp (temp r (v ∷ i ∷ a ∷ hs)) _ (λ first. steady_temp (temp r (Local first ∷ v ∷ i ∷ a ∷ hs)) _ (λ second. refl))

  steady_store_item : (single : Option ArrayPlace) (e : Elements) (o : Option Place) (u : Option ℕ) (hs : List Operand) → IsSteady (store_item r single e o u hs)
  steady_store_item single e o None [] = tt
  steady_store_item single e o None (v ∷ []) = tt
  steady_store_item single e o None (v ∷ i ∷ hs) = steady_no_store (v ∷ hs)
  steady_store_item single e None (Some table) [] = tt
  steady_store_item single e None (Some table) (v ∷ []) = tt
  steady_store_item single e None (Some table) (v ∷ i ∷ []) = tt
  steady_store_item single e None (Some table) (v ∷ i ∷ a ∷ hs) = steady_if (nat_le 4 table) _ _ (steady_no_element e.width table a i hs hs) tt
  steady_store_item single e (Some place) (Some table) [] = tt
  steady_store_item single e (Some place) (Some table) (v ∷ []) = tt
  steady_store_item single e (Some place) (Some table) (v ∷ i ∷ []) = tt
  steady_store_item single e (Some place) (Some table) (v ∷ i ∷ a ∷ hs) =
      steady_if (is_width e.width && is_place e place && nat_le 4 table) _ _ (steady_store_inside single e.width table v a i hs) tt

  steady_forgotten : (hs : List Operand) → IsSteady (forgotten hs)
  steady_forgotten [] = tt
  steady_forgotten (a ∷ hs) = refl

  steady_written : (address : ℕ) (hs : List Operand) → IsSteady (written address hs)
  steady_written address [] = tt
  steady_written address (a ∷ hs) = refl

  pub steady_step : (p : Step) (hs : List Operand) → IsSteady (stepped lay r p hs)
  steady_step (Number v) hs = steady_if (nat_lt v (2 ^ 32)) _ _ refl tt
  steady_step This hs = steady_if (r.receiver == 0) _ _ refl (steady_at_local 0 hs)
  steady_step (GetLocal i) hs = steady_at_local (r.receiver + i) hs
  steady_step (SetLocal i) hs = steady_set i hs
  steady_step Forget hs = steady_forgotten hs
  steady_step (Operate op) hs = steady_operated op hs
  steady_step (Apply op) hs = steady_applied op hs
  steady_step (ReadDevice address) hs = steady_temp (temp r hs) _ (λ to. refl)
  steady_step (WriteDevice address) hs = steady_written address hs
  steady_step (Load home c) hs = steady_load_one (memory_of home) (slice_get (places_in lay home) c) hs
  steady_step (Store c width) hs = steady_store_one width (slice_get lay.ram c) hs
  steady_step (LoadAt home c first) hs = steady_load_of (memory_of home) first (slice_get (places_in lay home) c) hs
  steady_step (StoreAt c first width) hs = steady_store_of first width (slice_get lay.ram c) hs
  steady_step LoadNothing hs = steady_no_field hs
  steady_step StoreNothing hs = steady_no_field_store hs
  steady_step (LoadItem e) hs = steady_load_item (lone_of lay e.table) e (slice_get (places_in lay e.home) e.column) (slice_get lay.tables e.table) hs
  steady_step (StoreItem e) hs = steady_store_item (lone_of lay e.table) e (slice_get lay.ram e.column) (slice_get lay.tables e.table) hs
  steady_step (Length t) hs = steady_array_length (lone_of lay t) (slice_get lay.tables t) hs
  steady_step (IsWithin first count) hs = steady_one_of first count hs
  steady_step (StopUnlessWithin first count) hs = steady_cast first count hs
  steady_step (Bind q) hs = steady_temp (temp r hs) _ (λ to. refl)
  steady_step (BindFor d) hs = steady_bound_for d hs
  steady_step (Call q count) hs = steady_called q count hs
  steady_step (CallFor d count) hs =
      steady_temp (temp r hs) _ (λ code. steady_taken (taken (count + 1) hs) _ (λ xs rest. steady_on d code xs rest))
  steady_step (CallValue count) hs =
      steady_temp (temp r hs) _ (λ receiver. steady_taken (taken (count + 1) hs) _ (λ xs rest. steady_by receiver xs rest))
  steady_step Idle hs = refl
