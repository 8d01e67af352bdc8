-- That with fewer temporaries a step becomes the same, or finds too few of them.
use Rattle.std.specs.Prelude.{ℕ, ◌+◌, ◌*◌, ◌^◌, ◌<◌, ◌≤◌, Bool, true, false, ◌==◌, ◌&&◌, nat_lt, nat_le, List, [], ◌∷◌, length}
use Rattle.std.specs.Prelude.{Option, Some, None, slice_get, if◌then◌else◌}
use Rattle.std.proofs.Common.{◌≡◌, ◌⊎◌, inl, inr, refl, arith}
use Rattle.vg_firm.specs.declared.step.Operator.{Operator}
use Rattle.vg_firm.specs.declared.step.Operator.TheVariants.{Plus, Minus, Times, Divide, Remainder, Less, AtMost, Greater, AtLeast, Equal, Unequal}
use Rattle.vg_firm.specs.declared.step.Operator.TheVariants.{And, Or, Xor, ShiftLeft, ShiftRight, Concat}
use Rattle.vg_firm.specs.declared.step.Prefix.{Prefix}
use Rattle.vg_firm.specs.declared.step.Prefix.TheVariants.{Negative, Not, Complement, Cut}
use Rattle.vg_firm.specs.declared.step.ArrayPlace.{ArrayPlace}
use Rattle.vg_firm.specs.declared.step.Elements.{Elements}
use Rattle.vg_firm.specs.declared.step.Step.{Step}
use Rattle.vg_firm.specs.declared.step.Step.TheVariants.{Number, This, Local as GetLocal, SetLocal, Forget, Operate, Apply, ReadDevice, WriteDevice}
use Rattle.vg_firm.specs.declared.step.Step.TheVariants.{Load, Store}
use Rattle.vg_firm.specs.declared.step.Step.TheVariants.{LoadAt, StoreAt, LoadNothing, StoreNothing, LoadItem, StoreItem, Length, IsWithin}
use Rattle.vg_firm.specs.declared.step.Step.TheVariants.{StopUnlessWithin, Bind, BindFor, Call, CallFor, CallValue, Idle}
use Rattle.vg_lin.specs.declared.instr.Operand.{Operand}
use Rattle.vg_lin.specs.declared.instr.Operand.TheVariants.{Local, Known}
use Rattle.vg_lin.specs.declared.instr.Operator.{Operator as LinOperator}
use Rattle.vg_lin.specs.declared.instr.Memory.{Memory}
use Rattle.vg_lin.specs.declared.instr.Passed.{Passed}
use Rattle.vg_lin.specs.declared.instr.Callee.{Callee}
use Rattle.vg_lin.specs.declared.instr.Callee.TheVariants.{Procedure as ByNumber}
use Rattle.vg_flatten_shapes.specs.declared.fault.Fault.TheVariants.{TooHigh}
use Rattle.vg_flatten_shapes.specs.declared.open.Truth.{Truth}
use Rattle.vg_flatten_shapes.specs.declared.layout.Place.{Place}
use Rattle.vg_flatten_shapes.specs.declared.layout.Layout.{Layout}
use Rattle.vg_flatten_shapes.specs.declared.layout.Passing.{Passing}
use Rattle.vg_flatten_shapes.specs.declared.layout.Width.{Width}
use Rattle.vg_flatten_shapes.specs.declared.room.Room.{Room}
use Rattle.vg_flatten_shapes.specs.Shapes.{Taken, taken, temp}
use Rattle.vg_flatten_shapes.specs.Made.{Made, Refused, by_temp}
use Rattle.vg_flatten_values.specs.Values.{computing, comparing, operated, operated_as, bytes_of, bytes_around, cut_bits, cut, applied}
use Rattle.vg_flatten_values.specs.Values.{masked, shifted_left, shifted_right, combined}
use Rattle.vg_flatten_places.specs.Places.{is_width, load_one, load_of, length_of, lone_of, array_length, places_in, memory_of}
use Rattle.vg_flatten_places.specs.Places.{store_of, is_place, load_inside, load_item, store_inside, store_item, no_element, load_no_field, store_no_field}
use Rattle.vg_flatten_steps.specs.Locals.{set_local}
use Rattle.vg_flatten_steps.specs.Calls.{in_widths, with_taken, passing_of, with_receiver, resulting, called, called_on, called_by, bound_for}
use Rattle.vg_flatten_steps.specs.Objects.{is_one_of, cast_to}
use Rattle.vg_flatten_steps.specs.Steps.{stepped}
use Rattle.vg_flatten.proofs.Typed.{lt_true, not_true}

-- What was made with few temporaries is what was made with many, or they were too few.
abbrev pub Near : (few many : Made) → Type 0
Near few many = (few ≡ many) ⊎ (few ≡ Refused TooHigh)

pub near_if : (b : Bool) (x u y v : Made) → Near x y → Near u v → Near (if b then x else u) (if b then y else v)
near_if true x u y v h g = h
near_if false x u y v h g = g

near_taken : (o : Option Taken) (f g : List Operand → List Operand → Made) → ((xs rest : List Operand) → Near (f xs rest) (g xs rest))
    → Near (with_taken o f) (with_taken o g)
near_taken (Some t) f g h = h t.args t.rest
near_taken None f g h = inl refl

-- The same room with so many temporaries.
abbrev pub with_temps : Room → (temps : ℕ) → Room
with_temps r n = record { receiver = r.receiver; on_objects = r.on_objects; locals = r.locals; temps = n; result = r.result }

module _ (lay : Layout) (r : Room) (many : ℕ) (more : r.temps ≤ many) where
  pub near_temp : (hs : List Operand) (f g : ℕ → Made) → ((to : ℕ) → Near (f to) (g to))
      → Near (by_temp (temp r hs) f) (by_temp (temp (with_temps r many) hs) g)
  near_temp hs f g h = by_room (nat_lt (length hs) r.temps) (nat_lt (length hs) many) later
    where
      later : nat_lt (length hs) r.temps ≡ true → nat_lt (length hs) many ≡ true
      later e = lt_true (length hs) many (within (length hs) r.temps many e more)
        where
          within : (a b c : ℕ) → nat_lt a b ≡ true → b ≤ c → a < c
          within a b c e1 le = grind arith

      by_room : (b c : Bool) → (b ≡ true → c ≡ true)
          → Near (by_temp (if b then Some (r.locals + length hs) else None) f) (by_temp (if c then Some (r.locals + length hs) else None) g)
      by_room false c k = inr refl
      by_room true true k = h (r.locals + length hs)
      by_room true false k = absurd (not_true (k refl))

  -- where the temporary is the only one
  near_one : (hs : List Operand) (f : ℕ → Made) → Near (by_temp (temp r hs) f) (by_temp (temp (with_temps r many) hs) f)
  near_one hs f = near_temp hs f f (λ to. inl refl)

  -- ---- operators

  near_masked : (bits : ℕ) (o : Option ℕ) (a b : Operand) (hs : List Operand)
      → Near (masked r bits o a b hs) (masked (with_temps r many) bits o a b hs)
  near_masked bits None a b hs = inl refl
  near_masked bits (Some width) a b hs = near_one hs _

  near_left : (bits : ℕ) (o : Option ℕ) (a b : Operand) (hs : List Operand)
      → Near (shifted_left r bits o a b hs) (shifted_left (with_temps r many) bits o a b hs)
  near_left bits None a b hs = near_masked bits (bytes_around bits) a b hs
  near_left bits (Some width) a b hs = near_one hs _

  near_right : (bits : ℕ) (a b : Operand) (hs : List Operand) → Near (shifted_right r bits a b hs) (shifted_right (with_temps r many) bits a b hs)
  near_right bits a (Known k) hs = near_if (nat_lt k bits) _ _ _ _ (near_one hs _) (inl refl)
  near_right bits a (Local i) hs = near_one hs _

  near_combined : (op : Operator) (a b : Operand) (hs : List Operand) → Near (combined r op a b hs) (combined (with_temps r many) op a b hs)
  near_combined Divide a b hs = near_one hs _
  near_combined Remainder a b hs = near_one hs _
  near_combined (ShiftLeft bits) a b hs = near_left bits (bytes_of bits) a b hs
  near_combined (ShiftRight bits) a b hs = near_right bits a b hs
  near_combined (Concat bits) a b hs = near_one hs _
  near_combined Plus a b hs = inl refl
  near_combined Minus a b hs = inl refl
  near_combined Times a b hs = inl refl
  near_combined (Less o) a b hs = inl refl
  near_combined (AtMost o) a b hs = inl refl
  near_combined (Greater o) a b hs = inl refl
  near_combined (AtLeast o) a b hs = inl refl
  near_combined Equal a b hs = inl refl
  near_combined Unequal a b hs = inl refl
  near_combined And a b hs = inl refl
  near_combined Or a b hs = inl refl
  near_combined Xor a b hs = inl refl

  near_operated : (op : Operator) (hs : List Operand) → Near (operated r op hs) (operated (with_temps r many) op hs)
  near_operated op [] = inl refl
  near_operated op (b ∷ []) = inl refl
  near_operated op (b ∷ a ∷ hs) = by_kind (computing op) (comparing op a b)
    where
      by_kind : (o : Option LinOperator) (t : Option Truth) → Near (operated_as r op o t a b hs) (operated_as (with_temps r many) op o t a b hs)
      by_kind (Some lop) t = near_one hs _
      by_kind None (Some t) = inl refl
      by_kind None None = near_combined op a b hs

  near_cut_bits : (bits : ℕ) (o : Option ℕ) (a : Operand) (hs : List Operand) → Near (cut_bits r bits o a hs) (cut_bits (with_temps r many) bits o a hs)
  near_cut_bits bits None a hs = inl refl
  near_cut_bits bits (Some width) a hs = near_one hs _

  near_cut : (bits : ℕ) (o : Option ℕ) (a : Operand) (hs : List Operand) → Near (cut r bits o a hs) (cut (with_temps r many) bits o a hs)
  near_cut bits None a hs = near_cut_bits bits (bytes_around bits) a hs
  near_cut bits (Some width) a hs = near_one hs _

  near_applied : (op : Prefix) (hs : List Operand) → Near (applied r op hs) (applied (with_temps r many) op hs)
  near_applied Not [] = inl refl
  near_applied Negative [] = inl refl
  near_applied (Cut bits) [] = inl refl
  near_applied (Complement bits) [] = inl refl
  near_applied Not (a ∷ hs) = inl refl
  near_applied Negative (a ∷ hs) = near_one hs _
  near_applied (Cut bits) (a ∷ hs) = near_cut bits (bytes_of bits) a hs
  near_applied (Complement bits) (a ∷ hs) = near_if (nat_le bits 32) _ _ _ _ (near_one hs _) (inl refl)

  near_set : (i : ℕ) (hs : List Operand) → Near (set_local r i hs) (set_local (with_temps r many) i hs)
  near_set i [] = inl refl
  near_set i (a ∷ hs) = inl refl

  -- ---- calls

  near_resulting : (callee : Callee) (o : Option Width) (xs : List Passed) (rest : List Operand)
      → Near (resulting r callee o xs rest) (resulting (with_temps r many) callee o xs rest)
  near_resulting callee (Some w) xs rest = near_one rest _
  near_resulting callee None xs rest = inl refl

  near_called : (q count : ℕ) (hs : List Operand) → Near (called lay r q count hs) (called lay (with_temps r many) q count hs)
  near_called q count hs =
      near_taken (taken count hs) _ _ (λ xs rest. near_resulting (ByNumber q) p.result (in_widths p.widths (with_receiver p.receives xs)) rest)
    where
      p : Passing
      p = passing_of (slice_get lay.passing q)

  near_on : (d code : ℕ) (xs rest : List Operand) → Near (called_on r d code xs rest) (called_on (with_temps r many) d code xs rest)
  near_on d code [] rest = inl refl
  near_on d code (a ∷ xs) rest = near_one rest _

  near_by : (receiver : ℕ) (xs rest : List Operand) → Near (called_by r receiver xs rest) (called_by (with_temps r many) receiver xs rest)
  near_by receiver [] rest = inl refl
  near_by receiver (a ∷ xs) rest = near_one rest _

  near_bound_for : (d : ℕ) (hs : List Operand) → Near (bound_for r d hs) (bound_for (with_temps r many) d hs)
  near_bound_for d [] = inl refl
  near_bound_for d (a ∷ hs) = near_temp hs _ _ (λ to. near_one (a ∷ hs) _)

  -- ---- objects, columns and elements

  near_one_of : (first count : ℕ) (hs : List Operand) → Near (is_one_of r first count hs) (is_one_of (with_temps r many) first count hs)
  near_one_of first count [] = inl refl
  near_one_of first count (a ∷ hs) = near_if (nat_lt (first + count) (2 ^ 32)) _ _ _ _ (near_one hs _) (inl refl)

  near_cast : (first count : ℕ) (hs : List Operand) → Near (cast_to r first count hs) (cast_to (with_temps r many) first count hs)
  near_cast first count [] = inl refl
  near_cast first count (a ∷ hs) = near_if (nat_lt (first + count) (2 ^ 32)) _ _ _ _ (near_one (a ∷ hs) _) (inl refl)

  near_no_field : (hs : List Operand) → Near (load_no_field r hs) (load_no_field (with_temps r many) hs)
  near_no_field [] = inl refl
  near_no_field (a ∷ hs) = inl refl

  near_no_store : (hs : List Operand) → Near (store_no_field r hs) (store_no_field (with_temps r many) hs)
  near_no_store [] = inl refl
  near_no_store (v ∷ []) = inl refl
  near_no_store (v ∷ a ∷ hs) = inl refl

  near_load_one : (memory : Memory) (o : Option Place) (hs : List Operand) → Near (load_one r memory o hs) (load_one (with_temps r many) memory o hs)
  near_load_one memory None hs = inl refl
  near_load_one memory (Some place) hs = near_if (is_width place.width) _ _ _ _ (near_one hs _) (inl refl)

  near_load_of : (memory : Memory) (first : ℕ) (o : Option Place) (hs : List Operand)
      → Near (load_of r memory first o hs) (load_of (with_temps r many) memory first o hs)
  near_load_of memory first None hs = inl refl
  near_load_of memory first (Some place) [] = inl refl
  near_load_of memory first (Some place) (a ∷ hs) =
      near_if (is_width place.width) _ _ _ _
      (near_if (place.count == 1) _ _ _ _ (near_one hs _) (near_if (nat_le (place.width * first) place.address) _ _ _ _ (near_one hs _) (near_one hs _)))
      (inl refl)

  near_length : (o : Option ℕ) (hs : List Operand) → Near (length_of r o hs) (length_of (with_temps r many) o hs)
  near_length None hs = inl refl
  near_length (Some table) [] = inl refl
  near_length (Some table) (a ∷ hs) = near_if (nat_le 2 table) _ _ _ _ (near_one hs _) (inl refl)

  near_array_length : (single : Option ArrayPlace) (o : Option ℕ) (hs : List Operand)
      → Near (array_length r single o hs) (array_length (with_temps r many) single o hs)
  near_array_length (Some a) o hs = inl refl
  near_array_length None o hs = near_length o hs

  near_store_of : (first width : ℕ) (o : Option Place) (hs : List Operand)
      → Near (store_of r first width o hs) (store_of (with_temps r many) first width o hs)
  near_store_of first width None hs = inl refl
  near_store_of first width (Some place) [] = inl refl
  near_store_of first width (Some place) (v ∷ []) = inl refl
  near_store_of first width (Some place) (v ∷ a ∷ hs) =
      near_if (is_width width && (width == place.width)) _ _ _ _
      (near_if (place.count == 1) _ _ _ _ (inl refl)
      (near_if (nat_le (width * first) place.address) _ _ _ _ (near_one (v ∷ a ∷ hs) _) (near_one (v ∷ a ∷ hs) _)))
      (inl refl)

  near_no_element : (width table : ℕ) (a i : Operand) (hs left : List Operand)
      → Near (no_element r width table a i hs left) (no_element (with_temps r many) width table a i hs left)
  near_no_element width table a i hs left = near_temp (i ∷ a ∷ hs) _ _ (λ first. near_one (Local first ∷ i ∷ a ∷ hs) _)

  near_load_inside : (single : Option ArrayPlace) (e : Elements) (table : ℕ) (a i : Operand) (hs : List Operand)
      → Near (load_inside r single e table a i hs) (load_inside (with_temps r many) single e table a i hs)
  near_load_inside (Some x) e table a i hs = near_one hs _
  near_load_inside None e table a i hs =
      near_temp hs _ _ (λ to. near_temp (i ∷ a ∷ hs) _ _ (λ first. near_one (Local first ∷ i ∷ a ∷ hs) _))

  near_load_item : (single : Option ArrayPlace) (e : Elements) (o : Option Place) (u : Option ℕ) (hs : List Operand)
      → Near (load_item r single e o u hs) (load_item (with_temps r many) single e o u hs)
  near_load_item single e o None hs = inl refl
  near_load_item single e None (Some table) [] = inl refl
  near_load_item single e None (Some table) (i ∷ []) = inl refl
  near_load_item single e None (Some table) (i ∷ a ∷ hs) =
      near_if (nat_le 4 table) _ _ _ _ (near_no_element e.width table a i hs (Known 0 ∷ hs)) (inl refl)
  near_load_item single e (Some place) (Some table) [] = inl refl
  near_load_item single e (Some place) (Some table) (i ∷ []) = inl refl
  near_load_item single e (Some place) (Some table) (i ∷ a ∷ hs) =
      near_if (is_width e.width && is_place e place && nat_le 4 table) _ _ _ _ (near_load_inside single e table a i hs) (inl refl)

  near_store_inside : (single : Option ArrayPlace) (width table : ℕ) (v a i : Operand) (hs : List Operand)
      → Near (store_inside r single width table v a i hs) (store_inside (with_temps r many) single width table v a i hs)
  near_store_inside (Some x) width table v a i hs = near_one (v ∷ i ∷ a ∷ hs) _
  near_store_inside None width table v a i hs = near_temp (v ∷ i ∷ a ∷ hs) _ _ (λ first. near_one (Local first ∷ v ∷ i ∷ a ∷ hs) _)

  near_store_item : (single : Option ArrayPlace) (e : Elements) (o : Option Place) (u : Option ℕ) (hs : List Operand)
      → Near (store_item r single e o u hs) (store_item (with_temps r many) single e o u hs)
  near_store_item single e o None hs = inl refl
  near_store_item single e None (Some table) [] = inl refl
  near_store_item single e None (Some table) (v ∷ []) = inl refl
  near_store_item single e None (Some table) (v ∷ i ∷ []) = inl refl
  near_store_item single e None (Some table) (v ∷ i ∷ a ∷ hs) = near_if (nat_le 4 table) _ _ _ _ (near_no_element e.width table a i hs hs) (inl refl)
  near_store_item single e (Some place) (Some table) [] = inl refl
  near_store_item single e (Some place) (Some table) (v ∷ []) = inl refl
  near_store_item single e (Some place) (Some table) (v ∷ i ∷ []) = inl refl
  near_store_item single e (Some place) (Some table) (v ∷ i ∷ a ∷ hs) =
      near_if (is_width e.width && is_place e place && nat_le 4 table) _ _ _ _ (near_store_inside single e.width table v a i hs) (inl refl)

  -- ---- each step

  pub near_step : (p : Step) (hs : List Operand) → Near (stepped lay r p hs) (stepped lay (with_temps r many) p hs)
  near_step (Number v) hs = inl refl
  near_step This hs = inl refl
  near_step (GetLocal i) hs = inl refl
  near_step (SetLocal i) hs = near_set i hs
  near_step Forget hs = inl refl
  near_step (Operate op) hs = near_operated op hs
  near_step (Apply op) hs = near_applied op hs
  near_step (ReadDevice address) hs = near_one hs _
  near_step (WriteDevice address) hs = inl refl
  near_step (Load home c) hs = near_load_one (memory_of home) (slice_get (places_in lay home) c) hs
  near_step (Store c width) hs = inl refl
  near_step (LoadAt home c first) hs = near_load_of (memory_of home) first (slice_get (places_in lay home) c) hs
  near_step (StoreAt c first width) hs = near_store_of first width (slice_get lay.ram c) hs
  near_step LoadNothing hs = near_no_field hs
  near_step StoreNothing hs = near_no_store hs
  near_step (LoadItem e) hs = near_load_item (lone_of lay e.table) e (slice_get (places_in lay e.home) e.column) (slice_get lay.tables e.table) hs
  near_step (StoreItem e) hs = near_store_item (lone_of lay e.table) e (slice_get lay.ram e.column) (slice_get lay.tables e.table) hs
  near_step (Length t) hs = near_array_length (lone_of lay t) (slice_get lay.tables t) hs
  near_step (IsWithin first count) hs = near_one_of first count hs
  near_step (StopUnlessWithin first count) hs = near_cast first count hs
  near_step (Bind q) hs = near_one hs _
  near_step (BindFor d) hs = near_bound_for d hs
  near_step (Call q count) hs = near_called q count hs
  near_step (CallFor d count) hs = near_temp hs _ _ (λ code. near_taken (taken (count + 1) hs) _ _ (λ xs rest. near_on d code xs rest))
  near_step (CallValue count) hs = near_temp hs _ _ (λ receiver. near_taken (taken (count + 1) hs) _ _ (λ xs rest. near_by receiver xs rest))
  near_step Idle hs = inl refl
