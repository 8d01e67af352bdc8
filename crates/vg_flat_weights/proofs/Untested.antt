-- The steps that take two values or more leave no test that waits, but for comparisons.
use Rattle.std.specs.Prelude.{ℕ, ◌+◌, ◌*◌, Bool, true, false, ◌==◌, ◌&&◌, nat_lt, nat_le, List, [], ◌∷◌, Option, Some, None, slice_get, if◌then◌else◌}
use Rattle.std.proofs.Common.{◌≡◌, refl}
use Rattle.vg_firm.specs.declared.step.Operator.{Operator}
use Rattle.vg_firm.specs.declared.step.Operator.TheVariants.{Plus, Minus, Times, Divide, Remainder, Less, AtMost, Greater, AtLeast, Equal, Unequal}
use Rattle.vg_firm.specs.declared.step.Operator.TheVariants.{And, Or, Xor, ShiftLeft, ShiftRight, Concat}
use Rattle.vg_firm.specs.declared.step.ArrayPlace.{ArrayPlace}
use Rattle.vg_firm.specs.declared.step.Elements.{Elements}
use Rattle.vg_lin.specs.declared.instr.Operand.{Operand}
use Rattle.vg_lin.specs.declared.instr.Operand.TheVariants.{Local, Known}
use Rattle.vg_lin.specs.declared.instr.Operator.{Operator as LinOperator}
use Rattle.vg_lin.specs.declared.instr.Passed.{Passed}
use Rattle.vg_lin.specs.declared.instr.Callee.{Callee}
use Rattle.vg_flatten_shapes.specs.declared.layout.Place.{Place}
use Rattle.vg_flatten_shapes.specs.declared.layout.Layout.{Layout}
use Rattle.vg_flatten_shapes.specs.declared.layout.Passing.{Passing}
use Rattle.vg_flatten_shapes.specs.declared.layout.Width.{Width}
use Rattle.vg_flatten_shapes.specs.declared.room.Room.{Room}
use Rattle.vg_flatten_shapes.specs.Shapes.{Taken, taken, temp}
use Rattle.vg_flatten_shapes.specs.Made.{Made, Gives, Refused, by_temp}
use Rattle.vg_flatten_values.specs.Values.{computed, bytes_of, bytes_around, masked, shifted_left, shifted_right, combined}
use Rattle.vg_flatten_places.specs.Places.{is_width, is_place, store_of, store_no_field, load_nothing, store_nothing, no_element}
use Rattle.vg_flatten_places.specs.Places.{load_inside, load_item, store_inside, store_item}
use Rattle.vg_flatten_steps.specs.Calls.{in_widths, with_receiver, with_taken, passing_of, resulting, called, called_on, called_for, called_by, called_value}

-- No test waits behind what is made.
abbrev pub Untested : Made → Type 0
Untested (Gives b s) = s.truth ≡ None
Untested (Refused why) = Unit {0}

by_if : (b : Bool) (x y : Made) → Untested x → Untested y → Untested (if b then x else y)
by_if true x y h g = h
by_if false x y h g = g

by_temps : (o : Option ℕ) (go : ℕ → Made) → ((to : ℕ) → Untested (go to)) → Untested (by_temp o go)
by_temps (Some to) go h = h to
by_temps None go h = tt

by_taken : (o : Option Taken) (go : List Operand → List Operand → Made) → ((args rest : List Operand) → Untested (go args rest)) → Untested (with_taken o go)
by_taken (Some t) go h = h t.args t.rest
by_taken None go h = tt

module _ (lay : Layout) (r : Room) where
  -- ---- operators

  pub untested_computed : (op : LinOperator) (width : ℕ) (a b : Operand) (hs : List Operand) → Untested (computed r op width a b hs)
  untested_computed op width a b hs = by_temps (temp r hs) _ (λ to. refl)

  untested_masked : (bits : ℕ) (o : Option ℕ) (a b : Operand) (hs : List Operand) → Untested (masked r bits o a b hs)
  untested_masked bits None a b hs = refl
  untested_masked bits (Some width) a b hs = by_temps (temp r hs) _ (λ to. refl)

  untested_left : (bits : ℕ) (o : Option ℕ) (a b : Operand) (hs : List Operand) → Untested (shifted_left r bits o a b hs)
  untested_left bits None a b hs = untested_masked bits (bytes_around bits) a b hs
  untested_left bits (Some width) a b hs = untested_computed _ width a b hs

  untested_right : (bits : ℕ) (a b : Operand) (hs : List Operand) → Untested (shifted_right r bits a b hs)
  untested_right bits a (Known n) hs = by_if (nat_lt n bits) _ _ (untested_computed _ _ a (Known n) hs) refl
  untested_right bits a (Local i) hs = untested_computed _ _ a (Local i) hs

  pub untested_combined : (op : Operator) (a b : Operand) (hs : List Operand) → Untested (combined r op a b hs)
  untested_combined Divide a b hs = by_temps (temp r hs) _ (λ to. refl)
  untested_combined Remainder a b hs = by_temps (temp r hs) _ (λ to. refl)
  untested_combined (ShiftLeft bits) a b hs = untested_left bits (bytes_of bits) a b hs
  untested_combined (ShiftRight bits) a b hs = untested_right bits a b hs
  untested_combined (Concat bits) a b hs = by_temps (temp r hs) _ (λ to. refl)
  untested_combined Plus a b hs = refl
  untested_combined Minus a b hs = refl
  untested_combined Times a b hs = refl
  untested_combined (Less o) a b hs = refl
  untested_combined (AtMost o) a b hs = refl
  untested_combined (Greater o) a b hs = refl
  untested_combined (AtLeast o) a b hs = refl
  untested_combined Equal a b hs = refl
  untested_combined Unequal a b hs = refl
  untested_combined And a b hs = refl
  untested_combined Or a b hs = refl
  untested_combined Xor a b hs = refl

  -- ---- columns and elements

  pub untested_store_of : (first width : ℕ) (o : Option Place) (hs : List Operand) → Untested (store_of r first width o hs)
  untested_store_of first width None hs = tt
  untested_store_of first width (Some place) [] = tt
  untested_store_of first width (Some place) (v ∷ []) = tt
  untested_store_of first width (Some place) (v ∷ a ∷ hs) =
      by_if (is_width width && (width == place.width)) _ _
      (by_if (place.count == 1) _ _ refl
      (by_if (nat_le (width * first) place.address) _ _ (by_temps (temp r (v ∷ a ∷ hs)) _ (λ to. refl)) (by_temps (temp r (v ∷ a ∷ hs)) _ (λ to. refl)))) tt

  pub untested_no_field : (hs : List Operand) → Untested (store_no_field r hs)
  untested_no_field [] = tt
  untested_no_field (v ∷ []) = tt
  untested_no_field (v ∷ a ∷ hs) = refl

  untested_nothing : (hs : List Operand) → Untested (load_nothing hs)
  untested_nothing [] = tt
  untested_nothing (a ∷ hs) = refl

  untested_no_store : (hs : List Operand) → Untested (store_nothing hs)
  untested_no_store [] = tt
  untested_no_store (v ∷ []) = tt
  untested_no_store (v ∷ a ∷ hs) = refl

  untested_no_element : (width table : ℕ) (a i : Operand) (hs left : List Operand) → Untested (no_element r width table a i hs left)
  untested_no_element width table a i hs left =
      by_temps (temp r (i ∷ a ∷ hs)) _ (λ first. by_temps (temp r (Local first ∷ i ∷ a ∷ hs)) _ (λ second. refl))

  untested_load_inside : (single : Option ArrayPlace) (e : Elements) (table : ℕ) (a i : Operand) (hs : List Operand)
      → Untested (load_inside r single e table a i hs)
  untested_load_inside (Some x) e table a i hs = by_temps (temp r hs) _ (λ to. refl)
  untested_load_inside None e table a i hs =
      by_temps (temp r hs) _ (λ to. by_temps (temp r (i ∷ a ∷ hs)) _ (λ first. by_temps (temp r (Local first ∷ i ∷ a ∷ hs)) _ (λ second. refl)))

  pub untested_load_item : (single : Option ArrayPlace) (e : Elements) (o : Option Place) (u : Option ℕ) (hs : List Operand)
      → Untested (load_item r single e o u hs)
  untested_load_item single e o None [] = tt
  untested_load_item single e o None (i ∷ hs) = untested_nothing hs
  untested_load_item single e None (Some table) [] = tt
  untested_load_item single e None (Some table) (i ∷ []) = tt
  untested_load_item single e None (Some table) (i ∷ a ∷ hs) = by_if (nat_le 4 table) _ _ (untested_no_element e.width table a i hs (Known 0 ∷ hs)) tt
  untested_load_item single e (Some place) (Some table) [] = tt
  untested_load_item single e (Some place) (Some table) (i ∷ []) = tt
  untested_load_item single e (Some place) (Some table) (i ∷ a ∷ hs) =
      by_if (is_width e.width && is_place e place && nat_le 4 table) _ _ (untested_load_inside single e table a i hs) tt

  untested_store_inside : (single : Option ArrayPlace) (width table : ℕ) (v a i : Operand) (hs : List Operand)
      → Untested (store_inside r single width table v a i hs)
  untested_store_inside (Some x) width table v a i hs = by_temps (temp r (v ∷ i ∷ a ∷ hs)) _ (λ to. refl)
  untested_store_inside None width table v a i hs =
      by_temps (temp r (v ∷ i ∷ a ∷ hs)) _ (λ first. by_temps (temp r (Local first ∷ v ∷ i ∷ a ∷ hs)) _ (λ second. refl))

  pub untested_store_item : (single : Option ArrayPlace) (e : Elements) (o : Option Place) (u : Option ℕ) (hs : List Operand)
      → Untested (store_item r single e o u hs)
  untested_store_item single e o None [] = tt
  untested_store_item single e o None (v ∷ []) = tt
  untested_store_item single e o None (v ∷ i ∷ hs) = untested_no_store (v ∷ hs)
  untested_store_item single e None (Some table) [] = tt
  untested_store_item single e None (Some table) (v ∷ []) = tt
  untested_store_item single e None (Some table) (v ∷ i ∷ []) = tt
  untested_store_item single e None (Some table) (v ∷ i ∷ a ∷ hs) = by_if (nat_le 4 table) _ _ (untested_no_element e.width table a i hs hs) tt
  untested_store_item single e (Some place) (Some table) [] = tt
  untested_store_item single e (Some place) (Some table) (v ∷ []) = tt
  untested_store_item single e (Some place) (Some table) (v ∷ i ∷ []) = tt
  untested_store_item single e (Some place) (Some table) (v ∷ i ∷ a ∷ hs) =
      by_if (is_width e.width && is_place e place && nat_le 4 table) _ _ (untested_store_inside single e.width table v a i hs) tt

  -- ---- calls

  untested_resulting : (callee : Callee) (o : Option Width) (xs : List Passed) (rest : List Operand) → Untested (resulting r callee o xs rest)
  untested_resulting callee (Some w) xs rest = by_temps (temp r rest) _ (λ to. refl)
  untested_resulting callee None xs rest = refl

  pub untested_called : (q count : ℕ) (hs : List Operand) → Untested (called lay r q count hs)
  untested_called q count hs =
      by_taken (taken count hs) _ (λ xs rest. untested_resulting _ p.result (in_widths p.widths (with_receiver p.receives xs)) rest)
    where
      p : Passing
      p = passing_of (slice_get lay.passing q)

  untested_on : (d code : ℕ) (xs rest : List Operand) → Untested (called_on r d code xs rest)
  untested_on d code [] rest = tt
  untested_on d code (a ∷ xs) rest = by_temps (temp r rest) _ (λ to. refl)

  pub untested_for : (d count : ℕ) (hs : List Operand) → Untested (called_for r d count hs)
  untested_for d count hs = by_temps (temp r hs) _ (λ code. by_taken (taken (count + 1) hs) _ (untested_on d code))

  untested_by : (receiver : ℕ) (xs rest : List Operand) → Untested (called_by r receiver xs rest)
  untested_by receiver [] rest = tt
  untested_by receiver (a ∷ xs) rest = by_temps (temp r rest) _ (λ to. refl)

  pub untested_value : (count : ℕ) (hs : List Operand) → Untested (called_value r count hs)
  untested_value count hs = by_temps (temp r hs) _ (λ receiver. by_taken (taken (count + 1) hs) _ (untested_by receiver))
