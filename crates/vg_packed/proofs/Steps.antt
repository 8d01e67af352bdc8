-- Each step keeps scalars in their ranges.
use Rattle.std.proofs.Common.{◌≡◌, refl, ap, arith, ℕ, ◌+◌, ◌<◌, ◌^◌, ◌==◌, Bool, true, false, List, [], ◌∷◌, ◌++◌, length, take, drop}
use Rattle.std.proofs.Common.{replicate, Option, Some, None, slice_get, slice_set, subst}
use Rattle.std.specs.Prelude.{ℤ, pos, negsuc, nat_lt}
use Rattle.std.proofs.lemmas.List.{length-replicate}
use Rattle.vg_meaning.specs.World.{World, Phase, Starting, Running}
use Rattle.vg_meaning.specs.Answer.{OutOfRoom, Piece, go_on, passes}
use Rattle.vg_meaning.specs.Devices.{read_from, read_device, write_in, write_device}
use Rattle.vg_source.specs.Operators.{Computed, Is, Fails, Unfit, Format, ToInt, ToChar, ToBits, binary, prefixed, recast, compared, Scalar, AnInt, ATruth}
use Rattle.vg_source.specs.Operators.{AChar, Bits, Operand, Plain, NoCell, ObjectCell, ArrayCell}
use Rattle.vg_core.specs.declared.types.CoreType.{CoreType}
use Rattle.vg_core.specs.declared.types.CoreType.TheVariants.{IntType, BoolType, CharType, RawType, NullType, ClassType, ArrayType, FunctionType, NoType}
use Rattle.vg_core.specs.declared.types.CoreType.TheVariants.{MoreTypes}
use Rattle.vg_core.specs.declared.value.CoreValue.{CoreValue}
use Rattle.vg_core.specs.declared.value.CoreValue.TheVariants.{Int, Bool as Truth, Char, Raw, Null, Obj, Arr, Bound}
use Rattle.vg_core.specs.declared.operator.Operator.{Operator}
use Rattle.vg_core.specs.declared.operator.Prefix.{Prefix}
use Rattle.vg_core.specs.declared.heap.Cell.{Cell}
use Rattle.vg_core.specs.declared.heap.Cell.TheVariants.{Object, Array}
use Rattle.vg_core.specs.declared.step.Step.{Step}
use Rattle.vg_core.specs.declared.step.Step.TheVariants.{Put, Literal, This, Local, ComponentField, Register, ComponentMethod, Apply, Operate, CastTo}
use Rattle.vg_core.specs.declared.step.Step.TheVariants.{IsBelow, Field as FieldOf, Item, Length, MethodOf, CallMethod, CallValue, CallComponent}
use Rattle.vg_core.specs.declared.step.Step.TheVariants.{NewObject, NewArray, SetLocal, SetComponentField, SetRegister, SetField, SetItem, Forget, Super}
use Rattle.vg_core.specs.declared.program.Class.{Class}
use Rattle.vg_core.specs.declared.program.Field.{Field}
use Rattle.vg_core.specs.declared.program.Tables.{Tables}
use Rattle.vg_core.specs.declared.program.Target.{Target}
use Rattle.vg_core.specs.declared.program.Target.TheVariants.{Run, Construct}
use Rattle.vg_core.specs.Tables.{is_below, one_hierarchy, dispatch, field_type}
use Rattle.vg_core.specs.Operators.{operand_of, scalar_of, scalar_value, byte_of, operator_of, prefix_of}
use Rattle.vg_core.specs.Heap.{default, stored_values, Place, OfComponent, OfObject, OfArray, class_in, value_at, set_at}
use Rattle.vg_core.specs.State.{State, is_of}
use Rattle.vg_core.specs.Meaning.{put, take_from, taking, with_found, from_below, computed, checked, of_type, stop_unless, with_int, with_class, with_object}
use Rattle.vg_core.specs.Meaning.{with_object_of, in_array, with_array, with_index, with_item, operated, applied, recasted, cast_to_class, as_it_is, put_found}
use Rattle.vg_core.specs.Meaning.{cast_to, class_test, get_place, set_place, put_local, get_length, Caller, receiver_of, call_bound}
use Rattle.vg_core.specs.Meaning.{forgetting, at_start, adding, constructing, defaults, make_object, make_array, step}
use Rattle.vg_firm.specs.Operators as firm
use Rattle.vg_coded.specs.Numbers.{scalar_number, IsInRange}
use Rattle.vg_coded.specs.Operators.{operator_for, prefix_for, cut_for, cut_by, StandsFor}
use Rattle.vg_coded.proofs.Computing.{comparisons, scalars, prefixes, to_int, to_char, to_bits}
use Rattle.vg_packing.specs.Allowed.{IsSmall}
use Rattle.vg_packed.specs.Plain.{IsRanged, IsConstant}
use Rattle.vg_packed.specs.Ranges.{AreItems, IsRangedStep}
use Rattle.vg_packed.proofs.Keeping.{Held, Keeps, keeps_then, keeps_unless}
use Rattle.vg_packed.proofs.Ranged.{AllRanged, RangedCell, Ranged, ranged_get, ranged_set, ranged_take, ranged_drop, ranged_both}
use Rattle.vg_packed.proofs.Ranged.{ranged_replicate, small_int, int_small, cell_get, cell_more, default_ranged, defaults_ranged, scalar_ranged}
use Rattle.vg_packed.proofs.Storing.{place_ranged, cells_set, globals_set}

-- the state is ranged, and the program is initialised
abbrev pub Starts : Tables → State → Phase → Option ℕ → Type 0
Starts p s ph l = Ranged p s × (ph ≡ Starting)

-- ---- what operators make

abbrev RangesOf : Computed → Type 0
RangesOf (Is x) = IsInRange x
RangesOf (Fails code) = Unit {0}
RangesOf Unfit = Unit {0}

standing : (b : Bool) (o : Option ℕ) (r : Computed) → StandsFor b o r → RangesOf r
standing b o (Is x) h = h.0
standing b o (Fails code) h = tt
standing b o Unfit h = tt

compared_ranges : (op : Operator) (b : Bool) → RangesOf (compared (operator_of op) b)
compared_ranges op true =
    standing (firm.has_strings (operator_for op IntType IntType) 0 0) (firm.computed (operator_for op IntType IntType) 0 0) (compared (operator_of op) true)
    (comparisons op IntType IntType 0 0 true refl)
compared_ranges op false =
    standing (firm.has_strings (operator_for op IntType IntType) 0 1) (firm.computed (operator_for op IntType IntType) 0 1) (compared (operator_of op) false)
    (comparisons op IntType IntType 0 1 false refl)

plain_is : (v : CoreValue) (x : Scalar) → operand_of v ≡ Some (Plain x) → v ≡ scalar_value x
plain_is (Int n) x e = let q : AnInt n ≡ x = cc in ap scalar_value q
plain_is (Truth b) x e = let q : ATruth b ≡ x = cc in ap scalar_value q
plain_is (Char c) x e = let q : AChar c ≡ x = cc in ap scalar_value q
plain_is (Raw k b) x e = let q : Bits k b ≡ x = cc in ap scalar_value q
plain_is Null x e = absurd (let clash : Some NoCell ≡ Some (Plain x) = e in cc)
plain_is (Obj k) x e = absurd (let clash : Some (ObjectCell k) ≡ Some (Plain x) = e in cc)
plain_is (Arr k) x e = absurd (let clash : Some (ArrayCell k) ≡ Some (Plain x) = e in cc)
plain_is (Bound r m) x e = absurd (let clash : None ≡ Some (Plain x) = e in cc)

scalar_is : (v : CoreValue) (x : Scalar) → scalar_of v ≡ Some x → v ≡ scalar_value x
scalar_is (Int n) x e = let q : AnInt n ≡ x = cc in ap scalar_value q
scalar_is (Truth b) x e = let q : ATruth b ≡ x = cc in ap scalar_value q
scalar_is (Char c) x e = let q : AChar c ≡ x = cc in ap scalar_value q
scalar_is (Raw k b) x e = let q : Bits k b ≡ x = cc in ap scalar_value q
scalar_is Null x e = absurd (let clash : None ≡ Some x = e in cc)
scalar_is (Obj k) x e = absurd (let clash : None ≡ Some x = e in cc)
scalar_is (Arr k) x e = absurd (let clash : None ≡ Some x = e in cc)
scalar_is (Bound r m) x e = absurd (let clash : None ≡ Some x = e in cc)

in_range : (x : Scalar) → IsRanged (scalar_value x) → IsInRange x
in_range (AnInt n) h = h
in_range (ATruth b) h = tt
in_range (AChar c) h = h
in_range (Bits k b) h = h

module _ (p : Tables) (cells : List Cell) (op : Operator) (t u : CoreType) (x y : CoreValue) (ex : is_of p cells t x ≡ true) (ey : is_of p cells u y ≡ true)
    (rx : IsRanged x) (ry : IsRanged y) where
  binary_ranges : (a b : Operand) → operand_of x ≡ Some a → operand_of y ≡ Some b → RangesOf (binary (operator_of op) a b)
  binary_ranges (Plain a) (Plain b) ea eb =
      standing (firm.has_strings (operator_for op t u) (scalar_number a) (scalar_number b))
      (firm.computed (operator_for op t u) (scalar_number a) (scalar_number b)) (binary (operator_of op) (Plain a) (Plain b))
      (scalars p cells op t u a b (subst (λ z. is_of p cells t z ≡ true) (plain_is x a ea) ex) (subst (λ z. is_of p cells u z ≡ true) (plain_is y b eb) ey)
      (in_range a (subst IsRanged (plain_is x a ea) rx)) (in_range b (subst IsRanged (plain_is y b eb) ry)))
  binary_ranges NoCell NoCell ea eb = compared_ranges op true
  binary_ranges NoCell (ObjectCell k) ea eb = compared_ranges op false
  binary_ranges NoCell (ArrayCell k) ea eb = compared_ranges op false
  binary_ranges (ObjectCell j) NoCell ea eb = compared_ranges op false
  binary_ranges (ArrayCell j) NoCell ea eb = compared_ranges op false
  binary_ranges (ObjectCell j) (ObjectCell k) ea eb = compared_ranges op (j == k)
  binary_ranges (ArrayCell j) (ArrayCell k) ea eb = compared_ranges op (j == k)
  binary_ranges (ObjectCell j) (ArrayCell k) ea eb = tt
  binary_ranges (ArrayCell j) (ObjectCell k) ea eb = tt
  binary_ranges (Plain a) NoCell ea eb = tt
  binary_ranges (Plain a) (ObjectCell k) ea eb = tt
  binary_ranges (Plain a) (ArrayCell k) ea eb = tt
  binary_ranges NoCell (Plain b) ea eb = tt
  binary_ranges (ObjectCell j) (Plain b) ea eb = tt
  binary_ranges (ArrayCell j) (Plain b) ea eb = tt

nothing : (u : CoreValue) → None ≡ Some u → IsRanged u
nothing u e = absurd (let clash : None ≡ Some u = e in cc)

as_it_is_ranged : (t : CoreType) (v u : CoreValue) → as_it_is t v ≡ Some u → IsRanged u
as_it_is_ranged BoolType (Truth b) u e = let q : Truth b ≡ u = cc in subst IsRanged q tt
as_it_is_ranged BoolType (Int n) u e = nothing u e
as_it_is_ranged BoolType (Char c) u e = nothing u e
as_it_is_ranged BoolType (Raw k b) u e = nothing u e
as_it_is_ranged BoolType Null u e = nothing u e
as_it_is_ranged BoolType (Obj k) u e = nothing u e
as_it_is_ranged BoolType (Arr k) u e = nothing u e
as_it_is_ranged BoolType (Bound r m) u e = nothing u e
as_it_is_ranged (ArrayType i) (Arr k) u e = let q : Arr k ≡ u = cc in subst IsRanged q tt
as_it_is_ranged (ArrayType i) Null u e = let q : Null ≡ u = cc in subst IsRanged q tt
as_it_is_ranged (ArrayType i) (Int n) u e = nothing u e
as_it_is_ranged (ArrayType i) (Truth b) u e = nothing u e
as_it_is_ranged (ArrayType i) (Char c) u e = nothing u e
as_it_is_ranged (ArrayType i) (Raw k b) u e = nothing u e
as_it_is_ranged (ArrayType i) (Obj k) u e = nothing u e
as_it_is_ranged (ArrayType i) (Bound r m) u e = nothing u e
as_it_is_ranged (FunctionType ps r) (Bound receiver m) u e = let q : Bound receiver m ≡ u = cc in subst IsRanged q tt
as_it_is_ranged (FunctionType ps r) Null u e = let q : Null ≡ u = cc in subst IsRanged q tt
as_it_is_ranged (FunctionType ps r) (Int n) u e = nothing u e
as_it_is_ranged (FunctionType ps r) (Truth b) u e = nothing u e
as_it_is_ranged (FunctionType ps r) (Char c) u e = nothing u e
as_it_is_ranged (FunctionType ps r) (Raw k b) u e = nothing u e
as_it_is_ranged (FunctionType ps r) (Obj k) u e = nothing u e
as_it_is_ranged (FunctionType ps r) (Arr k) u e = nothing u e
as_it_is_ranged IntType v u e = nothing u e
as_it_is_ranged CharType v u e = nothing u e
as_it_is_ranged (RawType k) v u e = nothing u e
as_it_is_ranged NullType v u e = nothing u e
as_it_is_ranged (ClassType c) v u e = nothing u e
as_it_is_ranged NoType v u e = nothing u e
as_it_is_ranged (MoreTypes i j) v u e = nothing u e

receiver_ranged : (o : Option ℕ) → IsRanged (receiver_of o)
receiver_ranged (Some k) = tt
receiver_ranged None = tt

constant_ranged : (v : CoreValue) → IsConstant v → IsRanged v
constant_ranged (Int z) a = a
constant_ranged (Truth b) a = tt
constant_ranged (Char c) a = a
constant_ranged (Raw j b) a = a
constant_ranged Null a = tt
constant_ranged (Obj j) a = absurd a
constant_ranged (Arr j) a = absurd a
constant_ranged (Bound r m) a = absurd a

module _ (p : Tables) where
  -- other values wait
  with_values : (s : State) (vs : List CoreValue) → Ranged p s → AllRanged vs → Ranged p (record s { values = vs })
  with_values s vs g h = record { values = h; locals = g.locals; self = g.self; cells = g.cells; globals = g.globals }

  pub pops : (s : State) (ph : Phase) (l : Option ℕ) (v : CoreValue) (vs : List CoreValue) → s.values ≡ v ∷ vs → Starts p s ph l
      → Starts p (record s { values = vs }) ph l
  pops s ph l v vs e (g, q) = (with_values s vs g (subst AllRanged e g.values).1, q)

module _ {H : Type 0} (p : Tables) where
  abbrev pub K : Piece State H → Type 0
  K f = Keeps (Starts p) f

  abbrev At : State → World H → Type 0
  At s w = Starts p s w.phase w.largest

  -- ---- values that wait

  pub keeps_put : (v : CoreValue) → IsRanged v → K (put v)
  keeps_put v a s w (g, q) = (with_values p s (v ∷ s.values) g (a, g.values), q)

  keeps_taken : (vs : List CoreValue) (go : CoreValue → Piece State H) → ((v : CoreValue) → IsRanged v → K (go v)) → (s : State) (w : World H)
      → At s w → AllRanged vs → Held (Starts p) (take_from vs go s w)
  keeps_taken [] go k s w h r = h
  keeps_taken (v ∷ vs) go k s w (g, q) (a, r) = k v a (record s { values = vs }) w (with_values p s vs g r, q)

  pub keeps_taking : (go : CoreValue → Piece State H) → ((v : CoreValue) → IsRanged v → K (go v)) → K (taking go)
  keeps_taking go k s w h = keeps_taken s.values go k s w h h.0.values

  pub found_at : {A : Type 0} (o : Option A) (go : A → Piece State H) (s : State) (w : World H) → At s w
      → ((a : A) → o ≡ Some a → Held (Starts p) (go a s w)) → Held (Starts p) (with_found o go s w)
  found_at (Some a) go s w h k = k a refl
  found_at None go s w h k = h

  pub keeps_found : {A : Type 0} (o : Option A) (go : A → Piece State H) → ((a : A) → o ≡ Some a → K (go a)) → K (with_found o go)
  keeps_found o go k s w h = found_at o go s w h (λ a e. k a e s w h)

  keeps_below : (count : ℕ) (go : CoreValue → Piece State H) → ((v : CoreValue) → IsRanged v → K (go v)) → K (from_below count go)
  keeps_below count go k s w (g, q) =
      found_at (slice_get s.values count) go (record s { values = rest }) w there
      (λ v e. k v (ranged_get s.values count v g.values e) (record s { values = rest }) w there)
    where
      rest : List CoreValue
      rest = take count s.values ++ drop (count + 1) s.values

      there : At (record s { values = rest }) w
      there = (
        with_values p s rest g
            (ranged_both (take count s.values) (drop (count + 1) s.values) (ranged_take count s.values g.values)
            (ranged_drop (count + 1) s.values g.values)),
        q,
      )

  keeps_computed : (at : ℕ) (c : Computed) → RangesOf c → K (computed at c)
  keeps_computed at (Is x) a s w h = keeps_put (scalar_value x) (scalar_ranged x a) s w h
  keeps_computed at (Fails code) a s w h = h
  keeps_computed at Unfit a s w h = h

  -- ---- checks

  checked_at : (b : Bool) (f : Piece State H) (s : State) (w : World H) → At s w → (b ≡ true → Held (Starts p) (f s w))
      → Held (Starts p) (checked b f s w)
  checked_at true f s w h k = k refl
  checked_at false f s w h k = h

  pub keeps_checked : (b : Bool) (f : Piece State H) → K f → K (checked b f)
  keeps_checked b f k s w h = checked_at b f s w h (λ e. k s w h)

  pub keeps_type : (t : CoreType) (v : CoreValue) (f : Piece State H) → K f → K (of_type p t v f)
  keeps_type t v f k s w h = keeps_checked (is_of p s.heap.cells t v) f k s w h

  keeps_stop : (b : Bool) (code at : ℕ) (f : Piece State H) → K f → K (stop_unless b code at f)
  keeps_stop true code at f k s w h = k s w h
  keeps_stop false code at f k s w h = h

  keeps_int : (go : ℤ → Piece State H) → ((n : ℤ) → IsRanged (Int n) → K (go n)) → (v : CoreValue) → IsRanged v → K (with_int go v)
  keeps_int go k (Int n) a s w h = k n a s w h
  keeps_int go k _ a s w h = h

  keeps_class : (j : ℕ) (go : ℕ → Piece State H) → ((c : ℕ) → K (go c)) → K (with_class j go)
  keeps_class j go k s w h = keeps_found (class_in (slice_get s.heap.cells j)) go (λ c e. k c) s w h

  keeps_object : (at : ℕ) (go : ℕ → Piece State H) → ((j : ℕ) → K (go j)) → (v : CoreValue) → K (with_object at go v)
  keeps_object at go k (Obj j) s w h = k j s w h
  keeps_object at go k Null s w h = h
  keeps_object at go k _ s w h = h

  keeps_object_of : (at c : ℕ) (go : ℕ → ℕ → Piece State H) → ((j d : ℕ) → K (go j d)) → (v : CoreValue) → K (with_object_of p at c go v)
  keeps_object_of at c go k = keeps_object at _ (λ j. keeps_class j _ (λ d. keeps_checked (is_below p d c) (go j d) (k j d)))

  in_array_at : (t : ℕ) (go : List CoreValue → Piece State H) (s : State) (w : World H) → At s w → (o : Option Cell) (j : ℕ)
      → slice_get s.heap.cells j ≡ o → ((vs : List CoreValue) → length vs < 2 ^ 31 → K (go vs)) → Held (Starts p) (in_array t go o s w)
  in_array_at t go s w h (Some (Array u vs)) j e k =
      checked_at (u == t) (go vs) s w h (λ q. k vs (cell_get p s.heap.cells j (Array u vs) h.0.cells e).1 s w h)
  in_array_at t go s w h (Some (Object c vs)) j e k = h
  in_array_at t go s w h None j e k = h

  keeps_array : (at t : ℕ) (go : ℕ → List CoreValue → Piece State H) → ((j : ℕ) (vs : List CoreValue) → length vs < 2 ^ 31 → K (go j vs))
      → (v : CoreValue) → K (with_array at t go v)
  keeps_array at t go k (Arr j) s w h = in_array_at t (go j) s w h (slice_get s.heap.cells j) j refl (k j)
  keeps_array at t go k Null s w h = h
  keeps_array at t go k _ s w h = h

  keeps_index : (at size : ℕ) (n : ℤ) (go : ℕ → Piece State H) → ((i : ℕ) → K (go i)) → K (with_index at size n go)
  keeps_index at size (pos i) go k s w h = keeps_stop (nat_lt i size) 2 at (go i) (k i) s w h
  keeps_index at size (negsuc i) go k s w h = h

  keeps_item : (at t : ℕ) (go : Place → Piece State H) → ((x : Place) → K (go x)) → (array index : CoreValue) → IsRanged index
      → K (with_item at t go array index)
  keeps_item at t go k array index a =
      keeps_array at t _
      (λ j vs l. keeps_int (λ n. with_index at (length vs) n (λ i. go (OfArray j i)))
      (λ n b. keeps_index at (length vs) n (λ i. go (OfArray j i)) (λ i. k (OfArray j i))) index a) array

  -- ---- operators, casts and class tests

  keeps_operated : (at : ℕ) (op : Operator) (t u : CoreType) (x y : CoreValue) → IsRanged x → IsRanged y → K (operated p at op t u x y)
  keeps_operated at op t u x y rx ry s w h =
      checked_at (is_of p s.heap.cells u y) _ s w h (λ ey. checked_at (is_of p s.heap.cells t x) _ s w h (λ ex.
      found_at (operand_of x) _ s w h (λ a ea. found_at (operand_of y) _ s w h (λ b eb.
      keeps_computed at (binary (operator_of op) a b) (binary_ranges p s.heap.cells op t u x y ex ey rx ry a b ea eb) s w h))))

  keeps_applied : (op : Prefix) (t : CoreType) (x : CoreValue) → IsRanged x → K (applied p op t x)
  keeps_applied op t x rx s w h =
      checked_at (is_of p s.heap.cells t x) _ s w h (λ ex. found_at (scalar_of x) _ s w h (λ a ea.
      keeps_computed 0 (prefixed (prefix_of op) a)
      (standing (firm.has_string (prefix_for op t) (scalar_number a)) (Some (firm.applied (prefix_for op t) (scalar_number a))) (prefixed (prefix_of op) a)
      (prefixes p s.heap.cells op t a (subst (λ z. is_of p s.heap.cells t z ≡ true) (scalar_is x a ea) ex)
      (in_range a (subst IsRanged (scalar_is x a ea) rx)))) s w h))

  -- a cast among numbers of this type
  recasts : (at : ℕ) (f : Format) (t : CoreType) (v : CoreValue) (s : State) (w : World H) → At s w → is_of p s.heap.cells t v ≡ true → IsRanged v
      → ((x : Scalar) → is_of p s.heap.cells t (scalar_value x) ≡ true → IsInRange x → RangesOf (recast f x)) → Held (Starts p) (recasted at f v s w)
  recasts at f t v s w h ev rv k =
      found_at (scalar_of v) _ s w h (λ x ex. keeps_computed at (recast f x)
      (k x (subst (λ z. is_of p s.heap.cells t z ≡ true) (scalar_is v x ex) ev) (in_range x (subst IsRanged (scalar_is v x ex) rv))) s w h)

  keeps_cast_to_class : (at d : ℕ) (v : CoreValue) → K (cast_to_class p at d v)
  keeps_cast_to_class at d Null s w h = keeps_put Null tt s w h
  keeps_cast_to_class at d (Obj j) s w h =
      keeps_class j _ (λ c. keeps_checked (one_hierarchy p c d) _ (keeps_stop (is_below p c d) 4 at _ (keeps_put (Obj j) tt))) s w h
  keeps_cast_to_class at d _ s w h = h

  keeps_put_found : (o : Option CoreValue) → ((v : CoreValue) → o ≡ Some v → IsRanged v) → K (put_found o)
  keeps_put_found o k = keeps_found o put (λ v e. keeps_put v (k v e))

  casts : (at : ℕ) (t u : CoreType) → IsSmall u → (v : CoreValue) (s : State) (w : World H) → At s w → is_of p s.heap.cells t v ≡ true → IsRanged v
      → Held (Starts p) (cast_to p at u v s w)
  casts at t IntType m v s w h ev rv =
      recasts at ToInt t v s w h ev rv
      (λ x ex rx. standing true (Some (cut_by (cut_for t IntType) (scalar_number x))) (recast ToInt x) (to_int p s.heap.cells t x ex rx))
  casts at t CharType m v s w h ev rv =
      recasts at ToChar t v s w h ev rv
      (λ x ex rx. standing true (Some (cut_by (cut_for t CharType) (scalar_number x))) (recast ToChar x) (to_char p s.heap.cells t x ex rx))
  casts at t (RawType j) m v s w h ev rv =
      recasts at (ToBits j) t v s w h ev rv
      (λ x ex rx. standing true (Some (cut_by (cut_for t (RawType j)) (scalar_number x))) (recast (ToBits j) x) (to_bits p s.heap.cells t j x m ex rx))
  casts at t (ClassType d) m v s w h ev rv = keeps_cast_to_class at d v s w h
  casts at t BoolType m v s w h ev rv = keeps_put_found (as_it_is BoolType v) (λ z e. as_it_is_ranged BoolType v z e) s w h
  casts at t NullType m v s w h ev rv = keeps_put_found (as_it_is NullType v) (λ z e. as_it_is_ranged NullType v z e) s w h
  casts at t (ArrayType i) m v s w h ev rv = keeps_put_found (as_it_is (ArrayType i) v) (λ z e. as_it_is_ranged (ArrayType i) v z e) s w h
  casts at t (FunctionType ps r) m v s w h ev rv =
      keeps_put_found (as_it_is (FunctionType ps r) v) (λ z e. as_it_is_ranged (FunctionType ps r) v z e) s w h
  casts at t NoType m v s w h ev rv = keeps_put_found (as_it_is NoType v) (λ z e. as_it_is_ranged NoType v z e) s w h
  casts at t (MoreTypes i j) m v s w h ev rv = keeps_put_found (as_it_is (MoreTypes i j) v) (λ z e. as_it_is_ranged (MoreTypes i j) v z e) s w h

  keeps_cast : (at : ℕ) (t u : CoreType) → IsSmall u → (v : CoreValue) → IsRanged v → K (of_type p t v (cast_to p at u v))
  keeps_cast at t u m v rv s w h = checked_at (is_of p s.heap.cells t v) _ s w h (λ ev. casts at t u m v s w h ev rv)

  keeps_class_test : (d : ℕ) (v : CoreValue) → K (class_test p d v)
  keeps_class_test d Null s w h = keeps_put (Truth false) tt s w h
  keeps_class_test d (Obj j) s w h =
      keeps_class j _ (λ c. keeps_checked (one_hierarchy p c d) _ (keeps_put (Truth (is_below p c d)) tt)) s w h
  keeps_class_test d _ s w h = h

  -- ---- places

  keeps_get : (x : Place) → K (get_place p x)
  keeps_get x s w h = keeps_put_found (value_at p s.heap x) (λ v e. place_ranged p s.heap h.0.cells h.0.globals x v e) s w h

  keeps_set : (t : Option CoreType) (x : Place) (v : CoreValue) → IsRanged v → K (set_place p t x v)
  keeps_set t x v a =
      keeps_found t _ (λ u e. keeps_type u v _ (λ s1 w1 h1. keeps_found (value_at p s1.heap x) _ (λ old e1 s2 w2 h2. stored s2 w2 h2) s1 w1 h1))
    where
      stored : (s : State) (w : World H) → At s w → At (record s { heap = set_at p x v s.heap }) w
      stored s w (g, q) = (
        record {
          values = g.values;
          locals = g.locals;
          self = g.self;
          cells = cells_set p v a s.heap g.cells x;
          globals = globals_set p v a s.heap g.globals x;
        },
        q,
      )

  keeps_local : (n : ℕ) (t : CoreType) (v : CoreValue) → IsRanged v → K (put_local p n t v)
  keeps_local n t v a = keeps_type t v _ (λ s1 w1 h1. keeps_found (slice_get s1.locals n) _ (λ old e s2 w2 h2. stored s2 w2 h2) s1 w1 h1)
    where
      stored : (s : State) (w : World H) → At s w → At (record s { locals = slice_set s.locals n v }) w
      stored s w (g, q) =
          (record { values = g.values; locals = ranged_set s.locals n v g.locals a; self = g.self; cells = g.cells; globals = g.globals }, q)

  keeps_length : (at t : ℕ) (v : CoreValue) → K (get_length at t v)
  keeps_length at t = keeps_array at t _ (λ j vs l. keeps_put (Int (pos (length vs))) (small_int (length vs) l))

  -- ---- devices: a program that is initialised reads and writes none

  keeps_read : (address : ℕ) (f : ℕ → Piece State H) → K (read_device address f)
  keeps_read address f s w h = by w.phase h.1 w.outside.reads
    where
      by : (ph : Phase) → ph ≡ Starting → (values : List ℕ) → Held (Starts p) (read_from ph values address f s w)
      by Starting e values = h
      by Running e values = absurd (let clash : Running ≡ Starting = e in cc)

  keeps_write : (address value : ℕ) → K (write_device address value)
  keeps_write address value s w h = by w.phase
    where
      by : (ph : Phase) → Held (Starts p) (write_in ph address value s w)
      by Starting = h
      by Running = h

  -- ---- calls and making

  abbrev pub KeepsCaller : Caller H → Type 0
  KeepsCaller call = (t : Target) (count : ℕ) (self : CoreValue) → IsRanged self → K (call t count self)

  pub keeps_forgetting : (f : Piece State H) → K f → K (forgetting f)
  keeps_forgetting f k s w h = keeps_then (Starts p) (f s w) (taking (λ v. go_on)) (k s w h) (keeps_taking (λ v. go_on) (λ v a s1 w1 h1. h1))

  keeps_start : (phase : Phase) (at : ℕ) (f : Piece State H) → K f → K (at_start phase at f)
  keeps_start Starting at f k s w h = k s w h
  keeps_start Running at f k s w h = h

  keeps_adding : (size : ℕ) (cell : Cell) (go : ℕ → Piece State H) → RangedCell p cell → ((o : ℕ) → K (go o)) → K (adding size cell go)
  keeps_adding size cell go a k s w h =
      keeps_unless (Starts p) (passes w.largest (stored_values s.heap + 1 + size)) OutOfRoom
      (λ s1. go (length s1.heap.cells) (record s1 { heap = record s1.heap { cells = s1.heap.cells ++ cell ∷ [] } }))
      (λ s1 w1 h1. k (length s1.heap.cells) (record s1 { heap = record s1.heap { cells = s1.heap.cells ++ cell ∷ [] } }) w1 (more s1 w1 h1)) s w h
    where
      more : (s1 : State) (w1 : World H) → At s1 w1 → At (record s1 { heap = record s1.heap { cells = s1.heap.cells ++ cell ∷ [] } }) w1
      more s1 w1 (g, q) =
          (record { values = g.values; locals = g.locals; self = g.self; cells = cell_more p s1.heap.cells cell g.cells a; globals = g.globals }, q)

  keeps_constructing : (call : Caller H) → KeepsCaller call → (c count o : ℕ) → K (constructing call c count o)
  keeps_constructing call k c count o s w h =
      keeps_then (Starts p) (call (Construct c) count (Obj o) s w) (taking (λ v. put (Obj o))) (k (Construct c) count (Obj o) tt s w h)
      (keeps_taking (λ v. put (Obj o)) (λ v a. keeps_put (Obj o) tt))

  keeps_make_array : (at t : ℕ) (e : CoreType) (n : ℤ) → IsRanged (Int n) → IsSmall e → AreItems p t → K (make_array at t e n)
  keeps_make_array at t e (negsuc n) a m i s w h = h
  keeps_make_array at t e (pos n) a m i s w h =
      keeps_adding n (Array t (replicate n (default e))) (λ j. put (Arr j)) (
        ranged_replicate n (default e) (default_ranged e m),
        (let l = length-replicate n (default e) in let b = int_small n a in omega (arith, l, b)),
        i,
      ) (λ j. keeps_put (Arr j) tt) s w h

  keeps_bound : (call : Caller H) → KeepsCaller call → (at count t : ℕ) (v : CoreValue) → K (call_bound p call at count t v)
  keeps_bound call k at count t (Bound receiver m) s w h =
      keeps_found (slice_get p.methods m) _
      (λ x e. keeps_checked (x.function == t) _ (k (Run m) count (receiver_of receiver) (receiver_ranged receiver))) s w h
  keeps_bound call k at count t Null s w h = h
  keeps_bound call k at count t _ s w h = h

  -- ---- steps

  module _ (small_fields : (f : ℕ) (y : Field) → slice_get p.fields f ≡ Some y → IsSmall y.type_) where
    keeps_make_object : (call : Caller H) → KeepsCaller call → (at c count : ℕ) → K (make_object p call at c count)
    keeps_make_object call k at c count s w h =
        keeps_start w.phase at _ (keeps_found (slice_get p.classes c) _ (λ (x : Class) e.
        keeps_adding (length x.fields) (Object c (defaults p x.fields)) (constructing call c count) (defaults_ranged p small_fields x.fields)
        (keeps_constructing call k c count))) s w h

    pub keeps_step : (call : Caller H) → KeepsCaller call → (q : Step) → IsRangedStep p q → K (step p call q)
    keeps_step call k (Put v) a = keeps_put v (constant_ranged v a)
    keeps_step call k (Literal j) a = keeps_found (slice_get p.literals j) _ (λ bytes e. keeps_put (Arr j) tt)
    keeps_step call k This a = λ s w h. keeps_put s.self h.0.self s w h
    keeps_step call k (Local j) a =
        λ s w h. keeps_put_found (slice_get s.locals j) (λ v e. ranged_get s.locals j v h.0.locals e) s w h
    keeps_step call k (ComponentField f) a = keeps_get (OfComponent f)
    keeps_step call k (Register r) a = keeps_read r _
    keeps_step call k (ComponentMethod m) a = keeps_put (Bound None m) tt
    keeps_step call k (Apply op t) a = keeps_taking _ (keeps_applied op t)
    keeps_step call k (Operate at op t u) a = keeps_taking _ (λ y ry. keeps_taking _ (λ x rx. keeps_operated at op t u x y rx ry))
    keeps_step call k (CastTo at t u) a = keeps_taking _ (λ v rv. keeps_cast at t u a v rv)
    keeps_step call k (IsBelow c) a = keeps_taking _ (λ v rv. keeps_class_test c v)
    keeps_step call k (FieldOf at f) a = keeps_taking _ (λ v rv. keeps_object at _ (λ j. keeps_get (OfObject j f)) v)
    keeps_step call k (Item at t) a = keeps_taking _ (λ i ri. keeps_taking _ (λ v rv. keeps_item at t (get_place p) keeps_get v i ri))
    keeps_step call k (Length at t) a = keeps_taking _ (λ v rv. keeps_length at t v)
    keeps_step call k (MethodOf at c sel) a =
        keeps_taking _ (λ v rv. keeps_object_of at c _ (λ j d. keeps_found (dispatch p d sel) _ (λ m e. keeps_put (Bound (Some j) m) tt)) v)
    keeps_step call k (CallMethod at c sel count) a =
        keeps_below count _ (λ v rv. keeps_object_of at c _ (λ j d. keeps_found (dispatch p d sel) _ (λ m e. k (Run m) count (Obj j) tt)) v)
    keeps_step call k (CallValue at count t) a = keeps_below count _ (λ v rv. keeps_bound call k at count t v)
    keeps_step call k (CallComponent m count) a = k (Run m) count Null tt
    keeps_step call k (NewObject at c count) a = keeps_make_object call k at c count
    keeps_step call k (NewArray at t) a =
        λ s w h. keeps_start w.phase at _ (keeps_taking _ (λ v rv. keeps_int _ (λ n rn. keeps_found (slice_get p.types t) _
        (λ e ee. keeps_make_array at t e n rn (a e ee).0 a)) v rv)) s w h
    keeps_step call k (SetLocal j t) a = keeps_taking _ (keeps_local j t)
    keeps_step call k (SetComponentField f) a = keeps_taking _ (keeps_set (field_type p f) (OfComponent f))
    keeps_step call k (SetRegister r) a = keeps_taking _ (λ v rv. keeps_found (byte_of v) _ (λ b e. keeps_write r b))
    keeps_step call k (SetField at f) a =
        keeps_taking _ (λ v rv. keeps_taking _ (λ o ro. keeps_object at _ (λ j. keeps_set (field_type p f) (OfObject j f) v rv) o))
    keeps_step call k (SetItem at t) a =
        keeps_taking _ (λ v rv. keeps_taking _ (λ i ri. keeps_taking _ (λ o ro. keeps_item at t (λ x. set_place p (slice_get p.types t) x v)
        (λ x. keeps_set (slice_get p.types t) x v rv) o i ri)))
    keeps_step call k Forget a = keeps_taking _ (λ v rv s w h. h)
    keeps_step call k (Super c count) a =
        λ s w h. keeps_forgetting (call (Construct c) count s.self) (k (Construct c) count s.self h.0.self) s w h
