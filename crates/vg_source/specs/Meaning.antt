-- What a step does. An expression puts its value in front of the values that wait.
use Rattle.std.specs.Prelude.{ℕ, ◌+◌, Bool, true, false, List, [], ◌∷◌, ◌++◌, length, take, drop, replicate, Option, Some, None, slice_get, slice_set}
use Rattle.std.specs.Prelude.{ℤ, pos, negsuc, nat_lt}
use Rattle.vg_meaning.specs.History.{Recorder}
use Rattle.vg_meaning.specs.World.{Phase, Starting, Running}
use Rattle.vg_meaning.specs.Answer.{OutOfRoom, Wrong, Gives, Piece, go_on, over, and_then, passes, unless, stops}
use Rattle.vg_meaning.specs.Devices.{read_device, write_device}
use Rattle.vg_meaning.specs.Loops.{Test, Tested, Untested}
use Rattle.vg_meaning.specs.Code.{Code, performed}
use Rattle.vg_source.specs.Names.{Name}
use Rattle.vg_source.specs.Types.{StaticType, IntType, BoolType, CharType, RawType, ClassType, ArrayType, FunctionType}
use Rattle.vg_source.specs.Operators.{Operator, Prefix, Computed, Is, Fails, Unfit, binary, prefixed, Format, ToInt, ToChar, ToBits, recast}
use Rattle.vg_source.specs.Values.{Value, Int, Truth, Raw, Null, Obj, Arr, Bound, default, scalar_value, operand_of, scalar_of, byte_of}
use Rattle.vg_source.specs.Values.{Cell, Object, Array, stored_values}
use Rattle.vg_source.specs.Steps.{Step, Put, Literal, This, Local, ComponentField, Register, ComponentMethod, Apply, Operate, CastTo, IsBelow, Field, Item}
use Rattle.vg_source.specs.Steps.{Length, MethodOf, CallMethod, CallValue, CallComponent, NewObject, NewArray, SetLocal, SetComponentField, SetRegister}
use Rattle.vg_source.specs.Steps.{SetField, SetItem, Forget, Super, Target, Method, Construct, Source}
use Rattle.vg_source.specs.State.{State, find_value, set_value, find_class, is_below, owner_of, class_at, field_at, items_at, set_field, set_item}

-- ---- values that wait

-- A value is put in front.
abbrev pub put : {H : Type 0} → Value → Piece State H
put v s w = Gives (record s { values = v ∷ s.values }) w

-- A value that was looked up is put in front.
abbrev pub put_found : {H : Type 0} → Option Value → Piece State H
put_found (Some v) s w = put v s w
put_found None s w = over Wrong s w

-- The newest of these values is taken.
abbrev pub take_from : {H : Type 0} → List Value → (Value → Piece State H) → Piece State H
take_from [] go s w = over Wrong s w
take_from (v ∷ vs) go s w = go v (record s { values = vs }) w

-- The newest value is taken.
abbrev pub taking : {H : Type 0} → (Value → Piece State H) → Piece State H
taking go s w = take_from s.values go s w

-- What was found, where it was.
abbrev pub with_found : {H : Type 0} {A : Type 0} → Option A → (A → Piece State H) → Piece State H
with_found (Some a) go s w = go a s w
with_found None go s w = over Wrong s w

-- The value that waits below so many arguments is taken away from there.
abbrev pub from_below : {H : Type 0} → ℕ → (Value → Piece State H) → Piece State H
from_below count go s w = with_found (slice_get s.values count) go (record s { values = take count s.values ++ drop (count + 1) s.values }) w

-- What an operator made is put in front, or is an exception at the node.
abbrev pub computed : {H : Type 0} → (at : ℕ) → Computed → Piece State H
computed at (Is x) s w = put (scalar_value x) s w
computed at (Fails code) s w = stops code at s w
computed at Unfit s w = over Wrong s w

-- ---- checks

-- An int.
abbrev pub with_int : {H : Type 0} → (ℤ → Piece State H) → Value → Piece State H
with_int go (Int n) s w = go n s w
with_int go _ s w = over Wrong s w

-- An object or array behind its null check: null is the exception 1.
abbrev pub with_cell : {H : Type 0} → ℕ → (ℕ → Piece State H) → Value → Piece State H
with_cell at go (Obj k) s w = go k s w
with_cell at go (Arr k) s w = go k s w
with_cell at go Null s w = stops 1 at s w
with_cell at go _ s w = over Wrong s w

-- The piece is reached where this holds, else an exception comes.
abbrev pub stop_unless : {H : Type 0} → Bool → ℕ → ℕ → Piece State H → Piece State H
stop_unless true code at go s w = go s w
stop_unless false code at go s w = stops code at s w

-- An index behind its bounds check: one outside the bounds is the exception 2.
abbrev pub with_index : {H : Type 0} → ℕ → ℕ → ℤ → (ℕ → Piece State H) → Piece State H
with_index at size (pos i) go s w = stop_unless (nat_lt i size) 2 at (go i) s w
with_index at size (negsuc i) go s w = stops 2 at s w

-- What is done with the element at an index, behind the null check and the bounds check.
abbrev pub with_item_of : {H : Type 0} → ℕ → (ℕ → ℕ → List Value → Piece State H) → Value → Value → Piece State H
with_item_of at go array index =
    with_cell at (λ k s w. with_found (items_at s.heap k) (λ vs. with_int (λ n. with_index at (length vs) n (λ i. go k i vs)) index) s w) array

-- ---- operators

-- An operator on two values.
abbrev pub operated : {H : Type 0} → (at : ℕ) → Operator → Value → Value → Piece State H
operated at op x y = with_found (operand_of x) (λ a. with_found (operand_of y) (λ b. computed at (binary op a b)))

-- An operator on one value.
abbrev pub applied : {H : Type 0} → Prefix → Value → Piece State H
applied op x = with_found (scalar_of x) (λ a. computed 0 (prefixed op a))

-- ---- casts and class tests

-- A cast among numbers.
abbrev pub recasted : {H : Type 0} → (at : ℕ) → Format → Value → Piece State H
recasted at f v = with_found (scalar_of v) (λ x. computed at (recast f x))

-- Null passes every class cast; an object that is not of the class or below it is the exception 4.
abbrev pub cast_to_class : {H : Type 0} → Source → (at : ℕ) → Name → Value → Piece State H
cast_to_class p at d Null s w = put Null s w
cast_to_class p at d (Obj k) s w = with_found (class_at s.heap k) (λ c. stop_unless (is_below p c d) 4 at (put (Obj k))) s w
cast_to_class p at d _ s w = over Wrong s w

-- The value of a type that is cast to this very type: a truth value, an array or a delegate.
abbrev pub as_it_is : StaticType → Value → Option Value
as_it_is BoolType (Truth b) = Some (Truth b)
as_it_is (ArrayType t) (Arr k) = Some (Arr k)
as_it_is (ArrayType t) Null = Some Null
as_it_is (FunctionType ps r) (Bound receiver d m) = Some (Bound receiver d m)
as_it_is (FunctionType ps r) Null = Some Null
as_it_is _ _ = None

-- A cast.
abbrev pub do_cast : {H : Type 0} → Source → (at : ℕ) → StaticType → Value → Piece State H
do_cast p at IntType v = recasted at ToInt v
do_cast p at CharType v = recasted at ToChar v
do_cast p at (RawType width) v = recasted at (ToBits width) v
do_cast p at (ClassType d) v = cast_to_class p at d v
do_cast p at t v = put_found (as_it_is t v)

-- A class test: false for null.
abbrev pub do_test : {H : Type 0} → Source → Name → Value → Piece State H
do_test p d Null s w = put (Truth false) s w
do_test p d (Obj k) s w = with_found (class_at s.heap k) (λ c. put (Truth (is_below p c d))) s w
do_test p d _ s w = over Wrong s w

-- ---- fields, elements, lengths, methods as values

-- e.f: the null check, then the field.
abbrev pub get_field : {H : Type 0} → (at : ℕ) → (c f : Name) → Value → Piece State H
get_field at c f = with_cell at (λ k s. put_found (field_at s.heap k c f) s)

-- e.length: the null check, then the length.
abbrev pub get_length : {H : Type 0} → ℕ → Value → Piece State H
get_length at = with_cell at (λ k s w. with_found (items_at s.heap k) (λ vs. put (Int (pos (length vs)))) s w)

-- e[i]: the null check, the bounds check, then the element.
abbrev pub get_item : {H : Type 0} → ℕ → Value → Value → Piece State H
get_item at = with_item_of at (λ k i vs. put_found (slice_get vs i))

-- e.m as a value: the null check, then the method that the object has, with the object.
abbrev pub bind_method : {H : Type 0} → Source → ℕ → Name → Value → Piece State H
bind_method p at m =
    with_cell at (λ k s w. with_found (class_at s.heap k) (λ c. with_found (owner_of p c m) (λ d. put (Bound (Some k) d m))) s w)

-- ---- stores

-- A store is made only to a place that is there; what it held is lost.
abbrev pub storing_to : {H : Type 0} → Option Value → (State → State) → Piece State H
storing_to place store s w = with_found place (λ old s1 w1. Gives (store s1) w1) s w

-- A local or parameter is set.
abbrev pub put_local : {H : Type 0} → ℕ → Value → Piece State H
put_local k v s = storing_to (slice_get s.locals k) (λ s1. record s1 { locals = slice_set s1.locals k v }) s

-- A component field is set.
abbrev pub put_global : {H : Type 0} → (c f : Name) → Value → Piece State H
put_global c f v s =
    storing_to (find_value s.heap.globals c f) (λ s1. record s1 { heap = record s1.heap { globals = set_value s1.heap.globals c f v } }) s

-- An object's field is set behind the null check.
abbrev pub put_field : {H : Type 0} → (at : ℕ) → (c f : Name) → Value → Value → Piece State H
put_field at c f v =
    with_cell at (λ k s. storing_to (field_at s.heap k c f) (λ s1. record s1 { heap = set_field s1.heap k c f v }) s)

-- An array's element is set behind the null check and the bounds check.
abbrev pub put_item : {H : Type 0} → ℕ → Value → Value → Value → Piece State H
put_item at v = with_item_of at (λ k i vs s w. Gives (record s { heap = set_item s.heap k i v }) w)

-- ---- calls

-- A caller calls a target with so many of the newest values, as this receiver; the call's value comes in their place.
abbrev pub Caller : Type 0 → Type 0
Caller H = Target → ℕ → Value → Piece State H

-- e.m(args): the null check, then the method that the object has.
abbrev pub call_method : {H : Type 0} → Source → Caller H → ℕ → Name → ℕ → Piece State H
call_method p call at m count =
    from_below count (with_cell at (λ k s w. with_found (class_at s.heap k) (λ c. with_found (owner_of p c m) (λ d. call (Method d m) count (Obj k))) s w))

-- The receiver of a delegate: a component's method has none.
abbrev pub receiver_of : Option ℕ → Value
receiver_of (Some k) = Obj k
receiver_of None = Null

-- A delegate is called behind its null check.
abbrev pub call_bound : {H : Type 0} → Caller H → ℕ → ℕ → Value → Piece State H
call_bound call at count (Bound receiver d m) s w = call (Method d m) count (receiver_of receiver) s w
call_bound call at count Null s w = stops 1 at s w
call_bound call at count _ s w = over Wrong s w

-- A call whose value is forgotten.
abbrev pub forgetting : {H : Type 0} → Piece State H → Piece State H
forgetting go s w = and_then (go s w) (taking (λ v. go_on))

-- ---- making

-- Nothing is made after initialisation: that is the exception 5.
abbrev pub at_start : {H : Type 0} → Phase → ℕ → Piece State H → Piece State H
at_start Starting at go s w = go s w
at_start Running at go s w = stops 5 at s w

-- A cell of so many values is added, if there is room.
abbrev pub adding : {H : Type 0} → ℕ → Cell → (ℕ → Piece State H) → Piece State H
adding size cell go s w =
    unless (passes w.largest (stored_values s.heap + 1 + size)) OutOfRoom
    (λ s1. go (length s1.heap.cells) (record s1 { heap = record s1.heap { cells = s1.heap.cells ++ cell ∷ [] } })) s w

-- An object is constructed, and is then the value.
abbrev pub constructing : {H : Type 0} → Caller H → Name → ℕ → ℕ → Piece State H
constructing call c count o s w = and_then (call (Construct c) count (Obj o) s w) (taking (λ v. put (Obj o)))

-- new C(args): the room, the object of default values, then its construction.
abbrev pub make_object : {H : Type 0} → Source → Caller H → ℕ → Name → ℕ → Piece State H
make_object p call at c count s w =
    at_start w.phase at
    (with_found (find_class p.classes c) (λ k. adding (length k.fields) (Object c k.fields) (constructing call c count))) s w

-- new T[e]: a negative length is the exception 5; then the room, then the array of default values.
abbrev pub make_array : {H : Type 0} → ℕ → StaticType → ℤ → Piece State H
make_array at t (negsuc n) s w = stops 5 at s w
make_array at t (pos n) s w = adding n (Array t (replicate n (default t))) (λ a. put (Arr a)) s w

-- ---- steps and code

-- What a step does.
abbrev pub step : {H : Type 0} → Source → Caller H → Step → Piece State H
step p call (Put v) = put v
step p call (Literal k) = with_found (slice_get p.literals k) (λ bytes. put (Arr k))
step p call This = λ s. put s.self s
step p call (Local k) = λ s. put_found (slice_get s.locals k) s
step p call (ComponentField c f) = λ s. put_found (find_value s.heap.globals c f) s
step p call (Register a) = read_device a (λ v. put (Raw 8 v))
step p call (ComponentMethod c m) = put (Bound None c m)
step p call (Apply op) = taking (applied op)
step p call (Operate at op) = taking (λ y. taking (λ x. operated at op x y))
step p call (CastTo at t) = taking (do_cast p at t)
step p call (IsBelow c) = taking (do_test p c)
step p call (Field at c f) = taking (get_field at c f)
step p call (Item at t) = taking (λ i. taking (λ a. get_item at a i))
step p call (Length at t) = taking (get_length at)
step p call (MethodOf at c m) = taking (bind_method p at m)
step p call (CallMethod at c m count) = call_method p call at m count
step p call (CallValue at count ps r) = from_below count (call_bound call at count)
step p call (CallComponent c m count) = call (Method c m) count Null
step p call (NewObject at c count) = make_object p call at c count
step p call (NewArray at t) = λ s w. at_start w.phase at (taking (with_int (make_array at t))) s w
step p call (SetLocal k) = taking (put_local k)
step p call (SetComponentField c f) = taking (put_global c f)
step p call (SetRegister a) = taking (λ v. with_found (byte_of v) (write_device a))
step p call (SetField at c f) = taking (λ v. taking (put_field at c f v))
step p call (SetItem at t) = taking (λ v. taking (λ i. taking (λ a. put_item at v a i)))
step p call Forget = taking (λ v. go_on)
step p call (Super c count) = λ s. forgetting (call (Construct c) count s.self) s

-- The truth value that waits in front.
abbrev pub truth_in : List Value → State → Test State
truth_in (Truth b ∷ vs) s = Tested b (record s { values = vs })
truth_in _ s = Untested

-- The test that a choice or a loop makes.
abbrev pub truth : State → Test State
truth s = truth_in s.values s

-- What code does.
abbrev pub meaning : {H : Type 0} → Recorder H → Source → Caller H → Code Step → Piece State H
meaning r p call code = performed r (step p call) truth code
