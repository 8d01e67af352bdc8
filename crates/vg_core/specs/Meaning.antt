-- What a step does. Where a static type does not hold of a value the run is Wrong: no well typed program does that.
use Rattle.std.specs.Prelude.{ℕ, zero, suc, ◌+◌, ◌==◌, Bool, true, false, List, [], ◌∷◌, ◌++◌, length, take, drop, replicate, Option, Some, None, slice_get}
use Rattle.std.specs.Prelude.{slice_set}
use Rattle.std.specs.Prelude.{ℤ, pos, negsuc, nat_lt}
use Rattle.vg_meaning.specs.History.{Active, Calling, Making, Recorder}
use Rattle.vg_meaning.specs.World.{Phase, Starting, Running}
use Rattle.vg_meaning.specs.Answer.{OutOfClock, OutOfRoom, Wrong, Gives, Piece, go_on, over, and_then, passes, unless, stops}
use Rattle.vg_meaning.specs.Calls.{opened, returned}
use Rattle.vg_meaning.specs.Devices.{read_device, write_device}
use Rattle.vg_meaning.specs.Loops.{Test, Tested, Untested}
use Rattle.vg_meaning.specs.Code.{performed}
use Rattle.vg_source.specs.Operators.{Computed, Is, Fails, Unfit, binary, prefixed, Format, ToInt, ToChar, ToBits, recast}
use Rattle.vg_core.specs.declared.types.CoreType.{CoreType}
use Rattle.vg_core.specs.declared.types.CoreType.TheVariants.{IntType, BoolType, CharType, RawType, ClassType, ArrayType, FunctionType}
use Rattle.vg_core.specs.declared.value.CoreValue.{CoreValue}
use Rattle.vg_core.specs.declared.value.CoreValue.TheVariants.{Int, Bool as Truth, Raw, Null, Obj, Arr, Bound}
use Rattle.vg_core.specs.declared.operator.Operator.{Operator}
use Rattle.vg_core.specs.declared.operator.Prefix.{Prefix}
use Rattle.vg_core.specs.declared.heap.Cell.{Cell}
use Rattle.vg_core.specs.declared.heap.Cell.TheVariants.{Object, Array}
use Rattle.vg_core.specs.declared.step.Step.{Step}
use Rattle.vg_core.specs.declared.step.Step.TheVariants.{Put, Literal, This, Local, ComponentField, Register, ComponentMethod, Apply, Operate, CastTo}
use Rattle.vg_core.specs.declared.step.Step.TheVariants.{IsBelow, Field, Item, Length, MethodOf, CallMethod, CallValue, CallComponent, NewObject, NewArray}
use Rattle.vg_core.specs.declared.step.Step.TheVariants.{SetLocal, SetComponentField, SetRegister, SetField, SetItem, Forget, Super}
use Rattle.vg_core.specs.declared.program.Tables.{Tables}
use Rattle.vg_core.specs.Tables.{is_below, one_hierarchy, dispatch, field_type}
use Rattle.vg_core.specs.declared.program.Target.{Target}
use Rattle.vg_core.specs.declared.program.Target.TheVariants.{Run, Construct}
use Rattle.vg_core.specs.Program.{Body, Program, Signature, signature_of, body_of}
use Rattle.vg_core.specs.Operators.{scalar_value, operand_of, scalar_of, byte_of, operator_of, prefix_of}
use Rattle.vg_core.specs.Heap.{default, stored_values, Place, OfComponent, OfObject, OfArray, class_in, value_at, set_at}
use Rattle.vg_core.specs.State.{State, is_of, are_of, onto, entered, left}

-- ---- values that wait

-- A value is put in front.
abbrev pub put : {H : Type 0} → CoreValue → Piece State H
put v s w = Gives (record s { values = v ∷ s.values }) w

-- The newest of these values is taken.
abbrev pub take_from : {H : Type 0} → List CoreValue → (CoreValue → Piece State H) → Piece State H
take_from [] go s w = over Wrong s w
take_from (v ∷ vs) go s w = go v (record s { values = vs }) w

-- The newest value is taken.
abbrev pub taking : {H : Type 0} → (CoreValue → Piece State H) → Piece State H
taking go s w = take_from s.values go s w

-- What was found, where it was.
abbrev pub with_found : {H : Type 0} {A : Type 0} → Option A → (A → Piece State H) → Piece State H
with_found (Some a) go s w = go a s w
with_found None go s w = over Wrong s w

-- The value that waits below so many arguments is taken away from there.
abbrev pub from_below : {H : Type 0} → ℕ → (CoreValue → Piece State H) → Piece State H
from_below count go s w = with_found (slice_get s.values count) go (record s { values = take count s.values ++ drop (count + 1) s.values }) w

-- What an operator made is put in front, or is an exception at the node.
abbrev pub computed : {H : Type 0} → (at : ℕ) → Computed → Piece State H
computed at (Is x) s w = put (scalar_value x) s w
computed at (Fails code) s w = stops code at s w
computed at Unfit s w = over Wrong s w

-- ---- checks

-- What holds in each well typed program.
abbrev pub checked : {H : Type 0} → Bool → Piece State H → Piece State H
checked true go s w = go s w
checked false go s w = over Wrong s w

-- The value is of this type.
abbrev pub of_type : {H : Type 0} → Tables → CoreType → CoreValue → Piece State H → Piece State H
of_type p t v go s w = checked (is_of p s.heap.cells t v) go s w

-- The piece is reached where this holds, else an exception comes.
abbrev pub stop_unless : {H : Type 0} → Bool → (code at : ℕ) → Piece State H → Piece State H
stop_unless true code at go s w = go s w
stop_unless false code at go s w = stops code at s w

-- An int.
abbrev pub with_int : {H : Type 0} → (ℤ → Piece State H) → CoreValue → Piece State H
with_int go (Int n) s w = go n s w
with_int go _ s w = over Wrong s w

-- The class of the object in a cell.
abbrev pub with_class : {H : Type 0} → (k : ℕ) → (ℕ → Piece State H) → Piece State H
with_class k go s w = with_found (class_in (slice_get s.heap.cells k)) go s w

-- An object behind its null check: null is the exception 1.
abbrev pub with_object : {H : Type 0} → (at : ℕ) → (ℕ → Piece State H) → CoreValue → Piece State H
with_object at go (Obj k) s w = go k s w
with_object at go Null s w = stops 1 at s w
with_object at go _ s w = over Wrong s w

-- An object of class c or below it, and its class, behind its null check.
abbrev pub with_object_of : {H : Type 0} → Tables → (at c : ℕ) → (ℕ → ℕ → Piece State H) → CoreValue → Piece State H
with_object_of p at c go = with_object at (λ k. with_class k (λ d. checked (is_below p d c) (go k d)))

-- The elements of an array of this element type.
abbrev pub in_array : {H : Type 0} → (t : ℕ) → (List CoreValue → Piece State H) → Option Cell → Piece State H
in_array t go (Some (Array u vs)) s w = checked (u == t) (go vs) s w
in_array t go _ s w = over Wrong s w

-- An array of this element type behind its null check.
abbrev pub with_array : {H : Type 0} → (at t : ℕ) → (ℕ → List CoreValue → Piece State H) → CoreValue → Piece State H
with_array at t go (Arr k) s w = in_array t (go k) (slice_get s.heap.cells k) s w
with_array at t go Null s w = stops 1 at s w
with_array at t go _ s w = over Wrong s w

-- An index behind its bounds check: one outside the bounds is the exception 2.
abbrev pub with_index : {H : Type 0} → (at size : ℕ) → ℤ → (ℕ → Piece State H) → Piece State H
with_index at size (pos i) go s w = stop_unless (nat_lt i size) 2 at (go i) s w
with_index at size (negsuc i) go s w = stops 2 at s w

-- The place of an element, behind the null check and the bounds check.
abbrev pub with_item : {H : Type 0} → (at t : ℕ) → (Place → Piece State H) → (array index : CoreValue) → Piece State H
with_item at t go array index = with_array at t (λ k vs. with_int (λ n. with_index at (length vs) n (λ i. go (OfArray k i))) index) array

-- ---- operators, casts and class tests

-- An operator on two values of these types.
abbrev pub operated : {H : Type 0} → Tables → (at : ℕ) → Operator → (t u : CoreType) → (x y : CoreValue) → Piece State H
operated p at op t u x y =
    of_type p u y (of_type p t x (with_found (operand_of x) (λ a. with_found (operand_of y) (λ b. computed at (binary (operator_of op) a b)))))

-- An operator on one value of this type.
abbrev pub applied : {H : Type 0} → Tables → Prefix → CoreType → CoreValue → Piece State H
applied p op t x = of_type p t x (with_found (scalar_of x) (λ a. computed 0 (prefixed (prefix_of op) a)))

-- A cast among numbers.
abbrev pub recasted : {H : Type 0} → (at : ℕ) → Format → CoreValue → Piece State H
recasted at f v = with_found (scalar_of v) (λ x. computed at (recast f x))

-- Null passes every class cast; an object that is not of the class or below it is the exception 4. It is of the same hierarchy.
abbrev pub cast_to_class : {H : Type 0} → Tables → (at d : ℕ) → CoreValue → Piece State H
cast_to_class p at d Null s w = put Null s w
cast_to_class p at d (Obj k) s w = with_class k (λ c. checked (one_hierarchy p c d) (stop_unless (is_below p c d) 4 at (put (Obj k)))) s w
cast_to_class p at d _ s w = over Wrong s w

-- The value of a type that is cast to this very type: a truth value, an array or a delegate.
abbrev pub as_it_is : CoreType → CoreValue → Option CoreValue
as_it_is BoolType (Truth b) = Some (Truth b)
as_it_is (ArrayType t) (Arr k) = Some (Arr k)
as_it_is (ArrayType t) Null = Some Null
as_it_is (FunctionType ps r) (Bound receiver m) = Some (Bound receiver m)
as_it_is (FunctionType ps r) Null = Some Null
as_it_is _ _ = None

-- A value that was looked up is put in front.
abbrev pub put_found : {H : Type 0} → Option CoreValue → Piece State H
put_found found = with_found found put

-- A cast to this type.
abbrev pub cast_to : {H : Type 0} → Tables → (at : ℕ) → CoreType → CoreValue → Piece State H
cast_to p at IntType v = recasted at ToInt v
cast_to p at CharType v = recasted at ToChar v
cast_to p at (RawType width) v = recasted at (ToBits width) v
cast_to p at (ClassType d) v = cast_to_class p at d v
cast_to p at t v = put_found (as_it_is t v)

-- A class test of an object of the same hierarchy: false for null.
abbrev pub class_test : {H : Type 0} → Tables → (d : ℕ) → CoreValue → Piece State H
class_test p d Null s w = put (Truth false) s w
class_test p d (Obj k) s w = with_class k (λ c. checked (one_hierarchy p c d) (put (Truth (is_below p c d)))) s w
class_test p d _ s w = over Wrong s w

-- ---- places

-- The value at a place.
abbrev pub get_place : {H : Type 0} → Tables → Place → Piece State H
get_place p x s w = put_found (value_at p s.heap x) s w

-- A store of a value of this type, to a place that is there; what it held is lost.
abbrev pub set_place : {H : Type 0} → Tables → Option CoreType → Place → CoreValue → Piece State H
set_place p t x v s w =
    with_found t (λ u. of_type p u v (λ s1. with_found (value_at p s1.heap x) (λ old s2 w2. Gives (record s2 { heap = set_at p x v s2.heap }) w2) s1)) s w

-- A local or parameter of this type is set.
abbrev pub put_local : {H : Type 0} → Tables → (k : ℕ) → CoreType → CoreValue → Piece State H
put_local p k t v =
    of_type p t v (λ s. with_found (slice_get s.locals k) (λ old s1 w1. Gives (record s1 { locals = slice_set s1.locals k v }) w1) s)

-- The length of an array.
abbrev pub get_length : {H : Type 0} → (at t : ℕ) → CoreValue → Piece State H
get_length at t = with_array at t (λ k vs. put (Int (pos (length vs))))

-- ---- methods

-- A caller calls a target with so many of the newest values, as this receiver; the call's value comes in their place.
abbrev pub Caller : Type 0 → Type 0
Caller H = Target → (count : ℕ) → (self : CoreValue) → Piece State H

-- A method of an object as a value: the null check, then the method that the object has, with the object.
abbrev pub bind_method : {H : Type 0} → Tables → (at c s : ℕ) → CoreValue → Piece State H
bind_method p at c sel = with_object_of p at c (λ k d. with_found (dispatch p d sel) (λ m. put (Bound (Some k) m)))

-- A call of a method of the object below the arguments: the null check, then the method that the object has.
abbrev pub call_method : {H : Type 0} → Tables → Caller H → (at c s count : ℕ) → Piece State H
call_method p call at c sel count =
    from_below count (with_object_of p at c (λ k d. with_found (dispatch p d sel) (λ m. call (Run m) count (Obj k))))

-- The receiver of a delegate: a component's method has none.
abbrev pub receiver_of : Option ℕ → CoreValue
receiver_of (Some k) = Obj k
receiver_of None = Null

-- A delegate of this function type is called behind its null check.
abbrev pub call_bound : {H : Type 0} → Tables → Caller H → (at count t : ℕ) → CoreValue → Piece State H
call_bound p call at count t (Bound receiver m) s w =
    with_found (slice_get p.methods m) (λ x. checked (x.function == t) (call (Run m) count (receiver_of receiver))) s w
call_bound p call at count t Null s w = stops 1 at s w
call_bound p call at count t _ s w = over Wrong s w

-- A call whose value is forgotten.
abbrev pub forgetting : {H : Type 0} → Piece State H → Piece State H
forgetting go s w = and_then (go s w) (taking (λ v. go_on))

-- ---- making

-- Nothing is made after initialisation: that is the exception 5.
abbrev pub at_start : {H : Type 0} → Phase → (at : ℕ) → Piece State H → Piece State H
at_start Starting at go s w = go s w
at_start Running at go s w = stops 5 at s w

-- A cell of so many values is added, if there is room.
abbrev pub adding : {H : Type 0} → (size : ℕ) → Cell → (ℕ → Piece State H) → Piece State H
adding size cell go s w =
    unless (passes w.largest (stored_values s.heap + 1 + size)) OutOfRoom
    (λ s1. go (length s1.heap.cells) (record s1 { heap = record s1.heap { cells = s1.heap.cells ++ cell ∷ [] } })) s w

-- An object is constructed, and is then the value.
abbrev pub constructing : {H : Type 0} → Caller H → (c count o : ℕ) → Piece State H
constructing call c count o s w = and_then (call (Construct c) count (Obj o) s w) (taking (λ v. put (Obj o)))

-- The default of a field.
abbrev pub default_in : Option CoreType → CoreValue
default_in (Some t) = default t
default_in None = Null

-- The defaults of these fields.
abbrev pub defaults : Tables → List ℕ → List CoreValue
defaults p [] = []
defaults p (f ∷ fs) = default_in (field_type p f) ∷ defaults p fs

-- A new object: the room, the object of default values, then its construction.
abbrev pub make_object : {H : Type 0} → Tables → Caller H → (at c count : ℕ) → Piece State H
make_object p call at c count s w =
    at_start w.phase at
    (with_found (slice_get p.classes c) (λ k. adding (length k.fields) (Object c (defaults p k.fields)) (constructing call c count))) s w

-- A new array of elements of this type: a negative length is the exception 5; then the room, then the array of default values.
abbrev pub make_array : {H : Type 0} → (at t : ℕ) → CoreType → ℤ → Piece State H
make_array at t e (negsuc n) s w = stops 5 at s w
make_array at t e (pos n) s w = adding n (Array t (replicate n (default e))) (λ a. put (Arr a)) s w

-- ---- steps

-- What a step does.
abbrev pub step : {H : Type 0} → Tables → Caller H → Step → Piece State H
step p call (Put v) = put v
step p call (Literal k) = with_found (slice_get p.literals k) (λ bytes. put (Arr k))
step p call This = λ s. put s.self s
step p call (Local k) = λ s. put_found (slice_get s.locals k) s
step p call (ComponentField f) = get_place p (OfComponent f)
step p call (Register a) = read_device a (λ v. put (Raw 8 v))
step p call (ComponentMethod m) = put (Bound None m)
step p call (Apply op t) = taking (applied p op t)
step p call (Operate at op t u) = taking (λ y. taking (λ x. operated p at op t u x y))
step p call (CastTo at t u) = taking (λ v. of_type p t v (cast_to p at u v))
step p call (IsBelow c) = taking (class_test p c)
step p call (Field at f) = taking (with_object at (λ k. get_place p (OfObject k f)))
step p call (Item at t) = taking (λ i. taking (λ a. with_item at t (get_place p) a i))
step p call (Length at t) = taking (get_length at t)
step p call (MethodOf at c s) = taking (bind_method p at c s)
step p call (CallMethod at c s count) = call_method p call at c s count
step p call (CallValue at count t) = from_below count (call_bound p call at count t)
step p call (CallComponent m count) = call (Run m) count Null
step p call (NewObject at c count) = make_object p call at c count
step p call (NewArray at t) = λ s w. at_start w.phase at (taking (with_int (λ n. with_found (slice_get p.types t) (λ e. make_array at t e n)))) s w
step p call (SetLocal k t) = taking (put_local p k t)
step p call (SetComponentField f) = taking (set_place p (field_type p f) (OfComponent f))
step p call (SetRegister a) = taking (λ v. with_found (byte_of v) (write_device a))
step p call (SetField at f) = taking (λ v. taking (with_object at (λ k. set_place p (field_type p f) (OfObject k f) v)))
step p call (SetItem at t) = taking (λ v. taking (λ i. taking (λ a. with_item at t (λ x. set_place p (slice_get p.types t) x v) a i)))
step p call Forget = taking (λ v. go_on)
step p call (Super c count) = λ s. forgetting (call (Construct c) count s.self) s

-- The truth value that waits in front.
abbrev pub truth_in : List CoreValue → State → Test State
truth_in (Truth b ∷ vs) s = Tested b (record s { values = vs })
truth_in _ s = Untested

-- The test that a choice or a loop makes.
abbrev pub truth : State → Test State
truth s = truth_in s.values s

-- ---- calls

-- An active call of a target: a method by its number, or the making of an object or a component.
abbrev pub activity : Target → Active
activity (Run m) = Calling m
activity _ = Making

-- Back in the caller's state, with the value of this type that the body leaves.
abbrev pub back_in : {H : Type 0} → Tables → CoreType → ℕ → State → Piece State H
back_in p t count s = taking (λ v. of_type p t v (λ body. Gives (left count s v body)))

-- The body of a call: an end without return gives the default of the result.
abbrev pub run_body : {H : Type 0} → Recorder H → Tables → Caller H → Signature → Body → ℕ → CoreValue → Piece State H
run_body r p call g b count self s w =
    and_then (returned (performed r (step p call) truth b.code (entered b count self s) w) (put (default g.result))) (back_in p g.result count s)

-- The arguments are of the types of the parameters, and there are as many.
abbrev pub with_arguments : {H : Type 0} → Tables → Signature → ℕ → Piece State H → Piece State H
with_arguments p g count go s w =
    checked (length g.params == count) (λ s1. checked (are_of p s1.heap.cells (onto g.params []) (take count s1.values)) go s1) s w

-- Calls at most n deep, where n is at least the ticks that are left.
abbrev pub called : {H : Type 0} → Recorder H → Program → ℕ → Caller H
called r p zero t count self s w = over OutOfClock s w
called r p (suc n) t count self s w =
    with_found (signature_of p.tables t) (λ g. with_found (body_of p t) (λ b.
    with_arguments p.tables g count (opened r (activity t) (run_body r p.tables (called r p n) g b count self)))) s w
