-- A law that holds of the plain pieces of a run, and of those built of them, holds of every step. The law is A of the world before and of
-- two answers; each piece of a step is by cases on what it looks at, and each step is built of such pieces as its definition is.
use Rattle.std.specs.Prelude.{ℕ, ◌+◌, Bool, true, false, List, [], ◌∷◌, length, replicate, Option, Some, None, slice_get, ℤ, pos, negsuc, nat_lt}
use Rattle.std.proofs.Common.{◌≡◌, refl}
use Rattle.vg_meaning.specs.World.{World, Phase, Starting, Running}
use Rattle.vg_meaning.specs.Answer.{End, Stops, OutOfRoom, Wrong, Over, Answer, Gives, Piece, go_on, over, and_then, passes, kept, unless, stops}
use Rattle.vg_meaning.specs.Devices.{read_device, write_device}
use Rattle.vg_meaning_laws.specs.Grows.{Grows}
use Rattle.vg_meaning_laws.proofs.Grows.{extends_itself}
use Rattle.vg_meaning_laws.proofs.Spent.{is_clock}
use Rattle.vg_source.specs.Names.{Name}
use Rattle.vg_source.specs.Types.{StaticType, IntType, CharType, RawType, ClassType}
use Rattle.vg_source.specs.Operators.{Operator, Prefix, Computed, Is, Fails, Unfit, binary, prefixed, Format, ToInt, ToChar, ToBits, recast}
use Rattle.vg_source.specs.Values.{Value, Int, Truth, Raw, Null, Obj, Arr, Bound, default, scalar_value, operand_of, scalar_of, byte_of}
use Rattle.vg_source.specs.Values.{Cell, Object, Array, stored_values}
use Rattle.vg_source.specs.Steps.{Step, Put, Literal, This, Local, ComponentField, Register, ComponentMethod, Apply, Operate, CastTo, IsBelow, Field, Item}
use Rattle.vg_source.specs.Steps.{Length, MethodOf, CallMethod, CallValue, CallComponent, NewObject, NewArray, SetLocal, SetComponentField, SetRegister}
use Rattle.vg_source.specs.Steps.{SetField, SetItem, Forget, Super, Target, Method, Construct, Source}
use Rattle.vg_source.specs.State.{State, find_value, find_class, is_below, owner_of, class_at, field_at, items_at}
use Rattle.vg_source.specs.Meaning.{Caller, put, put_found, take_from, taking, with_found, from_below, computed, with_int, with_cell, stop_unless, with_index}
use Rattle.vg_source.specs.Meaning.{with_item_of, operated, applied, recasted, cast_to_class, as_it_is, do_cast, do_test, storing_to, call_method, receiver_of}
use Rattle.vg_source.specs.Meaning.{call_bound, forgetting, at_start, adding, constructing, make_object, make_array, step}

-- the world with another clock and another history
abbrev pub changed : {H K : Type 0} → (ℕ → ℕ) → (H → K) → World H → World K
changed g f w =
    record { phase = w.phase; deepest = w.deepest; largest = w.largest; clock = g w.clock; outside = w.outside; history = f w.history }

-- a step ends the run by itself by an exception, or where it is Wrong; all other ends come from limits and devices
pub data IsOwn : End → Type 0 where
  by_stop : {code : ℕ} {at : Option ℕ} → IsOwn (Stops code at)
  by_wrong : IsOwn Wrong

pub own_is_no_clock : (why : End) → IsOwn why → is_clock (Over why) ≡ false
own_is_no_clock why by_stop = refl
own_is_no_clock why by_wrong = refl

-- two pieces are related from the worlds that are in question, the second with another clock and another history
abbrev pub Related : {H K : Type 0} → (World H → Type 0) → (ℕ → ℕ) → (H → K) → (World H → Answer State H → Answer State K → Type 0)
    → Piece State H → Piece State K → Type 0
Related {H} {K} Ok g f A p q = (s : State) (w : World H) → Ok w → A w (p s w) (q s (changed g f w))

pub grows_put : {H : Type 0} (v : Value) → Grows {H = H} (put v)
grows_put v s w = extends_itself w.outside.trace

-- taking a value and doing what only adds to the trace
grows_take_from : {H : Type 0} (vs : List Value) (p : Piece State H) → Grows p → Grows (take_from vs (λ v. p))
grows_take_from [] p k s w = extends_itself w.outside.trace
grows_take_from (v ∷ vs) p k s w = k (record s { values = vs }) w

pub grows_taking : {H : Type 0} (p : Piece State H) → Grows p → Grows (taking (λ v. p))
grows_taking p k s w = grows_take_from s.values p k s w

module _ {H K : Type 0} (Ok : World H → Type 0) (g : ℕ → ℕ) (f : H → K) (A : World H → Answer State H → Answer State K → Type 0)
    (a_gives : (s : State) (w : World H) → Ok w → A w (Gives s w) (Gives s (changed g f w)))
    (a_over : (why : End) → IsOwn why → (s : State) (w : World H) → Ok w → A w (over why s w) (over why s (changed g f w)))
    (a_room : (most : ℕ) (s : State) (w : World H) → w.largest ≡ Some most → Ok w → A w (over OutOfRoom s w) (over OutOfRoom s (changed g f w)))
    (a_then : (w : World H) (a : Answer State H) (b : Answer State K) (p : Piece State H) (q : Piece State K)
    → Ok w → A w a b → Related Ok g f A p q → Grows q → A w (and_then a p) (and_then b q))
    (a_read : (address : ℕ) (p : ℕ → Piece State H) (q : ℕ → Piece State K)
    → ((v : ℕ) → Related Ok g f A (p v) (q v)) → Related Ok g f A (read_device address p) (read_device address q))
    (a_write : (address value : ℕ) → Related Ok g f A (write_device address value) (write_device address value)) where
  abbrev R : Piece State H → Piece State K → Type 0
  R p q = Related Ok g f A p q

  on_stops : (code at : ℕ) → R (stops code at) (stops code at)
  on_stops code at s w h = a_over (Stops code (kept w.phase at)) by_stop s w h

  on_wrong : R (over Wrong) (over Wrong)
  on_wrong s w h = a_over Wrong by_wrong s w h

  on_put : (v : Value) → R (put v) (put v)
  on_put v s w h = a_gives (record s { values = v ∷ s.values }) w h

  on_put_found : (o : Option Value) → R (put_found o) (put_found o)
  on_put_found (Some v) = on_put v
  on_put_found None = on_wrong

  on_found : {B : Type 0} (o : Option B) (p : B → Piece State H) (q : B → Piece State K) → ((b : B) → R (p b) (q b)) → R (with_found o p) (with_found o q)
  on_found (Some b) p q k = k b
  on_found None p q k = on_wrong

  on_take_from : (vs : List Value) (p : Value → Piece State H) (q : Value → Piece State K) → ((v : Value) → R (p v) (q v)) → R (take_from vs p) (take_from vs q)
  on_take_from [] p q k s w h = on_wrong s w h
  on_take_from (v ∷ vs) p q k s w h = k v (record s { values = vs }) w h

  on_taking : (p : Value → Piece State H) (q : Value → Piece State K) → ((v : Value) → R (p v) (q v)) → R (taking p) (taking q)
  on_taking p q k s w h = on_take_from s.values p q k s w h

  on_below : (count : ℕ) (p : Value → Piece State H) (q : Value → Piece State K) → ((v : Value) → R (p v) (q v)) → R (from_below count p) (from_below count q)
  on_below count p q k s w h = on_found (slice_get s.values count) p q k _ w h

  on_computed : (at : ℕ) (c : Computed) → R (computed at c) (computed at c)
  on_computed at (Is x) = on_put (scalar_value x)
  on_computed at (Fails code) = on_stops code at
  on_computed at Unfit = on_wrong

  on_int : (p : ℤ → Piece State H) (q : ℤ → Piece State K) → ((n : ℤ) → R (p n) (q n)) → (v : Value) → R (with_int p v) (with_int q v)
  on_int p q k (Int n) = k n
  on_int p q k _ = on_wrong

  on_cell : (at : ℕ) (p : ℕ → Piece State H) (q : ℕ → Piece State K) → ((k : ℕ) → R (p k) (q k)) → (v : Value) → R (with_cell at p v) (with_cell at q v)
  on_cell at p q k (Obj c) = k c
  on_cell at p q k (Arr c) = k c
  on_cell at p q k Null = on_stops 1 at
  on_cell at p q k _ = on_wrong

  on_stop_unless : (b : Bool) (code at : ℕ) (p : Piece State H) (q : Piece State K) → R p q → R (stop_unless b code at p) (stop_unless b code at q)
  on_stop_unless true code at p q k = k
  on_stop_unless false code at p q k = on_stops code at

  on_index : (at size : ℕ) (i : ℤ) (p : ℕ → Piece State H) (q : ℕ → Piece State K) → ((k : ℕ) → R (p k) (q k))
      → R (with_index at size i p) (with_index at size i q)
  on_index at size (pos i) p q k = on_stop_unless (nat_lt i size) 2 at (p i) (q i) (k i)
  on_index at size (negsuc i) p q k = on_stops 2 at

  on_item_of : (at : ℕ) (p : ℕ → ℕ → List Value → Piece State H) (q : ℕ → ℕ → List Value → Piece State K)
      → ((k i : ℕ) (vs : List Value) → R (p k i vs) (q k i vs))
      → (array index : Value) → R (with_item_of at p array index) (with_item_of at q array index)
  on_item_of at p q h array index =
      on_cell at _ _ (λ k s w. on_found (items_at s.heap k) _ _ (λ vs. on_int _ _ (λ n. on_index at (length vs) n _ _ (λ i. h k i vs)) index) s w) array

  on_class_cast : (p : Source) (at : ℕ) (d : Name) (v : Value) → R (cast_to_class p at d v) (cast_to_class p at d v)
  on_class_cast p at d Null = on_put Null
  on_class_cast p at d (Obj k) =
      λ s. on_found (class_at s.heap k) _ _ (λ c. on_stop_unless (is_below p c d) 4 at (put (Obj k)) (put (Obj k)) (on_put (Obj k))) s
  on_class_cast p at d _ = on_wrong

  on_test : (p : Source) (d : Name) (v : Value) → R (do_test p d v) (do_test p d v)
  on_test p d Null = on_put (Truth false)
  on_test p d (Obj k) = λ s. on_found (class_at s.heap k) _ _ (λ c. on_put (Truth (is_below p c d))) s
  on_test p d _ = on_wrong

  on_operated : (at : ℕ) (op : Operator) (x y : Value) → R (operated at op x y) (operated at op x y)
  on_operated at op x y = on_found (operand_of x) _ _ (λ a. on_found (operand_of y) _ _ (λ b. on_computed at (binary op a b)))

  on_applied : (op : Prefix) (x : Value) → R (applied op x) (applied op x)
  on_applied op x = on_found (scalar_of x) _ _ (λ a. on_computed 0 (prefixed op a))

  on_recasted : (at : ℕ) (f : Format) (v : Value) → R (recasted at f v) (recasted at f v)
  on_recasted at f v = on_found (scalar_of v) _ _ (λ x. on_computed at (recast f x))

  on_storing : (place : Option Value) (store : State → State) → R (storing_to place store) (storing_to place store)
  on_storing place store = on_found place _ _ (λ old s w h. a_gives (store s) w h)

  on_phase : (phase : Phase) (at : ℕ) (p : Piece State H) (q : Piece State K) → R p q → R (at_start phase at p) (at_start phase at q)
  on_phase Starting at p q k = k
  on_phase Running at p q k = on_stops 5 at

  on_room : (limit : Option ℕ) (n : ℕ) (p : Piece State H) (q : Piece State K) → R p q → (s : State) (w : World H) → w.largest ≡ limit → Ok w
      → A w (unless (passes limit n) OutOfRoom p s w) (unless (passes limit n) OutOfRoom q s (changed g f w))
  on_room None n p q k s w e h = k s w h
  on_room (Some most) n p q k s w e h = by_test (nat_lt most n)
    where
      by_test : (b : Bool) → A w (unless b OutOfRoom p s w) (unless b OutOfRoom q s (changed g f w))
      by_test true = a_room most s w e h
      by_test false = k s w h

  on_adding : (size : ℕ) (cell : Cell) (p : ℕ → Piece State H) (q : ℕ → Piece State K) → ((k : ℕ) → R (p k) (q k)) → R (adding size cell p) (adding size cell q)
  on_adding size cell p q k s w h = on_room w.largest (stored_values s.heap + 1 + size) _ _ (λ s1. k (length s1.heap.cells) _) s w refl h

  -- callers are related where all their calls are
  abbrev Callers : Caller H → Caller K → Type 0
  Callers call call' = (t : Target) (count : ℕ) (self : Value) → R (call t count self) (call' t count self)

  pub on_forgetting : (p : Piece State H) (q : Piece State K) → R p q → R (forgetting p) (forgetting q)
  on_forgetting p q k s w h = a_then w _ _ _ _ h (k s w h) (on_taking _ _ (λ v. a_gives)) (grows_taking go_on (λ s1 w1. extends_itself w1.outside.trace))

  on_cast : (p : Source) (at : ℕ) (t : StaticType) (v : Value) → R (do_cast p at t v) (do_cast p at t v)
  on_cast p at IntType v = on_recasted at ToInt v
  on_cast p at CharType v = on_recasted at ToChar v
  on_cast p at (RawType width) v = on_recasted at (ToBits width) v
  on_cast p at (ClassType d) v = on_class_cast p at d v
  on_cast p at t v = on_put_found (as_it_is t v)

  on_bound : (call : Caller H) (call' : Caller K) → Callers call call' → (at count : ℕ) (v : Value)
      → R (call_bound call at count v) (call_bound call' at count v)
  on_bound call call' k at count (Bound receiver d m) = k (Method d m) count (receiver_of receiver)
  on_bound call call' k at count Null = on_stops 1 at
  on_bound call call' k at count _ = on_wrong

  on_method : (p : Source) (call : Caller H) (call' : Caller K) → Callers call call' → (at : ℕ) (m : Name) (count : ℕ)
      → R (call_method p call at m count) (call_method p call' at m count)
  on_method p call call' k at m count =
      on_below count _ _ (on_cell at _ _
      (λ c s w. on_found (class_at s.heap c) _ _ (λ d. on_found (owner_of p d m) _ _ (λ o. k (Method o m) count (Obj c))) s w))

  on_constructing : (call : Caller H) (call' : Caller K) → Callers call call' → (c : Name) (count o : ℕ)
      → R (constructing call c count o) (constructing call' c count o)
  on_constructing call call' k c count o s w h =
      a_then w _ _ _ _ h (k (Construct c) count (Obj o) s w h) (on_taking _ _ (λ v. on_put (Obj o))) (grows_taking (put (Obj o)) (grows_put (Obj o)))

  on_object : (p : Source) (call : Caller H) (call' : Caller K) → Callers call call' → (at : ℕ) (c : Name) (count : ℕ)
      → R (make_object p call at c count) (make_object p call' at c count)
  on_object p call call' k at c count s w =
      on_phase w.phase at _ _ (on_found (find_class p.classes c) _ _
      (λ d. on_adding (length d.fields) (Object c d.fields) (constructing call c count) (constructing call' c count)
      (on_constructing call call' k c count))) s w

  on_array : (at : ℕ) (t : StaticType) (n : ℤ) → R (make_array at t n) (make_array at t n)
  on_array at t (negsuc n) = on_stops 5 at
  on_array at t (pos n) = on_adding n (Array t (replicate n (default t))) (λ a. put (Arr a)) (λ a. put (Arr a)) (λ a. on_put (Arr a))

  -- what holds of the calls holds of every step
  pub on_step : (p : Source) (call : Caller H) (call' : Caller K) → Callers call call' → (q : Step) → R (step p call q) (step p call' q)
  on_step p call call' k (Put v) = on_put v
  on_step p call call' k (Literal n) = on_found (slice_get p.literals n) _ _ (λ bytes. on_put (Arr n))
  on_step p call call' k This = λ s. on_put s.self s
  on_step p call call' k (Local x) = λ s. on_put_found (slice_get s.locals x) s
  on_step p call call' k (ComponentField c f) = λ s. on_put_found (find_value s.heap.globals c f) s
  on_step p call call' k (Register a) = a_read a _ _ (λ v. on_put (Raw 8 v))
  on_step p call call' k (ComponentMethod c m) = on_put (Bound None c m)
  on_step p call call' k (Apply op) = on_taking _ _ (on_applied op)
  on_step p call call' k (Operate at op) = on_taking _ _ (λ y. on_taking _ _ (λ x. on_operated at op x y))
  on_step p call call' k (CastTo at t) = on_taking _ _ (on_cast p at t)
  on_step p call call' k (IsBelow c) = on_taking _ _ (on_test p c)
  on_step p call call' k (Field at d f) = on_taking _ _ (on_cell at _ _ (λ c s. on_put_found (field_at s.heap c d f) s))
  on_step p call call' k (Item at t) = on_taking _ _ (λ i. on_taking _ _ (λ a. on_item_of at _ _ (λ c j vs. on_put_found (slice_get vs j)) a i))
  on_step p call call' k (Length at t) = on_taking _ _ (on_cell at _ _ (λ c s. on_found (items_at s.heap c) _ _ (λ vs. on_put (Int (pos (length vs)))) s))
  on_step p call call' k (MethodOf at e m) =
      on_taking _ _ (on_cell at _ _ (λ c s. on_found (class_at s.heap c) _ _ (λ d. on_found (owner_of p d m) _ _ (λ o. on_put (Bound (Some c) o m))) s))
  on_step p call call' k (CallMethod at e m count) = on_method p call call' k at m count
  on_step p call call' k (CallValue at count ps r) = on_below count _ _ (on_bound call call' k at count)
  on_step p call call' k (CallComponent c m count) = k (Method c m) count Null
  on_step p call call' k (NewObject at c count) = on_object p call call' k at c count
  on_step p call call' k (NewArray at t) = λ s w. on_phase w.phase at _ _ (on_taking _ _ (on_int _ _ (on_array at t))) s w
  on_step p call call' k (SetLocal x) = on_taking _ _ (λ v s. on_storing (slice_get s.locals x) _ s)
  on_step p call call' k (SetComponentField c f) = on_taking _ _ (λ v s. on_storing (find_value s.heap.globals c f) _ s)
  on_step p call call' k (SetRegister a) = on_taking _ _ (λ v. on_found (byte_of v) _ _ (a_write a))
  on_step p call call' k (SetField at d f) = on_taking _ _ (λ v. on_taking _ _ (on_cell at _ _ (λ c s. on_storing (field_at s.heap c d f) _ s)))
  on_step p call call' k (SetItem at t) =
      on_taking _ _ (λ v. on_taking _ _ (λ i. on_taking _ _ (λ a. on_item_of at _ _ (λ c j vs s w h. a_gives _ w h) a i)))
  on_step p call call' k Forget = on_taking _ _ (λ v. a_gives)
  on_step p call call' k (Super c count) =
      λ s. on_forgetting (call (Construct c) count s.self) (call' (Construct c) count s.self) (k (Construct c) count s.self) s
