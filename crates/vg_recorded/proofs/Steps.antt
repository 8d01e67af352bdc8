-- Where calls follow every step does. Each piece of a step is by cases on what it looks at, and each step is built of such pieces as its
-- definition is.
use Rattle.std.specs.Prelude.{ℕ, ◌+◌, Bool, true, false, List, [], ◌∷◌, length, replicate, Option, Some, None, slice_get, slice_set, ℤ, pos, negsuc, nat_lt}
use Rattle.std.specs.Prelude.{◌==◌}
use Rattle.vg_meaning.specs.World.{Phase, Starting, Running}
use Rattle.vg_meaning.specs.Answer.{Wrong, Gives, Piece, over, stops, kept, Stops}
use Rattle.vg_source.specs.Operators.{Computed, Is, Fails, Unfit, binary, prefixed, Format, ToInt, ToChar, ToBits, recast}
use Rattle.vg_core.specs.declared.types.CoreType.{CoreType}
use Rattle.vg_core.specs.declared.types.CoreType.TheVariants.{IntType, CharType, RawType, ClassType}
use Rattle.vg_core.specs.declared.value.CoreValue.{CoreValue}
use Rattle.vg_core.specs.declared.value.CoreValue.TheVariants.{Int, Bool as Truth, Raw, Null, Obj, Arr, Bound}
use Rattle.vg_core.specs.declared.operator.Operator.{Operator}
use Rattle.vg_core.specs.declared.operator.Prefix.{Prefix}
use Rattle.vg_core.specs.declared.heap.Cell.{Cell}
use Rattle.vg_core.specs.declared.heap.Cell.TheVariants.{Object, Array}
use Rattle.vg_core.specs.declared.step.Step.{Step}
use Rattle.vg_core.specs.declared.step.Step.TheVariants.{Put, Literal, This, Local, ComponentField, Register, ComponentMethod, Apply, Operate, CastTo}
use Rattle.vg_core.specs.declared.step.Step.TheVariants.{IsBelow, Field, Item, Length, MethodOf, CallMethod, CallValue, CallComponent, NewObject, NewArray}
use Rattle.vg_core.specs.declared.step.Step.TheVariants.{SetLocal, SetComponentField, SetRegister, SetField, SetItem, Forget, Super}
use Rattle.vg_core.specs.declared.program.Tables.{Tables}
use Rattle.vg_core.specs.declared.program.Target.{Target}
use Rattle.vg_core.specs.declared.program.Target.TheVariants.{Run, Construct}
use Rattle.vg_core.specs.Tables.{is_below, one_hierarchy, dispatch, field_type}
use Rattle.vg_core.specs.Operators.{scalar_value, operand_of, scalar_of, byte_of, operator_of, prefix_of}
use Rattle.vg_core.specs.Heap.{default, stored_values, Place, OfComponent, OfObject, OfArray, class_in, value_at, set_at}
use Rattle.vg_core.specs.State.{State, is_of}
use Rattle.vg_core.specs.Meaning.{Caller, put, take_from, taking, with_found, from_below, computed, checked, of_type, stop_unless, with_int, with_class}
use Rattle.vg_core.specs.Meaning.{with_object, with_object_of, in_array, with_array, with_index, with_item, operated, applied, recasted}
use Rattle.vg_core.specs.Meaning.{cast_to_class, as_it_is}
use Rattle.vg_core.specs.Meaning.{put_found, cast_to, class_test, get_place, set_place, put_local, get_length, bind_method}
use Rattle.vg_core.specs.Meaning.{call_method, receiver_of, call_bound}
use Rattle.vg_core.specs.Meaning.{forgetting, at_start, adding, constructing, defaults, make_object, make_array, step}
use Rattle.vg_recorded.specs.Setting.{Setting}
use Rattle.vg_recorded.specs.Follows.{gives, FollowsPiece}
use Rattle.vg_recorded.proofs.Pieces.{follows_then, follows_over, follows_room, follows_read, follows_write}

module _ {H K : Type 0} (x : Setting) (f : H → K) where
  abbrev R : Piece State H → Piece State K → Type 0
  R p q = FollowsPiece x f p q

  on_stops : (code at : ℕ) → R (stops code at) (stops code at)
  on_stops code at s w h = follows_over x f (Stops code (kept w.phase at)) tt s w h

  on_wrong : R (over Wrong) (over Wrong)
  on_wrong s w h = follows_over x f Wrong tt s w h

  pub on_put : (v : CoreValue) → R (put v) (put v)
  on_put v s w h = gives h

  pub on_found : {B : Type 0} (o : Option B) (p : B → Piece State H) (q : B → Piece State K) → ((b : B) → R (p b) (q b)) → R (with_found o p) (with_found o q)
  on_found (Some b) p q k s w h = k b s w h
  on_found None p q k s w h = on_wrong s w h

  on_put_found : (o : Option CoreValue) → R (put_found o) (put_found o)
  on_put_found o = on_found o _ _ on_put

  on_take_from : (vs : List CoreValue) (p : CoreValue → Piece State H) (q : CoreValue → Piece State K) → ((v : CoreValue) → R (p v) (q v))
      → R (take_from vs p) (take_from vs q)
  on_take_from [] p q k s w h = on_wrong s w h
  on_take_from (v ∷ vs) p q k s w h = k v (record s { values = vs }) w h

  pub on_taking : (p : CoreValue → Piece State H) (q : CoreValue → Piece State K) → ((v : CoreValue) → R (p v) (q v)) → R (taking p) (taking q)
  on_taking p q k s w h = on_take_from s.values p q k s w h

  on_below : (count : ℕ) (p : CoreValue → Piece State H) (q : CoreValue → Piece State K) → ((v : CoreValue) → R (p v) (q v))
      → R (from_below count p) (from_below count q)
  on_below count p q k s w h = on_found (slice_get s.values count) p q k _ w h

  on_computed : (at : ℕ) (c : Computed) → R (computed at c) (computed at c)
  on_computed at (Is y) s w h = on_put (scalar_value y) s w h
  on_computed at (Fails code) s w h = on_stops code at s w h
  on_computed at Unfit s w h = on_wrong s w h

  pub on_checked : (b : Bool) (p : Piece State H) (q : Piece State K) → R p q → R (checked b p) (checked b q)
  on_checked true p q k s w h = k s w h
  on_checked false p q k s w h = on_wrong s w h

  pub on_type : (p : Tables) (t : CoreType) (v : CoreValue) (a : Piece State H) (b : Piece State K) → R a b → R (of_type p t v a) (of_type p t v b)
  on_type p t v a b k s w h = on_checked (is_of p s.heap.cells t v) a b k s w h

  on_stop_unless : (b : Bool) (code at : ℕ) (p : Piece State H) (q : Piece State K) → R p q → R (stop_unless b code at p) (stop_unless b code at q)
  on_stop_unless true code at p q k s w h = k s w h
  on_stop_unless false code at p q k s w h = on_stops code at s w h

  on_int : (p : ℤ → Piece State H) (q : ℤ → Piece State K) → ((n : ℤ) → R (p n) (q n)) → (v : CoreValue) → R (with_int p v) (with_int q v)
  on_int p q k (Int n) s w h = k n s w h
  on_int p q k _ s w h = on_wrong s w h

  on_class : (c : ℕ) (p : ℕ → Piece State H) (q : ℕ → Piece State K) → ((n : ℕ) → R (p n) (q n)) → R (with_class c p) (with_class c q)
  on_class c p q k s w h = on_found (class_in (slice_get s.heap.cells c)) p q k s w h

  on_object : (at : ℕ) (p : ℕ → Piece State H) (q : ℕ → Piece State K) → ((n : ℕ) → R (p n) (q n)) → (v : CoreValue)
      → R (with_object at p v) (with_object at q v)
  on_object at p q k (Obj c) s w h = k c s w h
  on_object at p q k Null s w h = on_stops 1 at s w h
  on_object at p q k _ s w h = on_wrong s w h

  on_object_of : (p : Tables) (at c : ℕ) (go : ℕ → ℕ → Piece State H) (go' : ℕ → ℕ → Piece State K) → ((k d : ℕ) → R (go k d) (go' k d)) → (v : CoreValue)
      → R (with_object_of p at c go v) (with_object_of p at c go' v)
  on_object_of p at c go go' h v =
      on_object at _ _ (λ k. on_class k _ _ (λ d. on_checked (is_below p d c) (go k d) (go' k d) (h k d))) v

  on_in_array : (t : ℕ) (p : List CoreValue → Piece State H) (q : List CoreValue → Piece State K) → ((vs : List CoreValue) → R (p vs) (q vs))
      → (o : Option Cell) → R (in_array t p o) (in_array t q o)
  on_in_array t p q k (Some (Array u vs)) s w h = on_checked (u == t) (p vs) (q vs) (k vs) s w h
  on_in_array t p q k (Some (Object c vs)) s w h = on_wrong s w h
  on_in_array t p q k None s w h = on_wrong s w h

  on_array : (at t : ℕ) (p : ℕ → List CoreValue → Piece State H) (q : ℕ → List CoreValue → Piece State K)
      → ((k : ℕ) (vs : List CoreValue) → R (p k vs) (q k vs)) → (v : CoreValue) → R (with_array at t p v) (with_array at t q v)
  on_array at t p q h (Arr k) s w i = on_in_array t (p k) (q k) (h k) (slice_get s.heap.cells k) s w i
  on_array at t p q h Null s w i = on_stops 1 at s w i
  on_array at t p q h _ s w i = on_wrong s w i

  on_index : (at size : ℕ) (i : ℤ) (p : ℕ → Piece State H) (q : ℕ → Piece State K) → ((k : ℕ) → R (p k) (q k))
      → R (with_index at size i p) (with_index at size i q)
  on_index at size (pos i) p q k s w h = on_stop_unless (nat_lt i size) 2 at (p i) (q i) (k i) s w h
  on_index at size (negsuc i) p q k s w h = on_stops 2 at s w h

  on_item : (at t : ℕ) (p : Place → Piece State H) (q : Place → Piece State K) → ((y : Place) → R (p y) (q y)) → (array index : CoreValue)
      → R (with_item at t p array index) (with_item at t q array index)
  on_item at t p q h array index =
      on_array at t _ _ (λ k vs. on_int _ _ (λ n. on_index at (length vs) n _ _ (λ i. h (OfArray k i))) index) array

  on_operated : (p : Tables) (at : ℕ) (op : Operator) (t u : CoreType) (a b : CoreValue) → R (operated p at op t u a b) (operated p at op t u a b)
  on_operated p at op t u a b =
      on_type p u b _ _ (on_type p t a _ _ (on_found (operand_of a) _ _ (λ y. on_found (operand_of b) _ _ (λ z. on_computed at (binary (operator_of op) y z)))))

  on_applied : (p : Tables) (op : Prefix) (t : CoreType) (a : CoreValue) → R (applied p op t a) (applied p op t a)
  on_applied p op t a = on_type p t a _ _ (on_found (scalar_of a) _ _ (λ y. on_computed 0 (prefixed (prefix_of op) y)))

  on_recasted : (at : ℕ) (to : Format) (v : CoreValue) → R (recasted at to v) (recasted at to v)
  on_recasted at to v = on_found (scalar_of v) _ _ (λ y. on_computed at (recast to y))

  on_class_cast : (p : Tables) (at d : ℕ) (v : CoreValue) → R (cast_to_class p at d v) (cast_to_class p at d v)
  on_class_cast p at d Null s w h = on_put Null s w h
  on_class_cast p at d (Obj k) s w h =
      on_class k _ _ (λ c. on_checked (one_hierarchy p c d) _ _ (on_stop_unless (is_below p c d) 4 at (put (Obj k)) (put (Obj k)) (on_put (Obj k)))) s w h
  on_class_cast p at d _ s w h = on_wrong s w h

  on_cast : (p : Tables) (at : ℕ) (t : CoreType) (v : CoreValue) → R (cast_to p at t v) (cast_to p at t v)
  on_cast p at IntType v = on_recasted at ToInt v
  on_cast p at CharType v = on_recasted at ToChar v
  on_cast p at (RawType width) v = on_recasted at (ToBits width) v
  on_cast p at (ClassType d) v = on_class_cast p at d v
  on_cast p at t v = on_put_found (as_it_is t v)

  on_test : (p : Tables) (d : ℕ) (v : CoreValue) → R (class_test p d v) (class_test p d v)
  on_test p d Null s w h = on_put (Truth false) s w h
  on_test p d (Obj k) s w h = on_class k _ _ (λ c. on_checked (one_hierarchy p c d) _ _ (on_put (Truth (is_below p c d)))) s w h
  on_test p d _ s w h = on_wrong s w h

  on_get : (p : Tables) (y : Place) → R (get_place p y) (get_place p y)
  on_get p y s w h = on_put_found (value_at p s.heap y) s w h

  on_set : (p : Tables) (t : Option CoreType) (y : Place) (v : CoreValue) → R (set_place p t y v) (set_place p t y v)
  on_set p t y v s w h =
      on_found t _ _ (λ u. on_type p u v _ _
      (λ s1. on_found (value_at p s1.heap y) (λ old s2 w2. Gives (record s2 { heap = set_at p y v s2.heap }) w2) _ (λ old s2 w2 h2. gives h2) s1)) s w h

  on_put_local : (p : Tables) (k : ℕ) (t : CoreType) (v : CoreValue) → R (put_local p k t v) (put_local p k t v)
  on_put_local p k t v =
      on_type p t v _ _
      (λ s. on_found (slice_get s.locals k) (λ old s1 w1. Gives (record s1 { locals = slice_set s1.locals k v }) w1) _ (λ old s1 w1 h1. gives h1) s)

  on_length : (at t : ℕ) (v : CoreValue) → R (get_length at t v) (get_length at t v)
  on_length at t v = on_array at t _ _ (λ k vs. on_put (Int (pos (length vs)))) v

  on_bind : (p : Tables) (at c sel : ℕ) (v : CoreValue) → R (bind_method p at c sel v) (bind_method p at c sel v)
  on_bind p at c sel v = on_object_of p at c _ _ (λ k d. on_found (dispatch p d sel) _ _ (λ m. on_put (Bound (Some k) m))) v

  on_phase : (phase : Phase) (at : ℕ) (p : Piece State H) (q : Piece State K) → R p q → R (at_start phase at p) (at_start phase at q)
  on_phase Starting at p q k s w h = k s w h
  on_phase Running at p q k s w h = on_stops 5 at s w h

  on_adding : (size : ℕ) (cell : Cell) (p : ℕ → Piece State H) (q : ℕ → Piece State K) → ((k : ℕ) → R (p k) (q k)) → R (adding size cell p) (adding size cell q)
  on_adding size cell p q k s w h = follows_room x f (stored_values s.heap + 1 + size) _ _ (λ s1. k (length s1.heap.cells) _) s w h

  on_new_array : (at t : ℕ) (e : CoreType) (n : ℤ) → R (make_array at t e n) (make_array at t e n)
  on_new_array at t e (negsuc n) s w h = on_stops 5 at s w h
  on_new_array at t e (pos n) s w h =
      on_adding n (Array t (replicate n (default e))) (λ a. put (Arr a)) (λ a. put (Arr a)) (λ a. on_put (Arr a)) s w h

  pub on_forgetting : (p : Piece State H) (q : Piece State K) → R p q → R (forgetting p) (forgetting q)
  on_forgetting p q k s w h = follows_then x f _ _ _ _ (k s w h) (on_taking _ _ (λ v s1 w1 h1. gives h1))

  -- callers follow where all their calls do
  abbrev pub Callers : Caller H → Caller K → Type 0
  Callers call call' = (t : Target) (count : ℕ) (self : CoreValue) → R (call t count self) (call' t count self)

  module _ (p : Tables) (call : Caller H) (call' : Caller K) (k : Callers call call') where
    on_call_method : (at c sel count : ℕ) → R (call_method p call at c sel count) (call_method p call' at c sel count)
    on_call_method at c sel count =
        on_below count _ _ (on_object_of p at c _ _ (λ o d. on_found (dispatch p d sel) _ _ (λ m. k (Run m) count (Obj o))))

    on_call_bound : (at count t : ℕ) (v : CoreValue) → R (call_bound p call at count t v) (call_bound p call' at count t v)
    on_call_bound at count t (Bound receiver m) s w h =
        on_found (slice_get p.methods m) _ _ (λ y. on_checked (y.function == t) _ _ (k (Run m) count (receiver_of receiver))) s w h
    on_call_bound at count t Null s w h = on_stops 1 at s w h
    on_call_bound at count t _ s w h = on_wrong s w h

    on_constructing : (c count o : ℕ) → R (constructing call c count o) (constructing call' c count o)
    on_constructing c count o s w h = follows_then x f _ _ _ _ (k (Construct c) count (Obj o) s w h) (on_taking _ _ (λ v. on_put (Obj o)))

    on_make_object : (at c count : ℕ) → R (make_object p call at c count) (make_object p call' at c count)
    on_make_object at c count s w h =
        on_phase w.phase at _ _ (on_found (slice_get p.classes c) _ _
        (λ d. on_adding (length d.fields) (Object c (defaults p d.fields)) (constructing call c count) (constructing call' c count)
        (on_constructing c count))) s w h

    -- what holds of the calls holds of every step
    pub on_step : (st : Step) → R (step p call st) (step p call' st)
    on_step (Put v) = on_put v
    on_step (Literal n) = on_found (slice_get p.literals n) _ _ (λ bytes. on_put (Arr n))
    on_step This = λ s. on_put s.self s
    on_step (Local n) = λ s. on_put_found (slice_get s.locals n) s
    on_step (ComponentField g) = on_get p (OfComponent g)
    on_step (Register a) = follows_read x f a _ _ (λ v. on_put (Raw 8 v))
    on_step (ComponentMethod m) = on_put (Bound None m)
    on_step (Apply op t) = on_taking _ _ (on_applied p op t)
    on_step (Operate at op t u) = on_taking _ _ (λ b. on_taking _ _ (λ a. on_operated p at op t u a b))
    on_step (CastTo at t u) = on_taking _ _ (λ v. on_type p t v _ _ (on_cast p at u v))
    on_step (IsBelow c) = on_taking _ _ (on_test p c)
    on_step (Field at g) = on_taking _ _ (on_object at _ _ (λ o. on_get p (OfObject o g)))
    on_step (Item at t) = on_taking _ _ (λ i. on_taking _ _ (λ a. on_item at t (get_place p) (get_place p) (on_get p) a i))
    on_step (Length at t) = on_taking _ _ (on_length at t)
    on_step (MethodOf at c sel) = on_taking _ _ (on_bind p at c sel)
    on_step (CallMethod at c sel count) = on_call_method at c sel count
    on_step (CallValue at count t) = on_below count _ _ (on_call_bound at count t)
    on_step (CallComponent m count) = k (Run m) count Null
    on_step (NewObject at c count) = on_make_object at c count
    on_step (NewArray at t) =
        λ s w. on_phase w.phase at _ _ (on_taking _ _ (on_int _ _ (λ n. on_found (slice_get p.types t) _ _ (λ e. on_new_array at t e n)))) s w
    on_step (SetLocal n t) = on_taking _ _ (on_put_local p n t)
    on_step (SetComponentField g) = on_taking _ _ (on_set p (field_type p g) (OfComponent g))
    on_step (SetRegister a) = on_taking _ _ (λ v. on_found (byte_of v) _ _ (follows_write x f a))
    on_step (SetField at g) = on_taking _ _ (λ v. on_taking _ _ (on_object at _ _ (λ o. on_set p (field_type p g) (OfObject o g) v)))
    on_step (SetItem at t) =
        on_taking _ _ (λ v. on_taking _ _ (λ i. on_taking _ _ (λ a. on_item at t (λ y. set_place p (slice_get p.types t) y v)
        (λ y. set_place p (slice_get p.types t) y v)
        (λ y. on_set p (slice_get p.types t) y v) a i)))
    on_step Forget = on_taking _ _ (λ v s w h. gives h)
    on_step (Super c count) = λ s. on_forgetting (call (Construct c) count s.self) (call' (Construct c) count s.self) (k (Construct c) count s.self) s
