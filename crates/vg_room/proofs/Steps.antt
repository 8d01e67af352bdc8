-- Each step keeps within the room: those that make something look at it, and the others change no number of values.
use Rattle.std.proofs.Common.{◌≡◌, refl, sym, ◌∙◌, ap, arith, ℕ, ◌+◌, ◌≤◌, ◌==◌, Bool, true, false, nat_lt, List, [], ◌∷◌, ◌++◌, length, take, drop}
use Rattle.std.proofs.Common.{replicate, Option, Some, None, slice_get, subst}
use Rattle.std.specs.Prelude.{ℤ, pos, negsuc}
use Rattle.vg_meaning.specs.World.{Phase, Starting, Running}
use Rattle.vg_meaning.specs.Answer.{OutOfRoom, Gives, Piece, go_on, passes, unless}
use Rattle.vg_source.specs.Operators.{Computed, Is, Fails, Unfit, Format, ToInt, ToChar, ToBits, binary, prefixed, recast}
use Rattle.vg_core.specs.declared.types.CoreType.{CoreType}
use Rattle.vg_core.specs.declared.types.CoreType.TheVariants.{IntType, CharType, RawType, ClassType}
use Rattle.vg_core.specs.declared.value.CoreValue.{CoreValue}
use Rattle.vg_core.specs.declared.value.CoreValue.TheVariants.{Int, Bool as Truth, Raw, Null, Obj, Arr, Bound}
use Rattle.vg_core.specs.declared.operator.Operator.{Operator}
use Rattle.vg_core.specs.declared.operator.Prefix.{Prefix}
use Rattle.vg_core.specs.declared.heap.Cell.{Cell}
use Rattle.vg_core.specs.declared.heap.Cell.TheVariants.{Object, Array}
use Rattle.vg_core.specs.declared.step.Step.{Step}
use Rattle.vg_core.specs.declared.step.Step.TheVariants.{Put, Literal, This, Local, ComponentField, Register, ComponentMethod, Apply, Operate, CastTo}
use Rattle.vg_core.specs.declared.step.Step.TheVariants.{IsBelow, Field as FieldOf, Item, Length, MethodOf, CallMethod, CallValue, CallComponent}
use Rattle.vg_core.specs.declared.step.Step.TheVariants.{NewObject, NewArray, SetLocal, SetComponentField, SetRegister, SetField, SetItem, Forget, Super}
use Rattle.vg_core.specs.declared.program.Class.{Class}
use Rattle.vg_core.specs.declared.program.Tables.{Tables}
use Rattle.vg_core.specs.declared.program.Target.{Target}
use Rattle.vg_core.specs.declared.program.Target.TheVariants.{Run, Construct}
use Rattle.vg_core.specs.Tables.{is_below, one_hierarchy, dispatch, field_type}
use Rattle.vg_core.specs.Operators.{operand_of, scalar_of, byte_of, operator_of, prefix_of}
use Rattle.vg_core.specs.Heap.{default, size_of, stored_values, Place, OfComponent, OfObject, OfArray, class_in, value_at, set_at}
use Rattle.vg_core.specs.State.{State, is_of}
use Rattle.vg_core.specs.Meaning.{put, take_from, taking, with_found, from_below, computed, checked, of_type, stop_unless, with_int, with_class, with_object}
use Rattle.vg_core.specs.Meaning.{with_object_of, in_array, with_array, with_index, with_item, operated, applied, recasted, cast_to_class, as_it_is, put_found}
use Rattle.vg_core.specs.Meaning.{cast_to, class_test, get_place, set_place, put_local, get_length, Caller, receiver_of, call_bound}
use Rattle.vg_core.specs.Meaning.{forgetting, at_start, adding, constructing, defaults, make_object, make_array, step}
use Rattle.vg_room.proofs.Storing.{stored_set, stored_more, object_size, array_size}
use Rattle.vg_room.proofs.Pieces.{Roomed, Keeps, keeps_then, keeps_read, keeps_write}

pub not_past : (n : ℕ) → nat_lt 60000 n ≡ false → n ≤ 60000
not_past n e = grind (arith, e)

module _ {H : Type 0} where
  -- ---- values that wait

  keeps_put : (v : CoreValue) → Keeps {H = H} (put v)
  keeps_put v s w h = h

  keeps_taken : (vs : List CoreValue) (go : CoreValue → Piece State H) → ((v : CoreValue) → Keeps (go v)) → Keeps (take_from vs go)
  keeps_taken [] go k s w h = h
  keeps_taken (v ∷ vs) go k s w h = k v (record s { values = vs }) w h

  pub keeps_taking : (go : CoreValue → Piece State H) → ((v : CoreValue) → Keeps (go v)) → Keeps (taking go)
  keeps_taking go k s w h = keeps_taken s.values go k s w h

  pub keeps_found : {A : Type 0} (o : Option A) (go : A → Piece State H) → ((a : A) → Keeps (go a)) → Keeps (with_found o go)
  keeps_found (Some a) go k s w h = k a s w h
  keeps_found None go k s w h = h

  keeps_below : (count : ℕ) (go : CoreValue → Piece State H) → ((v : CoreValue) → Keeps (go v)) → Keeps (from_below count go)
  keeps_below count go k s w h = keeps_found (slice_get s.values count) go k (record s { values = take count s.values ++ drop (count + 1) s.values }) w h

  keeps_computed : (at : ℕ) (c : Computed) → Keeps {H = H} (computed at c)
  keeps_computed at (Is x) s w h = h
  keeps_computed at (Fails code) s w h = h
  keeps_computed at Unfit s w h = h

  -- ---- checks

  pub keeps_checked : (b : Bool) (f : Piece State H) → Keeps f → Keeps (checked b f)
  keeps_checked true f k s w h = k s w h
  keeps_checked false f k s w h = h

  pub keeps_type : (p : Tables) (t : CoreType) (v : CoreValue) (f : Piece State H) → Keeps f → Keeps (of_type p t v f)
  keeps_type p t v f k s w h = keeps_checked (is_of p s.heap.cells t v) f k s w h

  keeps_stop : (b : Bool) (code at : ℕ) (f : Piece State H) → Keeps f → Keeps (stop_unless b code at f)
  keeps_stop true code at f k s w h = k s w h
  keeps_stop false code at f k s w h = h

  keeps_int : (go : ℤ → Piece State H) → ((n : ℤ) → Keeps (go n)) → (v : CoreValue) → Keeps (with_int go v)
  keeps_int go k (Int n) s w h = k n s w h
  keeps_int go k _ s w h = h

  keeps_class : (j : ℕ) (go : ℕ → Piece State H) → ((c : ℕ) → Keeps (go c)) → Keeps (with_class j go)
  keeps_class j go k s w h = keeps_found (class_in (slice_get s.heap.cells j)) go k s w h

  keeps_object : (at : ℕ) (go : ℕ → Piece State H) → ((j : ℕ) → Keeps (go j)) → (v : CoreValue) → Keeps (with_object at go v)
  keeps_object at go k (Obj j) s w h = k j s w h
  keeps_object at go k Null s w h = h
  keeps_object at go k _ s w h = h

  keeps_object_of : (p : Tables) (at c : ℕ) (go : ℕ → ℕ → Piece State H) → ((j d : ℕ) → Keeps (go j d)) → (v : CoreValue)
      → Keeps (with_object_of p at c go v)
  keeps_object_of p at c go k =
      keeps_object at _ (λ j. keeps_class j _ (λ d. keeps_checked (is_below p d c) (go j d) (k j d)))

  keeps_in_array : (t : ℕ) (go : List CoreValue → Piece State H) → ((vs : List CoreValue) → Keeps (go vs)) → (o : Option Cell) → Keeps (in_array t go o)
  keeps_in_array t go k (Some (Array u vs)) s w h = keeps_checked (u == t) (go vs) (k vs) s w h
  keeps_in_array t go k _ s w h = h

  keeps_array : (at t : ℕ) (go : ℕ → List CoreValue → Piece State H) → ((j : ℕ) (vs : List CoreValue) → Keeps (go j vs)) → (v : CoreValue)
      → Keeps (with_array at t go v)
  keeps_array at t go k (Arr j) s w h = keeps_in_array t (go j) (k j) (slice_get s.heap.cells j) s w h
  keeps_array at t go k Null s w h = h
  keeps_array at t go k _ s w h = h

  keeps_index : (at size : ℕ) (n : ℤ) (go : ℕ → Piece State H) → ((i : ℕ) → Keeps (go i)) → Keeps (with_index at size n go)
  keeps_index at size (pos i) go k s w h = keeps_stop (nat_lt i size) 2 at (go i) (k i) s w h
  keeps_index at size (negsuc i) go k s w h = h

  keeps_item : (at t : ℕ) (go : Place → Piece State H) → ((x : Place) → Keeps (go x)) → (array index : CoreValue) → Keeps (with_item at t go array index)
  keeps_item at t go k array index =
      keeps_array at t _
      (λ j vs. keeps_int (λ n. with_index at (length vs) n (λ i. go (OfArray j i)))
      (λ n. keeps_index at (length vs) n (λ i. go (OfArray j i)) (λ i. k (OfArray j i))) index) array

  -- ---- operators, casts and class tests

  keeps_operated : (p : Tables) (at : ℕ) (op : Operator) (t u : CoreType) (x y : CoreValue) → Keeps {H = H} (operated p at op t u x y)
  keeps_operated p at op t u x y =
      keeps_type p u y _ (keeps_type p t x _ (keeps_found (operand_of x) _ (λ a. keeps_found (operand_of y) _ (λ b.
      keeps_computed at (binary (operator_of op) a b)))))

  keeps_applied : (p : Tables) (op : Prefix) (t : CoreType) (x : CoreValue) → Keeps {H = H} (applied p op t x)
  keeps_applied p op t x = keeps_type p t x _ (keeps_found (scalar_of x) _ (λ a. keeps_computed 0 (prefixed (prefix_of op) a)))

  keeps_recasted : (at : ℕ) (f : Format) (v : CoreValue) → Keeps {H = H} (recasted at f v)
  keeps_recasted at f v = keeps_found (scalar_of v) _ (λ x. keeps_computed at (recast f x))

  keeps_cast_to_class : (p : Tables) (at d : ℕ) (v : CoreValue) → Keeps {H = H} (cast_to_class p at d v)
  keeps_cast_to_class p at d Null s w h = h
  keeps_cast_to_class p at d (Obj j) s w h =
      keeps_class j _ (λ c. keeps_checked (one_hierarchy p c d) _ (keeps_stop (is_below p c d) 4 at _ (keeps_put (Obj j)))) s w h
  keeps_cast_to_class p at d _ s w h = h

  keeps_put_found : (o : Option CoreValue) → Keeps {H = H} (put_found o)
  keeps_put_found o = keeps_found o put keeps_put

  keeps_cast : (p : Tables) (at : ℕ) (t : CoreType) (v : CoreValue) → Keeps {H = H} (cast_to p at t v)
  keeps_cast p at IntType v = keeps_recasted at ToInt v
  keeps_cast p at CharType v = keeps_recasted at ToChar v
  keeps_cast p at (RawType width) v = keeps_recasted at (ToBits width) v
  keeps_cast p at (ClassType d) v = keeps_cast_to_class p at d v
  keeps_cast p at t v = keeps_put_found (as_it_is t v)

  keeps_class_test : (p : Tables) (d : ℕ) (v : CoreValue) → Keeps {H = H} (class_test p d v)
  keeps_class_test p d Null s w h = h
  keeps_class_test p d (Obj j) s w h =
      keeps_class j _ (λ c. keeps_checked (one_hierarchy p c d) _ (keeps_put (Truth (is_below p c d)))) s w h
  keeps_class_test p d _ s w h = h

  -- ---- places

  keeps_get : (p : Tables) (x : Place) → Keeps {H = H} (get_place p x)
  keeps_get p x s w h = keeps_put_found (value_at p s.heap x) s w h

  store : (p : Tables) (x : Place) (v : CoreValue) → Keeps {H = H} (λ s w. Gives (record s { heap = set_at p x v s.heap }) w)
  store p x v s w (l, f) = (l, subst (λ n. n ≤ 60000) (sym (stored_set p x v s.heap)) f)

  keeps_set : (p : Tables) (t : Option CoreType) (x : Place) (v : CoreValue) → Keeps {H = H} (set_place p t x v)
  keeps_set p t x v =
      keeps_found t _ (λ u. keeps_type p u v _ (λ s1 w1 h1. keeps_found (value_at p s1.heap x) _ (λ old. store p x v) s1 w1 h1))

  keeps_local : (p : Tables) (n : ℕ) (t : CoreType) (v : CoreValue) → Keeps {H = H} (put_local p n t v)
  keeps_local p n t v = keeps_type p t v _ (λ s1 w1 h1. keeps_found (slice_get s1.locals n) _ (λ old s2 w2 h2. h2) s1 w1 h1)

  keeps_length : (at t : ℕ) (v : CoreValue) → Keeps {H = H} (get_length at t v)
  keeps_length at t = keeps_array at t _ (λ j vs. keeps_put (Int (pos (length vs))))

  -- ---- calls and making

  abbrev pub KeepsCaller : Caller H → Type 0
  KeepsCaller call = (t : Target) (count : ℕ) (self : CoreValue) → Keeps (call t count self)

  pub keeps_forgetting : (f : Piece State H) → Keeps f → Keeps (forgetting f)
  keeps_forgetting f k s w h = keeps_then (f s w) (taking (λ v. go_on)) (k s w h) (keeps_taking (λ v. go_on) (λ v s1 w1 h1. h1))

  keeps_start : (phase : Phase) (at : ℕ) (f : Piece State H) → Keeps f → Keeps (at_start phase at f)
  keeps_start Starting at f k s w h = k s w h
  keeps_start Running at f k s w h = h

  keeps_adding : (size : ℕ) (cell : Cell) (go : ℕ → Piece State H) → size_of cell ≡ 1 + size → ((o : ℕ) → Keeps (go o)) → Keeps (adding size cell go)
  keeps_adding size cell go e k s w (l, f) = by (passes w.largest (stored_values s.heap + 1 + size)) refl
    where
      by : (b : Bool) → passes w.largest (stored_values s.heap + 1 + size) ≡ b
          → Roomed (unless b OutOfRoom
          (λ s1. go (length s1.heap.cells) (record s1 { heap = record s1.heap { cells = s1.heap.cells ++ cell ∷ [] } })) s w)
      by true q = (l, f)
      by false q =
          k (length s.heap.cells) (record s { heap = record s.heap { cells = s.heap.cells ++ cell ∷ [] } }) w (
            l,
            subst (λ n. n ≤ 60000) (sym (stored_more s.heap cell size e))
                (not_past (stored_values s.heap + 1 + size) (sym (ap (λ o. passes o (stored_values s.heap + 1 + size)) l) ∙ q)),
          )

  keeps_constructing : (call : Caller H) → KeepsCaller call → (c count o : ℕ) → Keeps (constructing call c count o)
  keeps_constructing call k c count o s w h =
      keeps_then (call (Construct c) count (Obj o) s w) (taking (λ v. put (Obj o))) (k (Construct c) count (Obj o) s w h)
      (keeps_taking (λ v. put (Obj o)) (λ v. keeps_put (Obj o)))

  keeps_make_object : (p : Tables) (call : Caller H) → KeepsCaller call → (at c count : ℕ) → Keeps (make_object p call at c count)
  keeps_make_object p call k at c count s w h =
      keeps_start w.phase at _ (keeps_found (slice_get p.classes c) _ (λ (x : Class).
      keeps_adding (length x.fields) (Object c (defaults p x.fields)) (constructing call c count) (object_size p c x.fields)
      (keeps_constructing call k c count))) s w h

  keeps_make_array : (at t : ℕ) (e : CoreType) (n : ℤ) → Keeps {H = H} (make_array at t e n)
  keeps_make_array at t e (negsuc n) s w h = h
  keeps_make_array at t e (pos n) s w h =
      keeps_adding n (Array t (replicate n (default e))) (λ a. put (Arr a)) (array_size t n (default e)) (λ a. keeps_put (Arr a)) s w h

  keeps_bound : (p : Tables) (call : Caller H) → KeepsCaller call → (at count t : ℕ) (v : CoreValue) → Keeps (call_bound p call at count t v)
  keeps_bound p call k at count t (Bound receiver m) s w h =
      keeps_found (slice_get p.methods m) _ (λ x. keeps_checked (x.function == t) _ (k (Run m) count (receiver_of receiver))) s w h
  keeps_bound p call k at count t Null s w h = h
  keeps_bound p call k at count t _ s w h = h

  -- ---- steps

  pub keeps_step : (p : Tables) (call : Caller H) → KeepsCaller call → (q : Step) → Keeps (step p call q)
  keeps_step p call k (Put v) = keeps_put v
  keeps_step p call k (Literal j) = keeps_found (slice_get p.literals j) _ (λ bytes. keeps_put (Arr j))
  keeps_step p call k This = λ s w h. h
  keeps_step p call k (Local j) = λ s w h. keeps_put_found (slice_get s.locals j) s w h
  keeps_step p call k (ComponentField f) = keeps_get p (OfComponent f)
  keeps_step p call k (Register a) = keeps_read a _ (λ v. keeps_put (Raw 8 v))
  keeps_step p call k (ComponentMethod m) = keeps_put (Bound None m)
  keeps_step p call k (Apply op t) = keeps_taking _ (keeps_applied p op t)
  keeps_step p call k (Operate at op t u) = keeps_taking _ (λ y. keeps_taking _ (λ x. keeps_operated p at op t u x y))
  keeps_step p call k (CastTo at t u) = keeps_taking _ (λ v. keeps_type p t v _ (keeps_cast p at u v))
  keeps_step p call k (IsBelow c) = keeps_taking _ (keeps_class_test p c)
  keeps_step p call k (FieldOf at f) = keeps_taking _ (keeps_object at _ (λ j. keeps_get p (OfObject j f)))
  keeps_step p call k (Item at t) = keeps_taking _ (λ i. keeps_taking _ (λ a. keeps_item at t (get_place p) (keeps_get p) a i))
  keeps_step p call k (Length at t) = keeps_taking _ (keeps_length at t)
  keeps_step p call k (MethodOf at c sel) =
      keeps_taking _ (keeps_object_of p at c _ (λ j d. keeps_found (dispatch p d sel) _ (λ m. keeps_put (Bound (Some j) m))))
  keeps_step p call k (CallMethod at c sel count) =
      keeps_below count _ (keeps_object_of p at c _ (λ j d. keeps_found (dispatch p d sel) _ (λ m. k (Run m) count (Obj j))))
  keeps_step p call k (CallValue at count t) = keeps_below count _ (keeps_bound p call k at count t)
  keeps_step p call k (CallComponent m count) = k (Run m) count Null
  keeps_step p call k (NewObject at c count) = keeps_make_object p call k at c count
  keeps_step p call k (NewArray at t) =
      λ s w h. keeps_start w.phase at _ (keeps_taking _ (keeps_int _ (λ n. keeps_found (slice_get p.types t) _ (λ e. keeps_make_array at t e n)))) s w h
  keeps_step p call k (SetLocal j t) = keeps_taking _ (keeps_local p j t)
  keeps_step p call k (SetComponentField f) = keeps_taking _ (keeps_set p (field_type p f) (OfComponent f))
  keeps_step p call k (SetRegister a) = keeps_taking _ (λ v. keeps_found (byte_of v) _ (keeps_write a))
  keeps_step p call k (SetField at f) =
      keeps_taking _ (λ v. keeps_taking _ (keeps_object at _ (λ j. keeps_set p (field_type p f) (OfObject j f) v)))
  keeps_step p call k (SetItem at t) =
      keeps_taking _ (λ v. keeps_taking _ (λ i. keeps_taking _ (λ a. keeps_item at t (λ x. set_place p (slice_get p.types t) x v)
      (λ x. keeps_set p (slice_get p.types t) x v) a i)))
  keeps_step p call k Forget = keeps_taking _ (λ v s w h. h)
  keeps_step p call k (Super c count) = λ s w h. keeps_forgetting (call (Construct c) count s.self) (k (Construct c) count s.self) s w h
