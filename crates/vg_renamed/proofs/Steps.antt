-- Each step does the same under numbers and under names.
use Rattle.std.proofs.Common.{◌≡◌, ℕ, ◌+◌, true, false, List, [], ◌∷◌, ◌++◌, length, map, replicate, Option, Some, None, option_map}
use Rattle.std.proofs.Common.{slice_get, slice_set}
use Rattle.std.proofs.Common.{refl, sym, ap, ◌∙◌, subst}
use Rattle.std.specs.Prelude.{ℤ, pos, negsuc}
use Rattle.std.proofs.lemmas.List.{map-append, length-map}
use Rattle.std.proofs.lemmas.Option.{slice_get-map}
use Rattle.vg_meaning.specs.World.{World, Phase, Starting, Running}
use Rattle.vg_meaning.specs.Answer.{OutOfRoom, Answer, Gives, Piece, go_on, passes, unless}
use Rattle.vg_meaning.specs.Devices.{write_device}
use Rattle.vg_meaning.specs.Same.{gives, overs, wrong}
use Rattle.vg_meaning_laws.proofs.Same.{same_then, same_unless, same_read, same_write}
use Rattle.vg_source.specs.Names.{Name}
use Rattle.vg_source.specs.Operators.{ToInt, ToChar, ToBits}
use Rattle.vg_source.specs.Values as source_value
use Rattle.vg_source.specs.Steps as source_step
use Rattle.vg_source.specs.Steps.{Source}
use Rattle.vg_source.specs.State as source_state
use Rattle.vg_source.specs.State.{find_value, set_value, find_class, owner_of}
use Rattle.vg_source.specs.Meaning as source
use Rattle.vg_core.specs.declared.types.CoreType.{CoreType}
use Rattle.vg_core.specs.declared.types.CoreType.TheVariants.{IntType, BoolType, CharType, RawType, NullType, ClassType, ArrayType, FunctionType, NoType}
use Rattle.vg_core.specs.declared.types.CoreType.TheVariants.{MoreTypes}
use Rattle.vg_core.specs.declared.value.CoreValue.{CoreValue}
use Rattle.vg_core.specs.declared.value.CoreValue.TheVariants.{Int, Bool as Truth, Char, Raw, Null, Obj, Arr, Bound}
use Rattle.vg_core.specs.declared.heap.Cell.{Cell}
use Rattle.vg_core.specs.declared.heap.Cell.TheVariants.{Object, Array}
use Rattle.vg_core.specs.declared.step.Step.{Step}
use Rattle.vg_core.specs.declared.step.Step.TheVariants.{Put, Literal, This, Local, ComponentField, Register, ComponentMethod, Apply, Operate, CastTo}
use Rattle.vg_core.specs.declared.step.Step.TheVariants.{IsBelow, Field, Item, Length, MethodOf, CallMethod, CallValue, CallComponent, NewObject, NewArray}
use Rattle.vg_core.specs.declared.step.Step.TheVariants.{SetLocal, SetComponentField, SetRegister, SetField, SetItem, Forget, Super}
use Rattle.vg_core.specs.declared.program.Class.{Class}
use Rattle.vg_core.specs.declared.program.Target.{Target}
use Rattle.vg_core.specs.declared.program.Target.TheVariants.{Run, Construct}
use Rattle.vg_core.specs.declared.program.Tables.{Tables}
use Rattle.vg_core.specs.Tables.{is_below, last_of, above_in, top, both_same, one_hierarchy, dispatch, fields_in, field_type}
use Rattle.vg_core.specs.Program.{Program}
use Rattle.vg_core.specs.Operators.{operator_of, prefix_of, byte_of}
use Rattle.vg_core.specs.Heap.{default, stored_values, OfComponent, OfObject, OfArray, item_in, value_at, with_item, set_at}
use Rattle.vg_core.specs.State.{State}
use Rattle.vg_core.specs.Meaning.{put, taking, with_found, checked, of_type, stop_unless, with_int, with_class, with_object, with_array, operated, applied}
use Rattle.vg_core.specs.Meaning.{cast_to_class, as_it_is, cast_to, class_test}
use Rattle.vg_core.specs.Meaning.{put_found, get_place, set_place, put_local, get_length, Caller, bind_method, call_method, receiver_of, call_bound}
use Rattle.vg_core.specs.Meaning.{forgetting, at_start, adding, constructing}
use Rattle.vg_core.specs.Meaning.{defaults, make_object, make_array, step}
use Rattle.vg_core.specs.Meaning as meaning
use Rattle.vg_core.specs.Typing.{WellFormed}
use Rattle.vg_core.specs.Naming.{Naming, named_type, type_at, named_value, named_step, keyed, named_cell, named_heap, named_state, named_target, named_class}
use Rattle.vg_renamed.specs.IsNamed.{IsNamed}
use Rattle.vg_renamed.specs.Stands.{AreSame}
use Rattle.vg_renamed.proofs.Lists.{set_map, map_replicate}
use Rattle.vg_renamed.proofs.Fields.{default_at, length_keyed, length_defaults, same_stored, component_value, component_set, cell_value, cell_set}
use Rattle.vg_renamed.proofs.Pieces.{byte_same, Here, along, at_state, same_checked, same_of_type, same_stop_unless, same_put, same_put_found}
use Rattle.vg_renamed.proofs.Pieces.{same_found, same_had}
use Rattle.vg_renamed.proofs.Pieces.{same_taking, same_below, same_object, same_class, same_array, same_item, same_set_place, same_operated, same_applied}
use Rattle.vg_renamed.proofs.Pieces.{same_recasted}

module _ (n : Naming) (p : Tables) where
  -- ---- values

  itself_same : (u : CoreType) (v : CoreValue) → source.as_it_is (named_type n p u) (named_value n p v) ≡ option_map (named_value n p) (as_it_is u v)
  itself_same BoolType (Truth b) = refl
  itself_same BoolType _ = refl
  itself_same (ArrayType t) (Arr k) = refl
  itself_same (ArrayType t) Null = refl
  itself_same (ArrayType t) _ = refl
  itself_same (FunctionType ps r) (Bound receiver m) = refl
  itself_same (FunctionType ps r) Null = refl
  itself_same (FunctionType ps r) _ = refl
  itself_same IntType _ = refl
  itself_same CharType _ = refl
  itself_same (RawType k) _ = refl
  itself_same NullType _ = refl
  itself_same (ClassType c) _ = refl
  itself_same NoType _ = refl
  itself_same (MoreTypes t ts) _ = refl

  receiver_same : (r : Option ℕ) → named_value n p (receiver_of r) ≡ source.receiver_of r
  receiver_same None = refl
  receiver_same (Some k) = refl

  -- a store to an element
  items_set : (cells : List Cell) (k i : ℕ) (v : CoreValue)
      → source_state.with_item i (named_value n p v) (slice_get (map (named_cell n p) cells) k) (map (named_cell n p) cells) k
      ≡ map (named_cell n p) (with_item i v (slice_get cells k) cells k)
  items_set cells k i v =
      ap (λ o. source_state.with_item i (named_value n p v) o (map (named_cell n p) cells) k) (slice_get-map (named_cell n p) cells k)
      ∙ inside (slice_get cells k)
    where
      inside : (o : Option Cell) → source_state.with_item i (named_value n p v) (option_map (named_cell n p) o) (map (named_cell n p) cells) k
          ≡ map (named_cell n p) (with_item i v o cells k)
      inside (Some (Array t vs)) =
          ap (λ z. slice_set (map (named_cell n p) cells) k (source_value.Array (type_at n p t) z)) (set_map (named_value n p) vs i v)
          ∙ set_map (named_cell n p) cells k (Array t (slice_set vs i v))
      inside (Some (Object c vs)) = refl
      inside None = refl

  -- a class of a hierarchy is there
  tops_there : (c d : ℕ) → one_hierarchy p c d ≡ true
      → (k l : Class) × (slice_get p.classes c ≡ Some k) × (slice_get p.classes d ≡ Some l)
  tops_there c d e = by (slice_get p.classes c) (slice_get p.classes d) refl refl e
    where
      no_first : (o : Option ℕ) → both_same None o ≡ true → ⊥
      no_first None q = let clash : false ≡ true = q in absurd cc
      no_first (Some a) q = let clash : false ≡ true = q in absurd cc

      no_second : (o : Option ℕ) → both_same o None ≡ true → ⊥
      no_second None q = let clash : false ≡ true = q in absurd cc
      no_second (Some a) q = let clash : false ≡ true = q in absurd cc

      by : (x y : Option Class) → slice_get p.classes c ≡ x → slice_get p.classes d ≡ y → one_hierarchy p c d ≡ true
          → (k l : Class) × (slice_get p.classes c ≡ Some k) × (slice_get p.classes d ≡ Some l)
      by (Some k) (Some l) ex ey q = (k, l, ex, ey)
      by None y ex ey q = absurd (no_first (top p d) (sym (ap (λ z. both_same (last_of (above_in z)) (top p d)) ex) ∙ q))
      by (Some k) None ex ey q = absurd (no_second (top p c) (sym (ap (λ z. both_same (top p c) (last_of (above_in z))) ey) ∙ q))

module _ (n : Naming) (p : Program) (q : Source) (named : IsNamed n p q) (formed : WellFormed p.tables) {K : Type 0} where
  -- two pieces do the same at this state
  abbrev pub At : Piece State K → Piece source_state.State K → State → World K → Type 0
  At f g s w = Here n p.tables f g s w

  abbrev pub Equal : Answer State K → Answer source_state.State K → Type 0
  Equal a b = AreSame n p.tables a b

  -- ---- casts and class tests

  same_class_cast : (at d : ℕ) (v : CoreValue) (s : State) (w : World K)
      → At (cast_to_class p.tables at d v) (source.cast_to_class q at (n.class d) (named_value n p.tables v)) s w
  same_class_cast at d (Obj k) s w =
      same_class n p.tables k (λ c. checked (one_hierarchy p.tables c d) (stop_unless (is_below p.tables c d) 4 at (put (Obj k))))
      (λ c. source.stop_unless (source_state.is_below q c (n.class d)) 4 at (source.put (source_value.Obj k))) s w
      (λ c. same_checked n p.tables (one_hierarchy p.tables c d) (stop_unless (is_below p.tables c d) 4 at (put (Obj k))) s w _
      (λ e. by c (tops_there n p.tables c d e)))
    where
      by : (c : ℕ) → ((a b : Class) × (slice_get p.tables.classes c ≡ Some a) × (slice_get p.tables.classes d ≡ Some b))
          → At (stop_unless (is_below p.tables c d) 4 at (put (Obj k))) (source.stop_unless (source_state.is_below q (n.class c) (n.class d)) 4 at
          (source.put (source_value.Obj k))) s w
      by c (a, b, ea, eb) =
          subst (λ z. At (stop_unless (is_below p.tables c d) 4 at (put (Obj k))) (source.stop_unless z 4 at (source.put (source_value.Obj k))) s w)
          (sym (named.below c d a b ea eb))
          (same_stop_unless n p.tables (is_below p.tables c d) 4 at (put (Obj k)) (source.put (source_value.Obj k)) s w (same_put n p.tables (Obj k) s w))
  same_class_cast at d Null s w = same_put n p.tables Null s w
  same_class_cast at d (Int i) s w = wrong
  same_class_cast at d (Truth i) s w = wrong
  same_class_cast at d (Char i) s w = wrong
  same_class_cast at d (Raw j i) s w = wrong
  same_class_cast at d (Arr k) s w = wrong
  same_class_cast at d (Bound r m) s w = wrong

  same_itself : (u : CoreType) (v : CoreValue) (s : State) (w : World K)
      → At (put_found (as_it_is u v)) (source.put_found (source.as_it_is (named_type n p.tables u) (named_value n p.tables v))) s w
  same_itself u v s w = same_put_found n p.tables (as_it_is u v) (source.as_it_is (named_type n p.tables u) (named_value n p.tables v)) s w
      (λ x e. itself_same n p.tables u v ∙ ap (option_map (named_value n p.tables)) e)

  same_cast : (at : ℕ) (u : CoreType) (v : CoreValue) (s : State) (w : World K)
      → At (cast_to p.tables at u v) (source.do_cast q at (named_type n p.tables u) (named_value n p.tables v)) s w
  same_cast at IntType v s w = same_recasted n p.tables at ToInt v s w
  same_cast at CharType v s w = same_recasted n p.tables at ToChar v s w
  same_cast at (RawType k) v s w = same_recasted n p.tables at (ToBits k) v s w
  same_cast at (ClassType d) v s w = same_class_cast at d v s w
  same_cast at BoolType v s w = same_itself BoolType v s w
  same_cast at NullType v s w = same_itself NullType v s w
  same_cast at (ArrayType t) v s w = same_itself (ArrayType t) v s w
  same_cast at (FunctionType ps r) v s w = same_itself (FunctionType ps r) v s w
  same_cast at NoType v s w = same_itself NoType v s w
  same_cast at (MoreTypes t ts) v s w = same_itself (MoreTypes t ts) v s w

  same_test : (d : ℕ) (v : CoreValue) (s : State) (w : World K) → At (class_test p.tables d v) (source.do_test q (n.class d) (named_value n p.tables v)) s w
  same_test d (Obj k) s w =
      same_class n p.tables k (λ c. checked (one_hierarchy p.tables c d) (put (Truth (is_below p.tables c d))))
      (λ c. source.put (source_value.Truth (source_state.is_below q c (n.class d)))) s w
      (λ c. same_checked n p.tables (one_hierarchy p.tables c d) (put (Truth (is_below p.tables c d))) s w _ (λ e. by c (tops_there n p.tables c d e)))
    where
      by : (c : ℕ) → ((a b : Class) × (slice_get p.tables.classes c ≡ Some a) × (slice_get p.tables.classes d ≡ Some b))
          → At (put (Truth (is_below p.tables c d))) (source.put (source_value.Truth (source_state.is_below q (n.class c) (n.class d)))) s w
      by c (a, b, ea, eb) = subst (λ z. At (put (Truth (is_below p.tables c d))) (source.put (source_value.Truth z)) s w) (sym (named.below c d a b ea eb))
          (same_put n p.tables (Truth (is_below p.tables c d)) s w)
  same_test d Null s w = same_put n p.tables (Truth false) s w
  same_test d (Int i) s w = wrong
  same_test d (Truth i) s w = wrong
  same_test d (Char i) s w = wrong
  same_test d (Raw j i) s w = wrong
  same_test d (Arr k) s w = wrong
  same_test d (Bound r m) s w = wrong

  -- ---- places

  same_component_field : (f : ℕ) (s : State) (w : World K)
      → At (get_place p.tables (OfComponent f)) (λ s1. source.put_found (find_value s1.heap.globals (n.field f).owner (n.field f).name) s1) s w
  same_component_field f s w = same_put_found n p.tables (value_at p.tables s.heap (OfComponent f)) _ s w
      (λ v e. component_value n p.tables named.fields formed s.heap f v e)

  same_field : (at f : ℕ) (v : CoreValue) (s : State) (w : World K)
      → At (with_object at (λ k. get_place p.tables (OfObject k f)) v) (source.get_field at (n.field f).owner (n.field f).name (named_value n p.tables v)) s w
  same_field at f v s w = same_object n p.tables at (λ k. get_place p.tables (OfObject k f))
      (λ k s1. source.put_found (source_state.field_at s1.heap k (n.field f).owner (n.field f).name) s1) v s w
      (λ k. same_put_found n p.tables (value_at p.tables s.heap (OfObject k f)) _ s w (λ x e. cell_value n p.tables named.fields formed s.heap.cells k f x e))

  same_get_item : (at t : ℕ) (a i : CoreValue) (s : State) (w : World K)
      → At (meaning.with_item at t (get_place p.tables) a i) (source.get_item at (named_value n p.tables a) (named_value n p.tables i)) s w
  same_get_item at t a i s w = same_item n p.tables at t (get_place p.tables) (λ k j vs. source.put_found (slice_get vs j)) a i s w
      (λ k j u vs e. same_put_found n p.tables (value_at p.tables s.heap (OfArray k j)) (slice_get (map (named_value n p.tables) vs) j) s w
      (λ v ev. slice_get-map (named_value n p.tables) vs j ∙ ap (option_map (named_value n p.tables)) (sym (ap (item_in j) e) ∙ ev)))

  same_length : (at t : ℕ) (v : CoreValue) (s : State) (w : World K) → At (get_length at t v) (source.get_length at (named_value n p.tables v)) s w
  same_length at t v s w = same_array n p.tables at t (λ k vs. put (Int (pos (length vs)))) (λ k vs. source.put (source_value.Int (pos (length vs)))) v s w
      (λ k u vs e. subst (λ z. At (put (Int (pos (length vs)))) (source.put (source_value.Int (pos z))) s w) (sym (length-map vs (named_value n p.tables)))
      (same_put n p.tables (Int (pos (length vs))) s w))

  same_set_local : (k : ℕ) (t : CoreType) (v : CoreValue) (s : State) (w : World K) → At (put_local p.tables k t v)
      (source.put_local k (named_value n p.tables v)) s w
  same_set_local k t v s w =
      same_of_type n p.tables t v (λ s1. with_found (slice_get s1.locals k) (λ old s2 w2. Gives (record s2 { locals = slice_set s2.locals k v }) w2) s1) s w _
      (same_found n p.tables (slice_get s.locals k) (slice_get (map (named_value n p.tables) s.locals) k)
      (λ old s2 w2. Gives (record s2 { locals = slice_set s2.locals k v }) w2)
      (λ old s2 w2. Gives (record s2 { locals = slice_set s2.locals k (named_value n p.tables v) }) w2) (named_value n p.tables) s w
      (λ old e. slice_get-map (named_value n p.tables) s.locals k ∙ ap (option_map (named_value n p.tables)) e)
      (λ old e. gives (ap (λ z. record (named_state n p.tables s) { locals = z }) (sym (set_map (named_value n p.tables) s.locals k v)))))

  same_set_component_field : (f : ℕ) (v : CoreValue) (s : State) (w : World K)
      → At (set_place p.tables (field_type p.tables f) (OfComponent f) v) (source.put_global (n.field f).owner (n.field f).name (named_value n p.tables v)) s w
  same_set_component_field f v s w = same_set_place n p.tables (OfComponent f) (field_type p.tables f) v s w _ by
    where
      stored : source_state.State → source_state.State
      stored s1 = record s1 { heap = record s1.heap { globals = set_value s1.heap.globals (n.field f).owner (n.field f).name (named_value n p.tables v) } }

      by : (old : CoreValue) → value_at p.tables s.heap (OfComponent f) ≡ Some old
          → Equal (Gives (record s { heap = set_at p.tables (OfComponent f) v s.heap }) w) (source.put_global (n.field f).owner (n.field f).name
          (named_value n p.tables v) (named_state n p.tables s) w)
      by old e = subst (λ o. Equal (Gives (record s { heap = set_at p.tables (OfComponent f) v s.heap }) w)
          (source.storing_to o stored (named_state n p.tables s) w))
          (sym (component_value n p.tables named.fields formed s.heap f old e))
          (gives (ap (λ z. record (named_state n p.tables s) { heap = record (named_heap n p.tables s.heap) { globals = z } })
          (sym (component_set n p.tables named.fields formed s.heap.globals f v old e))))

  same_set_field : (at f : ℕ) (v r : CoreValue) (s : State) (w : World K)
      → At (with_object at (λ k. set_place p.tables (field_type p.tables f) (OfObject k f) v) r)
      (source.put_field at (n.field f).owner (n.field f).name (named_value n p.tables v) (named_value n p.tables r)) s w
  same_set_field at f v r s w = same_object n p.tables at (λ k. set_place p.tables (field_type p.tables f) (OfObject k f) v) theirs r s w
      (λ k. same_set_place n p.tables (OfObject k f) (field_type p.tables f) v s w _ (by k))
    where
      theirs : ℕ → Piece source_state.State K
      theirs k = λ s1. source.storing_to (source_state.field_at s1.heap k (n.field f).owner (n.field f).name)
          (λ s2. record s2 { heap = source_state.set_field s2.heap k (n.field f).owner (n.field f).name (named_value n p.tables v) }) s1

      stored : ℕ → source_state.State → source_state.State
      stored k s2 = record s2 { heap = source_state.set_field s2.heap k (n.field f).owner (n.field f).name (named_value n p.tables v) }

      by : (k : ℕ) (old : CoreValue) → value_at p.tables s.heap (OfObject k f) ≡ Some old
          → Equal (Gives (record s { heap = set_at p.tables (OfObject k f) v s.heap }) w) (theirs k (named_state n p.tables s) w)
      by k old e = subst (λ o. Equal (Gives (record s { heap = set_at p.tables (OfObject k f) v s.heap }) w)
          (source.storing_to o (stored k) (named_state n p.tables s) w))
          (sym (cell_value n p.tables named.fields formed s.heap.cells k f old e))
          (gives (ap (λ z. record (named_state n p.tables s) { heap = record (named_heap n p.tables s.heap) { cells = z } })
          (sym (cell_set n p.tables named.fields formed s.heap.cells k f v old e))))

  same_set_item : (at t : ℕ) (v a i : CoreValue) (s : State) (w : World K)
      → At (meaning.with_item at t (λ x. set_place p.tables (slice_get p.tables.types t) x v) a i)
      (source.put_item at (named_value n p.tables v) (named_value n p.tables a) (named_value n p.tables i)) s w
  same_set_item at t v a i s w = same_item n p.tables at t (λ x. set_place p.tables (slice_get p.tables.types t) x v)
      (λ k j vs s1 w1. Gives (record s1 { heap = source_state.set_item s1.heap k j (named_value n p.tables v) }) w1) a i s w
      (λ k j u vs e. same_set_place n p.tables (OfArray k j) (slice_get p.tables.types t) v s w _
      (λ old eo. gives (ap (λ z. record (named_state n p.tables s) { heap = record (named_heap n p.tables s.heap) { cells = z } })
      (sym (items_set n p.tables s.heap.cells k j v)))))

  same_set_register : (a : ℕ) (v : CoreValue) (s : State) (w : World K)
      → At (with_found (byte_of v) (write_device a)) (source.with_found (source_value.byte_of (named_value n p.tables v)) (write_device a)) s w
  same_set_register a v s w = same_found n p.tables (byte_of v) (source_value.byte_of (named_value n p.tables v)) (write_device a) (write_device a) (λ b. b) s w
      (λ b e. byte_same n p.tables v ∙ e) (λ b e. same_write a b s (named_state n p.tables s) w refl)

  -- ---- making

  same_at_start : (at : ℕ) (f : Piece State K) (g : Piece source_state.State K) (s : State) (w : World K) → At f g s w
      → Equal (at_start w.phase at f s w) (source.at_start w.phase at g (named_state n p.tables s) w)
  same_at_start at f g s w h = by w.phase
    where
      by : (ph : Phase) → Equal (at_start ph at f s w) (source.at_start ph at g (named_state n p.tables s) w)
      by Running = overs
      by Starting = h

  same_adding : (size size' : ℕ) (cell : Cell) (cell' : source_value.Cell) (f : ℕ → Piece State K) (g : ℕ → Piece source_state.State K) → size' ≡ size
      → named_cell n p.tables cell ≡ cell' → ((k : ℕ) (s : State) (w : World K) → At (f k) (g k) s w) → (s : State) (w : World K)
      → At (adding size cell f) (source.adding size' cell' g) s w
  same_adding size size' cell cell' f g es ec k s w =
      subst (λ z. Equal (adding size cell f s w) (unless (passes w.largest z) OutOfRoom theirs (named_state n p.tables s) w)) (sym room)
      (same_unless (passes w.largest (stored_values s.heap + 1 + size)) OutOfRoom ours theirs (along n p.tables ours theirs added) s (named_state n p.tables s)
      w refl)
    where
      ours : Piece State K
      ours s2 = f (length s2.heap.cells) (record s2 { heap = record s2.heap { cells = s2.heap.cells ++ cell ∷ [] } })

      theirs : Piece source_state.State K
      theirs t = g (length t.heap.cells) (record t { heap = record t.heap { cells = t.heap.cells ++ cell' ∷ [] } })

      room : source_value.stored_values (named_heap n p.tables s.heap) + 1 + size' ≡ stored_values s.heap + 1 + size
      room = ap (λ z. z + 1 + size') (same_stored n p.tables s.heap) ∙ ap (λ z. stored_values s.heap + 1 + z) es

      new_cells : (cells : List Cell) → map (named_cell n p.tables) (cells ++ cell ∷ []) ≡ map (named_cell n p.tables) cells ++ cell' ∷ []
      new_cells cells = map-append (named_cell n p.tables) cells (cell ∷ []) ∙ ap (λ z. map (named_cell n p.tables) cells ++ z ∷ []) ec

      added : (s2 : State) (w2 : World K) → At ours theirs s2 w2
      added s2 w2 =
          subst (λ o. Equal (ours s2 w2)
          (g o (record (named_state n p.tables s2) {
            heap = record (named_heap n p.tables s2.heap) {
              cells = map (named_cell n p.tables)
                  s2.heap.cells ++ cell' ∷ [];
            };
          }) w2))
          (sym (length-map s2.heap.cells (named_cell n p.tables)))
          (subst (λ z. Equal (ours s2 w2)
          (g (length s2.heap.cells) (record (named_state n p.tables s2) { heap = record (named_heap n p.tables s2.heap) { cells = z } }) w2))
          (new_cells s2.heap.cells) (k (length s2.heap.cells) (record s2 { heap = record s2.heap { cells = s2.heap.cells ++ cell ∷ [] } }) w2))

  same_new_array : (at t : ℕ) (v : CoreValue) (s : State) (w : World K)
      → At (with_int (λ m. with_found (slice_get p.tables.types t) (λ e. make_array at t e m)) v)
      (source.with_int (source.make_array at (type_at n p.tables t)) (named_value n p.tables v)) s w
  same_new_array at t (Int m) s w = same_had n p.tables (slice_get p.tables.types t) (λ e. make_array at t e m) s w _ (λ e h. made m e h)
    where
      made : (m : ℤ) (e : CoreType) → slice_get p.tables.types t ≡ Some e → Equal (make_array at t e m s w) (source.make_array at (type_at n p.tables t) m
          (named_state n p.tables s) w)
      made (negsuc m) e h = overs
      made (pos m) e h = same_adding m m (Array t (replicate m (default e)))
          (source_value.Array (type_at n p.tables t) (replicate m (source_value.default (type_at n p.tables t)))) (λ a. put (Arr a))
          (λ a. source.put (source_value.Arr a)) refl
          (ap (source_value.Array (type_at n p.tables t)) (sym (map_replicate (named_value n p.tables) m (default e)) ∙ ap (replicate m)
          (sym (default_at n p.tables t e h))))
          (λ k s1 w1. same_put n p.tables (Arr k) s1 w1) s w
  same_new_array at t Null s w = wrong
  same_new_array at t (Truth i) s w = wrong
  same_new_array at t (Char i) s w = wrong
  same_new_array at t (Raw j i) s w = wrong
  same_new_array at t (Obj k) s w = wrong
  same_new_array at t (Arr k) s w = wrong
  same_new_array at t (Bound r m) s w = wrong

  -- ---- calls

  -- calls do the same
  abbrev pub CallsSame : Caller K → source.Caller K → Type 0
  CallsSame call call' = (t : Target) (count : ℕ) (self : CoreValue) (s : State) (w : World K)
      → At (call t count self) (call' (named_target n p.tables t) count (named_value n p.tables self)) s w

  module _ (call : Caller K) (call' : source.Caller K) (calls : CallsSame call call') where
    same_call_method : (at c sel count : ℕ) (s : State) (w : World K)
        → At (call_method p.tables call at c sel count) (source.call_method q call' at (n.selector sel) count) s w
    same_call_method at c sel count = same_below n p.tables count _ _
        (λ v s w. same_object n p.tables at (λ k. with_class k (λ d. checked (is_below p.tables d c) (ours k d)))
        (λ k s1 w1. source.with_found (source_state.class_at s1.heap k) (theirs k) s1 w1) v s w
        (λ k. same_class n p.tables k (λ d. checked (is_below p.tables d c) (ours k d)) (theirs k) s w
        (λ d. same_checked n p.tables (is_below p.tables d c) (ours k d) s w _
        (λ e. same_found n p.tables (dispatch p.tables d sel) (owner_of q (n.class d) (n.selector sel)) (λ m. call (Run m) count (Obj k))
        (λ o. call' (source_step.Method o (n.selector sel)) count (source_value.Obj k)) (λ m. (n.method m).owner) s w (named.dispatches d sel)
        (λ m em. subst (λ z. Equal (call (Run m) count (Obj k) s w) (call' (source_step.Method (n.method m).owner z) count (source_value.Obj k)
        (named_state n p.tables s) w)) (sym (named.selectors d sel m em))
        (calls (Run m) count (Obj k) s w))))))
      where
        ours : ℕ → ℕ → Piece State K
        ours k d = with_found (dispatch p.tables d sel) (λ m. call (Run m) count (Obj k))

        theirs : ℕ → Name → Piece source_state.State K
        theirs k d = source.with_found (owner_of q d (n.selector sel)) (λ o. call' (source_step.Method o (n.selector sel)) count (source_value.Obj k))

    same_method_of : (at c sel : ℕ) (v : CoreValue) (s : State) (w : World K)
        → At (bind_method p.tables at c sel v) (source.bind_method q at (n.selector sel) (named_value n p.tables v)) s w
    same_method_of at c sel v s w =
        same_object n p.tables at (λ k. with_class k (λ d. checked (is_below p.tables d c) (ours k d)))
        (λ k s1 w1. source.with_found (source_state.class_at s1.heap k) (theirs k) s1 w1) v s w
        (λ k. same_class n p.tables k (λ d. checked (is_below p.tables d c) (ours k d)) (theirs k) s w
        (λ d. same_checked n p.tables (is_below p.tables d c) (ours k d) s w _
        (λ e. same_found n p.tables (dispatch p.tables d sel) (owner_of q (n.class d) (n.selector sel)) (λ m. put (Bound (Some k) m))
        (λ o. source.put (source_value.Bound (Some k) o (n.selector sel))) (λ m. (n.method m).owner) s w (named.dispatches d sel)
        (λ m em. subst (λ z. Equal (put (Bound (Some k) m) s w) (source.put (source_value.Bound (Some k) (n.method m).owner z) (named_state n p.tables s) w))
        (sym (named.selectors d sel m em))
        (same_put n p.tables (Bound (Some k) m) s w)))))
      where
        ours : ℕ → ℕ → Piece State K
        ours k d = with_found (dispatch p.tables d sel) (λ m. put (Bound (Some k) m))

        theirs : ℕ → Name → Piece source_state.State K
        theirs k d = source.with_found (owner_of q d (n.selector sel)) (λ o. source.put (source_value.Bound (Some k) o (n.selector sel)))

    same_call_bound : (at count t : ℕ) (v : CoreValue) (s : State) (w : World K)
        → At (call_bound p.tables call at count t v) (source.call_bound call' at count (named_value n p.tables v)) s w
    same_call_bound at count t (Bound r m) s w =
        same_had n p.tables (slice_get p.tables.methods m) (λ x. checked _ (call (Run m) count (receiver_of r))) s w _
        (λ x e. same_checked n p.tables _ (call (Run m) count (receiver_of r)) s w _
        (λ h. subst (λ z. Equal (call (Run m) count (receiver_of r) s w) (call' (source_step.Method (n.method m).owner (n.method m).name) count z
        (named_state n p.tables s) w)) (receiver_same n p.tables r)
        (calls (Run m) count (receiver_of r) s w)))
    same_call_bound at count t Null s w = overs
    same_call_bound at count t (Int i) s w = wrong
    same_call_bound at count t (Truth i) s w = wrong
    same_call_bound at count t (Char i) s w = wrong
    same_call_bound at count t (Raw j i) s w = wrong
    same_call_bound at count t (Obj k) s w = wrong
    same_call_bound at count t (Arr k) s w = wrong

    same_constructing : (c count k : ℕ) (s : State) (w : World K) → At (constructing call c count k) (source.constructing call' (n.class c) count k) s w
    same_constructing c count k s w = same_then _ _ (calls (Construct c) count (Obj k) s w)
        (along n p.tables _ _ (same_taking n p.tables (λ v. put (Obj k)) (λ v. source.put (source_value.Obj k)) (λ v s1 w1. same_put n p.tables (Obj k) s1 w1)))

    same_new_object : (at c count : ℕ) (s : State) (w : World K) → At (make_object p.tables call at c count) (source.make_object q call' at (n.class c) count)
        s w
    same_new_object at c count s w = same_at_start at ours theirs s w
        (same_found n p.tables (slice_get p.tables.classes c) (find_class q.classes (n.class c)) _ (λ k. source.adding (length k.fields)
        (source_value.Object (n.class c) k.fields) (source.constructing call' (n.class c) count))
        (named_class n p.tables c) s w (named.classes c)
        (λ k ek. same_adding (length k.fields) (length (keyed n p.tables k.fields (defaults p.tables k.fields))) (Object c (defaults p.tables k.fields))
        (source_value.Object (n.class c) (keyed n p.tables k.fields (defaults p.tables k.fields))) (constructing call c count)
        (source.constructing call' (n.class c) count)
        (length_keyed n p.tables k.fields (defaults p.tables k.fields) ∙ length_defaults n p.tables k.fields)
        (ap (λ z. source_value.Object (n.class c) (keyed n p.tables (fields_in z) (defaults p.tables k.fields))) ek)
        (same_constructing c count) s w))
      where
        ours : Piece State K
        ours = with_found (slice_get p.tables.classes c) (λ k. adding (length k.fields) (Object c (defaults p.tables k.fields)) (constructing call c count))

        theirs : Piece source_state.State K
        theirs = source.with_found (find_class q.classes (n.class c)) (λ k. source.adding (length k.fields) (source_value.Object (n.class c) k.fields)
            (source.constructing call' (n.class c) count))

    -- ---- one step

    pub same_step : (st : Step) (s : State) (w : World K) → At (step p.tables call st) (source.step q call' (named_step n p.tables st)) s w
    same_step (Put v) s w = same_put n p.tables v s w
    same_step (Literal k) s w = same_found n p.tables (slice_get p.tables.literals k) (slice_get q.literals k) (λ bytes. put (Arr k))
        (λ bytes. source.put (source_value.Arr k)) (λ b. b) s w
        (λ b e. ap (λ z. slice_get z k) named.literals ∙ e) (λ b e. same_put n p.tables (Arr k) s w)
    same_step This s w = same_put n p.tables s.self s w
    same_step (Local k) s w = same_put_found n p.tables (slice_get s.locals k) _ s w (λ v e. slice_get-map (named_value n p.tables) s.locals k
        ∙ ap (option_map (named_value n p.tables)) e)
    same_step (ComponentField f) s w = same_component_field f s w
    same_step (Register a) s w = at_state n p.tables _ _ (same_read a _ _ (λ v. along n p.tables _ _ (same_put n p.tables (Raw 8 v)))) s w
    same_step (ComponentMethod m) s w = same_put n p.tables (Bound None m) s w
    same_step (Apply op t) s w = same_taking n p.tables (applied p.tables op t) (source.applied (prefix_of op))
        (λ v s1 w1. same_applied n p.tables op t v s1 w1) s w
    same_step (Operate at op t u) s w = same_taking n p.tables (λ y. taking (λ x. operated p.tables at op t u x y))
        (λ y. source.taking (λ x. source.operated at (operator_of op) x y))
        (λ y. same_taking n p.tables (λ x. operated p.tables at op t u x y) (λ x. source.operated at (operator_of op) x (named_value n p.tables y))
        (λ x s1 w1. same_operated n p.tables at op t u x y s1 w1)) s w
    same_step (CastTo at t u) s w = same_taking n p.tables (λ v. of_type p.tables t v (cast_to p.tables at u v)) (source.do_cast q at (named_type n p.tables u))
        (λ v s1 w1. same_of_type n p.tables t v (cast_to p.tables at u v) s1 w1 _ (same_cast at u v s1 w1)) s w
    same_step (IsBelow c) s w = same_taking n p.tables (class_test p.tables c) (source.do_test q (n.class c)) (same_test c) s w
    same_step (Field at f) s w = same_taking n p.tables _ (source.get_field at (n.field f).owner (n.field f).name) (same_field at f) s w
    same_step (Item at t) s w = same_taking n p.tables (λ i. taking (λ a. meaning.with_item at t (get_place p.tables) a i))
        (λ i. source.taking (λ a. source.get_item at a i))
        (λ i. same_taking n p.tables (λ a. meaning.with_item at t (get_place p.tables) a i) (λ a. source.get_item at a (named_value n p.tables i))
        (λ a s1 w1. same_get_item at t a i s1 w1)) s w
    same_step (Length at t) s w = same_taking n p.tables (get_length at t) (source.get_length at) (same_length at t) s w
    same_step (MethodOf at c sel) s w = same_taking n p.tables (bind_method p.tables at c sel) (source.bind_method q at (n.selector sel))
        (same_method_of at c sel) s w
    same_step (CallMethod at c sel count) s w = same_call_method at c sel count s w
    same_step (CallValue at count t) s w = same_below n p.tables count (call_bound p.tables call at count t) (source.call_bound call' at count)
        (same_call_bound at count t) s w
    same_step (CallComponent m count) s w = calls (Run m) count Null s w
    same_step (NewObject at c count) s w = same_new_object at c count s w
    same_step (NewArray at t) s w = same_at_start at _ _ s w
        (same_taking n p.tables (with_int (λ m. with_found (slice_get p.tables.types t) (λ e. make_array at t e m)))
        (source.with_int (source.make_array at (type_at n p.tables t))) (same_new_array at t) s w)
    same_step (SetLocal k t) s w = same_taking n p.tables (put_local p.tables k t) (source.put_local k) (same_set_local k t) s w
    same_step (SetComponentField f) s w = same_taking n p.tables (set_place p.tables (field_type p.tables f) (OfComponent f))
        (source.put_global (n.field f).owner (n.field f).name) (same_set_component_field f) s w
    same_step (SetRegister a) s w = same_taking n p.tables (λ v. with_found (byte_of v) (write_device a)) (λ v. source.with_found (source_value.byte_of v)
        (write_device a)) (same_set_register a) s w
    same_step (SetField at f) s w = same_taking n p.tables (λ v. taking (with_object at (λ k. set_place p.tables (field_type p.tables f) (OfObject k f) v)))
        (λ v. source.taking (source.put_field at (n.field f).owner (n.field f).name v))
        (λ v. same_taking n p.tables (with_object at (λ k. set_place p.tables (field_type p.tables f) (OfObject k f) v))
        (source.put_field at (n.field f).owner (n.field f).name (named_value n p.tables v))
        (λ r s1 w1. same_set_field at f v r s1 w1)) s w
    same_step (SetItem at t) s w = same_taking n p.tables
        (λ v. taking (λ i. taking (λ a. meaning.with_item at t (λ x. set_place p.tables (slice_get p.tables.types t) x v) a i)))
        (λ v. source.taking (λ i. source.taking (λ a. source.put_item at v a i)))
        (λ v. same_taking n p.tables (λ i. taking (λ a. meaning.with_item at t (λ x. set_place p.tables (slice_get p.tables.types t) x v) a i))
        (λ i. source.taking (λ a. source.put_item at (named_value n p.tables v) a i))
        (λ i. same_taking n p.tables (λ a. meaning.with_item at t (λ x. set_place p.tables (slice_get p.tables.types t) x v) a i)
        (λ a. source.put_item at (named_value n p.tables v) a (named_value n p.tables i))
        (λ a s1 w1. same_set_item at t v a i s1 w1))) s w
    same_step Forget s w = same_taking n p.tables (λ v. go_on) (λ v. go_on) (λ v s1 w1. gives refl) s w
    same_step (Super c count) s w =
        same_then _ _ (calls (Construct c) count s.self s w) (along n p.tables _ _ (same_taking n p.tables (λ v. go_on) (λ v. go_on) (λ v s1 w1. gives refl)))
