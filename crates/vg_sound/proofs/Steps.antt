-- Each step of a well typed program is never Wrong.
use Rattle.std.proofs.Common.{◌≡◌, ℕ, zero, suc, ◌+◌, ◌==◌, true, List, [], ◌∷◌, ◌++◌, length, replicate, Option, Some, None, slice_get, slice_set}
use Rattle.std.proofs.Common.{refl, sym, ap, ◌∙◌, subst}
use Rattle.std.specs.Prelude.{ℤ, pos, negsuc}
use Rattle.std.proofs.lemmas.List.{length-replicate}
use Rattle.vg_meaning.specs.World.{World, Phase, Starting, Running}
use Rattle.vg_meaning.specs.Answer.{OutOfRoom, Gives, Piece, go_on, passes}
use Rattle.vg_meaning.specs.Devices.{write_device}
use Rattle.vg_meaning.specs.Safe.{Safe, gives, overs, NoWay, IsRight}
use Rattle.vg_meaning_laws.proofs.Safe.{safe_then, safe_weaker, safe_unless, safe_read, safe_write}
use Rattle.vg_core.specs.declared.types.CoreType.{CoreType}
use Rattle.vg_core.specs.declared.types.CoreType.TheVariants.{IntType, BoolType, RawType, ClassType, ArrayType, FunctionType, NoType, MoreTypes}
use Rattle.vg_core.specs.declared.value.CoreValue.{CoreValue}
use Rattle.vg_core.specs.declared.value.CoreValue.TheVariants.{Int, Raw, Null, Obj, Arr, Bound}
use Rattle.vg_core.specs.declared.heap.Cell.{Cell}
use Rattle.vg_core.specs.declared.heap.Cell.TheVariants.{Object, Array}
use Rattle.vg_core.specs.declared.step.Step.{Step}
use Rattle.vg_core.specs.declared.program.Owner.{Owner}
use Rattle.vg_core.specs.declared.program.Owner.TheVariants.{InClass, InComponent}
use Rattle.vg_core.specs.declared.program.Field.{Field}
use Rattle.vg_core.specs.declared.program.Method.{Method}
use Rattle.vg_core.specs.declared.program.Class.{Class}
use Rattle.vg_core.specs.declared.program.Tables.{Tables}
use Rattle.vg_core.specs.Tables.{is_below, dispatch, slot_in, type_in, field_type, function_of, IsRow}
use Rattle.vg_core.specs.declared.program.Target.TheVariants.{Run, Construct}
use Rattle.vg_core.specs.Program.{method_signature, making_signature}
use Rattle.vg_core.specs.Operators.{byte_of}
use Rattle.vg_core.specs.Heap.{Kind, ObjectOf, ArrayOf, default, stored_values, OfComponent, OfObject}
use Rattle.vg_core.specs.State.{State, onto}
use Rattle.vg_core.specs.Meaning.{put, take_from, taking, from_below, with_found, checked, of_type, with_int, with_object, with_item, operated, applied}
use Rattle.vg_core.specs.Meaning.{cast_to, class_test, get_place, set_place, put_local, get_length}
use Rattle.vg_core.specs.Meaning.{Caller, bind_method, call_method, receiver_of, call_bound, forgetting, at_start, adding, constructing, defaults}
use Rattle.vg_core.specs.Meaning.{make_object, make_array, step}
use Rattle.vg_core.specs.Types.{Extends, IsObject, ReceiverOf, IsDelegate, HasType, HasTypes, AllHave, IsKind, SelfOf}
use Rattle.vg_core.specs.Typing.{Sub, Subs, Overrides, HasFunction, WellFormed, Takes, t_put, t_literal, t_this, t_local, t_component_field, t_register}
use Rattle.vg_core.specs.Typing.{t_component_method}
use Rattle.vg_core.specs.Typing.{t_apply, t_operate, t_cast, t_is_below, t_field, t_item, t_length, t_method_of, t_call_method, t_call_value, t_call_component}
use Rattle.vg_core.specs.Typing.{t_new_object, t_new_array, t_set_local, t_set_component_field, t_set_register, t_set_field, t_set_item, t_forget, t_super}
use Rattle.vg_sound.specs.Good.{Good, GoodAt, Leads, CallsRight}
use Rattle.vg_sound.proofs.Values.{the_same, none_some, eq_true, more, all_more, self_more, default_typed, get, set, fits, raw_of}
use Rattle.vg_sound.proofs.Cells.{longer, grows, last_cell, one_more_cell, component_place, object_place, fresh_fields}
use Rattle.vg_sound.proofs.Pieces.{found, holds, weaker, with_values, safe_put, safe_put_found, safe_taking, safe_taking_two, safe_taking_three, safe_below}
use Rattle.vg_sound.proofs.Pieces.{safe_of_type, safe_object_of, safe_object, safe_array, safe_item, safe_get_place, safe_set_place}
use Rattle.vg_sound.proofs.Computing.{safe_operated, safe_applied, safe_cast, safe_test}

-- ---- signatures

module _ (p : Tables) (formed : WellFormed p) where
  -- the types of a row are determined
  one_row : (ts us : List CoreType) (n : ℕ) → IsRow p ts n → IsRow p us n → ts ≡ us
  one_row [] [] n h g = refl
  one_row (t ∷ ts) (u ∷ us) n (a, b, e, f, h) (c, d, e', f', g) =
      let same : MoreTypes a b ≡ MoreTypes c d = the_same _ _ (sym e ∙ e') in
      by (first same) (rest same) (one_row ts us b h (subst (IsRow p us) (sym (rest same)) g))
    where
      first : MoreTypes a b ≡ MoreTypes c d → a ≡ c
      first q = cc

      rest : MoreTypes a b ≡ MoreTypes c d → b ≡ d
      rest q = cc

      by : a ≡ c → b ≡ d → ts ≡ us → t ∷ ts ≡ u ∷ us
      by q r s = ap (λ z. z ∷ ts) (the_same _ _ (sym f ∙ (ap (slice_get p.types) q ∙ f'))) ∙ ap (λ z. u ∷ z) s
  one_row [] (u ∷ us) n h (c, d, e, f, g) = absurd (let clash : Some NoType ≡ Some (MoreTypes c d) = sym h ∙ e in cc)
  one_row (t ∷ ts) [] n (a, b, e, f, g) h = absurd (let clash : Some NoType ≡ Some (MoreTypes a b) = sym h ∙ e in cc)

  -- a method of this function type has these parameters and this result
  signature_is : (y : Method) (ps r : ℕ) (params : List CoreType) (t : CoreType) → HasFunction p y → function_of p y ≡ Some (FunctionType ps r)
      → IsRow p params ps → slice_get p.types r ≡ Some t → (y.params ≡ params) × (y.result ≡ t)
  signature_is y ps r params t (qs, q, e, row, res) ef h et =
      let same : FunctionType qs q ≡ FunctionType ps r = the_same _ _ (sym e ∙ ef) in
      (one_row y.params params ps (subst (IsRow p y.params) (front_of same) row) h, the_same _ _ (sym res ∙ (ap (slice_get p.types) (back_of same) ∙ et)))
    where
      front_of : FunctionType qs q ≡ FunctionType ps r → qs ≡ ps
      front_of z = cc

      back_of : FunctionType qs q ≡ FunctionType ps r → q ≡ r
      back_of z = cc

  -- two methods of one function type have the same parameters and the same result
  same_signature : (y z : Method) → HasFunction p y → HasFunction p z → z.function ≡ y.function → (z.params ≡ y.params) × (z.result ≡ y.result)
  same_signature y z (ps, r, e, row, res) h q = signature_is z ps r y.params y.result h (ap (slice_get p.types) q ∙ e) row res

  -- ---- values and states

  -- an object of a class is one of the class that declares the field
  upward : (κ : List Kind) (k d e : ℕ) → is_below p d e ≡ true → IsObject p κ k d → IsObject p κ k e
  upward κ k d e eb (c, ek, ec) = (c, ek, formed.trans c d e ec eb)

  all_default : (κ : List Kind) (e : CoreType) (n : ℕ) → AllHave p κ e (replicate n (default e))
  all_default κ e zero = tt
  all_default κ e (suc n) = (default_typed p κ e, all_default κ e n)

  -- a receiver that fits an owner is one for its bodies
  self_of : (κ : List Kind) (receiver : Option ℕ) (own : Owner) → ReceiverOf p κ receiver own → SelfOf p κ (receiver_of receiver) own
  self_of κ None (InComponent k) h = tt
  self_of κ (Some r) (InClass d) h = (r, refl, h)
  self_of κ None (InClass d) h = absurd h
  self_of κ (Some r) (InComponent k) h = absurd h

  nothing_yet : (κ : List Kind) → Extends [] κ
  nothing_yet κ k a e = none_some a e

  -- a heap with one more cell
  added : (κ0 : List Kind) (ts : List CoreType) (o : Owner) (x : List CoreType) (s : State) (a : Kind) (c : Cell) → (g : Good p κ0 ts o x s)
      → IsKind p (longer p g.kinds a) c a
      → (new : Good p κ0 ts o x (record s { heap = record s.heap { cells = s.heap.cells ++ c ∷ [] } })) × (slice_get new.kinds (length s.heap.cells) ≡ Some a)
  added κ0 ts o x s a c g h = (
    record {
      kinds = longer p g.kinds a;
      grown = λ k b q. grows p g.kinds a k b (g.grown k b q);
      heap = one_more_cell p g.kinds s.heap a c g.heap h;
      values = all_more p g.kinds (longer p g.kinds a) (grows p g.kinds a) s.values x g.values;
      locals = all_more p g.kinds (longer p g.kinds a) (grows p g.kinds a) s.locals ts g.locals;
      self = self_more p g.kinds (longer p g.kinds a) (grows p g.kinds a) s.self o g.self;
    },
    last_cell p g.kinds g.kinds s.heap.cells a g.heap.cells,
  )

  module _ {K : Type 0} (κ0 : List Kind) (ts : List CoreType) (o : Owner) where
    abbrev From : List CoreType → List CoreType → Piece State K → Type 0
    From x y f = Leads p κ0 ts o x y f

    -- ---- values and places

    safe_this : (x : List CoreType) (c : ℕ) → o ≡ InClass c → (s : State) (w : World K) → Good p κ0 ts o x s
        → Safe (GoodAt p κ0 ts o (ClassType c ∷ x)) NoWay IsRight (put s.self s w)
    safe_this x c e s w g = by (subst (SelfOf p g.kinds s.self) e g.self)
      where
        by : SelfOf p g.kinds s.self (InClass c) → Safe (GoodAt p κ0 ts o (ClassType c ∷ x)) NoWay IsRight (put s.self s w)
        by (k, q, h) = safe_put p κ0 ts o x s.self (ClassType c) s w g (subst (λ v. HasType p g.kinds v (ClassType c)) (sym q) h)

    safe_field : (x : List CoreType) (at f d e : ℕ) (y : Field) → slice_get p.fields f ≡ Some y → y.owner ≡ InClass e → is_below p d e ≡ true
        → From (ClassType d ∷ x) (y.type_ ∷ x) (taking (with_object at (λ k. get_place p (OfObject k f))))
    safe_field x at f d e y ey eo eb = safe_taking p κ0 ts o (ClassType d) x (y.type_ ∷ x) _
        (λ v s w g h. safe_object p κ0 ts o x at d (λ k. get_place p (OfObject k f)) v s w g h
        (λ k b. safe_get_place p κ0 ts o formed x (OfObject k f) y.type_ s w g (object_place y ey eo (upward g.kinds k d e eb b))))

    safe_set_field : (x : List CoreType) (at f d e : ℕ) (u : CoreType) (y : Field) → slice_get p.fields f ≡ Some y → y.owner ≡ InClass e
        → is_below p d e ≡ true → Sub p u y.type_
        → From (u ∷ ClassType d ∷ x) x (taking (λ v. taking (with_object at (λ k. set_place p (field_type p f) (OfObject k f) v))))
    safe_set_field x at f d e u y ey eo eb sub = safe_taking_two p κ0 ts o (ClassType d) u x x
        (λ v. with_object at (λ k. set_place p (field_type p f) (OfObject k f) v))
        (λ v r s w g hv hr. safe_object p κ0 ts o x at d (λ k. set_place p (field_type p f) (OfObject k f) v) r s w g hr
        (λ k b. safe_set_place p κ0 ts o formed x (OfObject k f) (field_type p f) y.type_ v s w g (ap type_in ey)
        (object_place y ey eo (upward g.kinds k d e eb b)) (fits p formed g.kinds u y.type_ sub v hv)))

    safe_set_local : (x : List CoreType) (k : ℕ) (t u : CoreType) → slice_get ts k ≡ Some t → Sub p u t → From (u ∷ x) x (taking (put_local p k t))
    safe_set_local x k t u e sub = safe_taking p κ0 ts o u x x (put_local p k t)
        (λ v s w g h. safe_of_type p κ0 ts o x t v _ s w g (fits p formed g.kinds u t sub v h) (by v s w g (fits p formed g.kinds u t sub v h)
        (get p g.kinds s.locals ts k t g.locals e)))
      where
        by : (v : CoreValue) (s : State) (w : World K) (g : Good p κ0 ts o x s) → HasType p g.kinds v t
            → ((old : CoreValue) × (slice_get s.locals k ≡ Some old) × HasType p g.kinds old t)
            → Safe (GoodAt p κ0 ts o x) NoWay IsRight (with_found (slice_get s.locals k) (λ old s1 w1. Gives (record s1 { locals = slice_set s1.locals k v })
            w1) s w)
        by v s w g a (old, eo, b) = found (slice_get s.locals k) old (λ old s1 w1. Gives (record s1 { locals = slice_set s1.locals k v }) w1) s w eo
            (gives (record {
              kinds = g.kinds;
              grown = g.grown;
              heap = g.heap;
              values = g.values;
              self = g.self;
              locals = set p g.kinds s.locals ts k v t g.locals e a;
            }))

    safe_set_register : (x : List CoreType) (a : ℕ) → From (RawType 8 ∷ x) x (taking (λ v. with_found (byte_of v) (write_device a)))
    safe_set_register x a = safe_taking p κ0 ts o (RawType 8) x x (λ v. with_found (byte_of v) (write_device a))
        (λ v s w g h. by v s w g (raw_of p g.kinds v 8 h))
      where
        by : (v : CoreValue) (s : State) (w : World K) (g : Good p κ0 ts o x s) → ((n : ℕ) × (v ≡ Raw 8 n))
            → Safe (GoodAt p κ0 ts o x) NoWay IsRight (with_found (byte_of v) (write_device a) s w)
        by v s w g (n, e) = found (byte_of v) n (write_device a) s w (ap byte_of e)
            (safe_write (GoodAt p κ0 ts o x) NoWay IsRight a n (λ s1 h1 q. tt) s w g)

    -- ---- making

    -- the cell is of this kind whatever cells are added
    safe_adding : (x y : List CoreType) (size : ℕ) (a : Kind) (c : Cell) (go : ℕ → Piece State K) → ((κ : List Kind) → IsKind p κ c a)
        → ((k : ℕ) (s : State) (w : World K) → (g : Good p κ0 ts o x s) → slice_get g.kinds k ≡ Some a → Safe (GoodAt p κ0 ts o y) NoWay IsRight (go k s w))
        → From x y (adding size c go)
    safe_adding x y size a c go is k s w g =
        safe_unless (GoodAt p κ0 ts o x) (GoodAt p κ0 ts o y) NoWay IsRight (passes w.largest (stored_values s.heap + 1 + size)) OutOfRoom
        (λ s1. go (length s1.heap.cells) (record s1 { heap = record s1.heap { cells = s1.heap.cells ++ c ∷ [] } })) (λ s1 h1 q. tt)
        (λ s1 w1 g1. let new = added κ0 ts o x s1 a c g1 (is (longer p g1.kinds a)) in k (length s1.heap.cells) _ w1 new.0 new.1) s w g

    safe_at_start : (x y : List CoreType) (at : ℕ) (go : Piece State K) → From x y go → (s : State) (w : World K) → Good p κ0 ts o x s
        → Safe (GoodAt p κ0 ts o y) NoWay IsRight (at_start w.phase at go s w)
    safe_at_start x y at go k s w g = by w.phase
      where
        by : (ph : Phase) → Safe (GoodAt p κ0 ts o y) NoWay IsRight (at_start ph at go s w)
        by Running = overs tt
        by Starting = k s w g

    safe_new_array : (x : List CoreType) (at t : ℕ) (e : CoreType) → slice_get p.types t ≡ Some e
        → From (IntType ∷ x) (ArrayType t ∷ x) (taking (with_int (λ n. with_found (slice_get p.types t) (λ z. make_array at t z n))))
    safe_new_array x at t e et = safe_taking p κ0 ts o IntType x (ArrayType t ∷ x)
        (with_int (λ n. with_found (slice_get p.types t) (λ z. make_array at t z n))) by
      where
        made : (n : ℤ) → From x (ArrayType t ∷ x) (make_array at t e n)
        made (negsuc n) s w g = overs tt
        made (pos n) s w g =
            safe_adding x (ArrayType t ∷ x) n (ArrayOf t n) (Array t (replicate n (default e))) (λ a. put (Arr a))
            (λ κ. (refl, length-replicate n (default e), e, et, all_default κ e n))
            (λ k s1 w1 g1 ek. safe_put p κ0 ts o x (Arr k) (ArrayType t) s1 w1 g1 (n, ek)) s w g

        by : (v : CoreValue) (s : State) (w : World K) (g : Good p κ0 ts o x s) → HasType p g.kinds v IntType
            → Safe (GoodAt p κ0 ts o (ArrayType t ∷ x)) NoWay IsRight (with_int (λ n. with_found (slice_get p.types t) (λ z. make_array at t z n)) v s w)
        by (Int n) s w g h = found (slice_get p.types t) e (λ z. make_array at t z n) s w et (made n s w g)
        by _ s w g h = absurd h

    -- ---- calls

    module _ (call : Caller K) (calls : CallsRight p call) where
      -- the construction of a new object
      safe_constructing : (x : List CoreType) (c : ℕ) (k : Class) (us : List CoreType) → slice_get p.classes c ≡ Some k → Subs p us (onto k.params [])
          → (j : ℕ) (s : State) (w : World K) → (g : Good p κ0 ts o (us ++ x) s) → slice_get g.kinds j ≡ Some (ObjectOf c)
          → Safe (GoodAt p κ0 ts o (ClassType c ∷ x)) NoWay IsRight (constructing call c (length us) j s w)
      safe_constructing x c k us ek subs j s w g ej =
          safe_then (taking (λ v. put (Obj j)))
          (safe_weaker
          (calls g.kinds ts o us x (Construct c) (record { owner = InClass c; params = k.params; result = NoType }) (ap (making_signature c) ek) subs
          (Obj j) s w
          (record { kinds = g.kinds; grown = λ i a q. q; heap = g.heap; values = g.values; locals = g.locals; self = g.self })
          (j, refl, (c, ej, formed.itself c k ek)))
          (λ s1 h1 g1. (weaker p κ0 g.kinds ts o (NoType ∷ x) s1 g.grown g1, g1.grown j (ObjectOf c) ej)) (λ why s1 h1 n. n) (λ why h1 q. q))
          after
        where
          Made : State → K → Type 0
          Made s1 h1 = (g1 : Good p κ0 ts o (NoType ∷ x) s1) × (slice_get g1.kinds j ≡ Some (ObjectOf c))

          after : (s1 : State) (w1 : World K) → Made s1 w1.history → Safe (GoodAt p κ0 ts o (ClassType c ∷ x)) NoWay IsRight (taking (λ v. put (Obj j)) s1 w1)
          after s1 w1 (g1, e1) = by s1.values g1.values
            where
              by : (vs : List CoreValue) → HasTypes p g1.kinds vs (NoType ∷ x) → Safe (GoodAt p κ0 ts o (ClassType c ∷ x)) NoWay IsRight
                  (take_from vs (λ v. put (Obj j)) s1 w1)
              by [] h = absurd h
              by (v ∷ vs) (a, h) = safe_put p κ0 ts o x (Obj j) (ClassType c) (record s1 { values = vs }) w1 (with_values p κ0 ts o (NoType ∷ x) x s1 vs g1 h)
                  (c, e1, formed.itself c k ek)

      -- a new object
      safe_new_object : (x : List CoreType) (at c : ℕ) (k : Class) (us : List CoreType) → slice_get p.classes c ≡ Some k → Subs p us (onto k.params [])
          → From (us ++ x) (ClassType c ∷ x) (make_object p call at c (length us))
      safe_new_object x at c k us ek subs s w g =
          safe_at_start (us ++ x) (ClassType c ∷ x) at
          (with_found (slice_get p.classes c) (λ z. adding (length z.fields) (Object c (defaults p z.fields)) (constructing call c (length us))))
          (λ s1 w1 g1. found (slice_get p.classes c) k (λ z. adding (length z.fields) (Object c (defaults p z.fields)) (constructing call c (length us)))
          s1 w1 ek
          (safe_adding (us ++ x) (ClassType c ∷ x) (length k.fields) (ObjectOf c) (Object c (defaults p k.fields)) (constructing call c (length us))
          (λ κ. (refl, k, ek, fresh_fields p formed κ k.fields (λ i f e. there (slice_get p.fields f) ((formed.slots c i f k ek).0 e))))
          (safe_constructing x c k us ek subs) s1 w1 g1)) s w g
        where
          there : {i : ℕ} (z : Option Field) → slot_in p c z ≡ Some i → (y : Field) × (z ≡ Some y)
          there None e = none_some _ e
          there (Some y) e = (y, refl)

      -- the call of a method that an object has
      safe_call_method : (x : List CoreType) (at d sel m : ℕ) (y : Method) (us : List CoreType) → dispatch p d sel ≡ Some m → slice_get p.methods m ≡ Some y
          → Subs p us (onto y.params []) → From (us ++ ClassType d ∷ x) (y.result ∷ x) (call_method p call at d sel (length us))
      safe_call_method x at d sel m y us em ey subs = safe_below p κ0 ts o us (ClassType d) x (y.result ∷ x) _
          (λ v s w g h. safe_object_of p κ0 ts o (us ++ x) at d (λ k c. with_found (dispatch p c sel) (λ n. call (Run n) (length us) (Obj k))) v s w g h
          (λ k c ek eb. by s w g k c ek (formed.overrides c d sel m y eb em ey)))
        where
          by : (s : State) (w : World K) (g : Good p κ0 ts o (us ++ x) s) (k c : ℕ) → slice_get g.kinds k ≡ Some (ObjectOf c) → Overrides p c sel y
              → Safe (GoodAt p κ0 ts o (y.result ∷ x)) NoWay IsRight (with_found (dispatch p c sel) (λ n. call (Run n) (length us) (Obj k)) s w)
          by s w g k c ek (n, e, z, en, ez, ef, eo, eb) = let q = same_signature y z (formed.functions m y ey) (formed.functions n z ez) ef in
              found (dispatch p c sel) n (λ n. call (Run n) (length us) (Obj k)) s w en
              (subst (λ r. Safe (GoodAt p κ0 ts o (r ∷ x)) NoWay IsRight (call (Run n) (length us) (Obj k) s w)) q.1
              (calls κ0 ts o us x (Run n) (record { owner = z.owner; params = z.params; result = z.result }) (ap method_signature ez)
              (subst (λ ps. Subs p us (onto ps [])) (sym q.0) subs) (Obj k) s w g (subst (SelfOf p g.kinds (Obj k)) (sym eo) (k, refl, (c, ek, eb)))))

      -- a method of an object as a value
      safe_method_of : (x : List CoreType) (at d sel ps r m : ℕ) (y : Method) → dispatch p d sel ≡ Some m → slice_get p.methods m ≡ Some y
          → function_of p y ≡ Some (FunctionType ps r) → From (ClassType d ∷ x) (FunctionType ps r ∷ x) (taking (bind_method p at d sel))
      safe_method_of x at d sel ps r m y em ey ef = safe_taking p κ0 ts o (ClassType d) x (FunctionType ps r ∷ x) (bind_method p at d sel)
          (λ v s w g h. safe_object_of p κ0 ts o x at d (λ k c. with_found (dispatch p c sel) (λ n. put (Bound (Some k) n))) v s w g h
          (λ k c ek eb. by s w g k c ek (formed.overrides c d sel m y eb em ey)))
        where
          by : (s : State) (w : World K) (g : Good p κ0 ts o x s) (k c : ℕ) → slice_get g.kinds k ≡ Some (ObjectOf c) → Overrides p c sel y
              → Safe (GoodAt p κ0 ts o (FunctionType ps r ∷ x)) NoWay IsRight (with_found (dispatch p c sel) (λ n. put (Bound (Some k) n)) s w)
          by s w g k c ek (n, e, z, en, ez, eq, eo, eb) =
              found (dispatch p c sel) n (λ n. put (Bound (Some k) n)) s w en
              (safe_put p κ0 ts o x (Bound (Some k) n) (FunctionType ps r) s w g
              (z, ez, ap (slice_get p.types) eq ∙ ef, subst (ReceiverOf p g.kinds (Some k)) (sym eo) (c, ek, eb)))

      -- the call of a delegate
      safe_call_value : (x : List CoreType) (at f ps r : ℕ) (t : CoreType) (params us : List CoreType) → slice_get p.types f ≡ Some (FunctionType ps r)
          → IsRow p params ps → slice_get p.types r ≡ Some t → Subs p us (onto params [])
          → From (us ++ FunctionType ps r ∷ x) (t ∷ x) (from_below (length us) (call_bound p call at (length us) f))
      safe_call_value x at f ps r t params us ef row et subs = safe_below p κ0 ts o us (FunctionType ps r) x (t ∷ x) (call_bound p call at (length us) f) by
        where
          bound : (receiver : Option ℕ) (m : ℕ) (s : State) (w : World K) (g : Good p κ0 ts o (us ++ x) s) → IsDelegate p g.kinds receiver m ps r
              → Safe (GoodAt p κ0 ts o (t ∷ x)) NoWay IsRight (call_bound p call at (length us) f (Bound receiver m) s w)
          bound receiver m s w g (y, ey, eg, h) = let q = signature_is y ps r params t (formed.functions m y ey) eg row et in
              found (slice_get p.methods m) y (λ z. checked (z.function == f) (call (Run m) (length us) (receiver_of receiver))) s w ey
              (holds (y.function == f) (call (Run m) (length us) (receiver_of receiver)) s w
              (eq_true y.function f (formed.one_number y.function f (FunctionType ps r) eg ef))
              (subst (λ z. Safe (GoodAt p κ0 ts o (z ∷ x)) NoWay IsRight (call (Run m) (length us) (receiver_of receiver) s w)) q.1
              (calls κ0 ts o us x (Run m) (record { owner = y.owner; params = y.params; result = y.result }) (ap method_signature ey)
              (subst (λ z. Subs p us (onto z [])) (sym q.0) subs) (receiver_of receiver) s w g (self_of g.kinds receiver y.owner h))))

          by : (v : CoreValue) (s : State) (w : World K) (g : Good p κ0 ts o (us ++ x) s) → HasType p g.kinds v (FunctionType ps r)
              → Safe (GoodAt p κ0 ts o (t ∷ x)) NoWay IsRight (call_bound p call at (length us) f v s w)
          by Null s w g h = overs tt
          by (Bound receiver m) s w g h = bound receiver m s w g h
          by _ s w g h = absurd h

      -- the construction of a class above
      safe_super : (x : List CoreType) (c d : ℕ) (k : Class) (us : List CoreType) → slice_get p.classes c ≡ Some k → Subs p us (onto k.params [])
          → o ≡ InClass d → is_below p d c ≡ true → (s : State) (w : World K) → Good p κ0 ts o (us ++ x) s
          → Safe (GoodAt p κ0 ts o x) NoWay IsRight (forgetting (call (Construct c) (length us) s.self) s w)
      safe_super x c d k us ek subs eo eb s w g =
          safe_then (taking (λ v. go_on))
          (calls κ0 ts o us x (Construct c) (record { owner = InClass c; params = k.params; result = NoType }) (ap (making_signature c) ek) subs s.self s w g
          (by (subst (SelfOf p g.kinds s.self) eo g.self)))
          (safe_taking p κ0 ts o NoType x x (λ v. go_on) (λ v s1 w1 g1 h. gives g1))
        where
          by : SelfOf p g.kinds s.self (InClass d) → SelfOf p g.kinds s.self (InClass c)
          by (j, q, h) = (j, q, upward g.kinds j d c eb h)

      -- ---- one step

      literal_there : (x : List CoreType) (k : ℕ) (bytes : List ℕ) → slice_get p.literals k ≡ Some bytes
          → From x (ArrayType p.char_type ∷ x) (with_found (slice_get p.literals k) (λ z. put (Arr k)))
      literal_there x k bytes e s w g = found (slice_get p.literals k) bytes (λ z. put (Arr k)) s w e
          (safe_put p κ0 ts o x (Arr k) (ArrayType p.char_type) s w g (length bytes, g.heap.literals k bytes e))

      pub safe_step : (st : Step) (x y : List CoreType) → Takes p ts o st x y → From x y (step p call st)
      safe_step _ x _ (t_put {v = v} {t = t} h) s w g = safe_put p κ0 ts o x v t s w g (more p [] g.kinds (nothing_yet g.kinds) v t h)
      safe_step _ x _ (t_literal {k = k} bytes e) s w g = literal_there x k bytes e s w g
      safe_step _ x _ (t_this {c = c} e) s w g = safe_this x c e s w g
      safe_step _ x _ (t_local {k = k} {t = t} e) s w g = safe_put_found p κ0 ts o x t s w (slice_get s.locals k) g (get p g.kinds s.locals ts k t g.locals e)
      safe_step _ x _ (t_component_field {f = f} {k = k} y ey eo) s w g =
          safe_get_place p κ0 ts o formed x (OfComponent f) y.type_ s w g (component_place y ey eo)
      safe_step _ x _ (t_register {a = a}) s w g =
          safe_read (GoodAt p κ0 ts o x) (GoodAt p κ0 ts o (RawType 8 ∷ x)) NoWay IsRight a (λ v. put (Raw 8 v)) (λ s1 h1 q. tt) (λ s1 h1 q. tt)
          (λ v s1 w1 g1. safe_put p κ0 ts o x (Raw 8 v) (RawType 8) s1 w1 g1 refl) s w g
      safe_step _ x _ (t_component_method {m = m} {k = k} {ps = ps} {r = r} y ey eo ef) s w g =
          safe_put p κ0 ts o x (Bound None m) (FunctionType ps r) s w g (y, ey, ef, subst (ReceiverOf p g.kinds None) (sym eo) tt)
      safe_step _ _ _ (t_apply {op = op} {t = t} {x = x} h) s w g =
          safe_taking p κ0 ts o t x (t ∷ x) (applied p op t) (λ v s1 w1 g1 a. safe_applied p κ0 ts o x s1 w1 g1 op t h v a) s w g
      safe_step _ _ _ (t_operate {at = at} {op = op} {t = t} {u = u} {r = r} {x = x} h) s w g =
          safe_taking_two p κ0 ts o t u x (r ∷ x) (λ b a. operated p at op t u a b)
          (λ b a s1 w1 g1 hb ha. safe_operated p κ0 ts o x s1 w1 g1 at op t u r h a b ha hb) s w g
      safe_step _ _ _ (t_cast {at = at} {t = t} {u = u} {x = x} h) s w g =
          safe_taking p κ0 ts o t x (u ∷ x) (λ v. of_type p t v (cast_to p at u v))
          (λ v s1 w1 g1 a. safe_of_type p κ0 ts o x t v (cast_to p at u v) s1 w1 g1 a (safe_cast p κ0 ts o x s1 w1 g1 formed at t u h v a)) s w g
      safe_step _ _ _ (t_is_below {c = c} {d = d} {x = x} h) s w g =
          safe_taking p κ0 ts o (ClassType c) x (BoolType ∷ x) (class_test p d) (λ v s1 w1 g1 a. safe_test p κ0 ts o x s1 w1 g1 formed c d h v a) s w g
      safe_step _ _ _ (t_field {at = at} {f = f} {d = d} {e = e} {x = x} y ey eo eb) s w g = safe_field x at f d e y ey eo eb s w g
      safe_step _ _ _ (t_item {at = at} {t = t} {e = e} {x = x} et) s w g =
          safe_taking_two p κ0 ts o (ArrayType t) IntType x (e ∷ x) (λ i a. with_item at t (get_place p) a i)
          (λ i a s1 w1 g1 hi ha. safe_item p κ0 ts o x at t e (get_place p) a i s1 w1 g1 et ha hi (λ z h. safe_get_place p κ0 ts o formed x z e s1 w1 g1 h))
          s w g
      safe_step _ _ _ (t_length {at = at} {t = t} {x = x}) s w g =
          safe_taking p κ0 ts o (ArrayType t) x (IntType ∷ x) (get_length at t)
          (λ v s1 w1 g1 a. safe_array p κ0 ts o x at t (λ k vs. put (Int (pos (length vs)))) v s1 w1 g1 a
          (λ k vs e. safe_put p κ0 ts o x (Int (pos (length vs))) IntType s1 w1 g1 tt)) s w g
      safe_step _ _ _ (t_method_of {at = at} {d = d} {s = sel} {ps = ps} {r = r} {x = x} m y em ey ef) s w g =
          safe_method_of x at d sel ps r m y em ey ef s w g
      safe_step _ _ _ (t_call_method {at = at} {d = d} {s = sel} {x = x} m y us em ey subs) s w g = safe_call_method x at d sel m y us em ey subs s w g
      safe_step _ _ _ (t_call_value {at = at} {f = f} {ps = ps} {r = r} {t = t} {x = x} params us ef row et subs) s w g =
          safe_call_value x at f ps r t params us ef row et subs s w g
      safe_step _ _ _ (t_call_component {m = m} {x = x} y us ey eo subs) s w g =
          calls κ0 ts o us x (Run m) (record { owner = y.owner; params = y.params; result = y.result }) (ap method_signature ey) subs Null s w g
          (subst (SelfOf p g.kinds Null) (sym eo) tt)
      safe_step _ _ _ (t_new_object {at = at} {c = c} {x = x} k us ek subs) s w g = safe_new_object x at c k us ek subs s w g
      safe_step _ _ _ (t_new_array {at = at} {t = t} {e = e} {x = x} et) s w g =
          safe_at_start (IntType ∷ x) (ArrayType t ∷ x) at _ (safe_new_array x at t e et) s w g
      safe_step _ _ x (t_set_local {k = k} {t = t} {u = u} e sub) s w g = safe_set_local x k t u e sub s w g
      safe_step _ _ x (t_set_component_field {f = f} {k = k} {u = u} y ey eo sub) s w g =
          safe_taking p κ0 ts o u x x (set_place p (field_type p f) (OfComponent f))
          (λ v s1 w1 g1 h. safe_set_place p κ0 ts o formed x (OfComponent f) (field_type p f) y.type_ v s1 w1 g1 (ap type_in ey) (component_place y ey eo)
          (fits p formed g1.kinds u y.type_ sub v h)) s w g
      safe_step _ _ x (t_set_register {a = a}) s w g = safe_set_register x a s w g
      safe_step _ _ x (t_set_field {at = at} {f = f} {d = d} {e = e} {u = u} y ey eo eb sub) s w g = safe_set_field x at f d e u y ey eo eb sub s w g
      safe_step _ _ x (t_set_item {at = at} {t = t} {e = e} {u = u} et sub) s w g =
          safe_taking_three p κ0 ts o (ArrayType t) IntType u x x (λ v i a. with_item at t (λ z. set_place p (slice_get p.types t) z v) a i)
          (λ v i a s1 w1 g1 hv hi ha. safe_item p κ0 ts o x at t e (λ z. set_place p (slice_get p.types t) z v) a i s1 w1 g1 et ha hi
          (λ z h. safe_set_place p κ0 ts o formed x z (slice_get p.types t) e v s1 w1 g1 et h (fits p formed g1.kinds u e sub v hv))) s w g
      safe_step _ _ x (t_forget {t = t}) s w g = safe_taking p κ0 ts o t x x (λ v. go_on) (λ v s1 w1 g1 h. gives g1) s w g
      safe_step _ _ x (t_super {c = c} {d = d} k us ek subs eo eb) s w g = safe_super x c d k us ek subs eo eb s w g
