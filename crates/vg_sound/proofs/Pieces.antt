-- Pieces that are never Wrong: values that wait, checks, places.
use Rattle.std.proofs.Common.{◌≡◌, ℕ, ◌+◌, ◌==◌, Bool, true, false, List, [], ◌∷◌, ◌++◌, length, take, drop, Option, Some, slice_get}
use Rattle.std.proofs.Common.{refl, sym, ap, ◌∙◌, subst}
use Rattle.std.specs.Prelude.{ℤ, pos, negsuc, nat_lt}
use Rattle.std.proofs.lemmas.Bool.{ltb-true}
use Rattle.vg_meaning.specs.World.{World}
use Rattle.vg_meaning.specs.Answer.{Gives, Piece}
use Rattle.vg_meaning.specs.Safe.{Safe, gives, overs, NoWay, IsRight}
use Rattle.vg_core.specs.declared.types.CoreType.{CoreType}
use Rattle.vg_core.specs.declared.types.CoreType.TheVariants.{IntType, ClassType, ArrayType}
use Rattle.vg_core.specs.declared.value.CoreValue.{CoreValue}
use Rattle.vg_core.specs.declared.value.CoreValue.TheVariants.{Int, Null, Obj, Arr}
use Rattle.vg_core.specs.declared.heap.Cell.TheVariants.{Object, Array}
use Rattle.vg_core.specs.declared.heap.Heap.{Heap}
use Rattle.vg_core.specs.declared.program.Owner.{Owner}
use Rattle.vg_core.specs.declared.program.Class.{Class}
use Rattle.vg_core.specs.declared.program.Tables.{Tables}
use Rattle.vg_core.specs.Tables.{is_below}
use Rattle.vg_core.specs.Heap.{Kind, ObjectOf, ArrayOf, Place, OfArray, class_in, value_at, set_at}
use Rattle.vg_core.specs.State.{State, is_of}
use Rattle.vg_core.specs.Meaning.{put, take_from, taking, with_found, from_below, checked, of_type, stop_unless, with_int, with_class, with_object}
use Rattle.vg_core.specs.Meaning.{with_object_of}
use Rattle.vg_core.specs.Meaning.{in_array, with_array, with_index, with_item, put_found, get_place, set_place}
use Rattle.vg_core.specs.Types.{Extends, IsObject, HasType, HasTypes, HasFields, AllHave}
use Rattle.vg_core.specs.Typing.{WellFormed}
use Rattle.vg_sound.specs.Good.{TypedHeap, Good, GoodAt, Leads}
use Rattle.vg_sound.proofs.Values.{eq_refl, beneath}
use Rattle.vg_sound.proofs.Cells.{object, array, is_typed, PlaceOf, array_place, get_typed, set_typed}

-- ---- any predicate

module _ {K : Type 0} {G : State → K → Type 0} where
  -- what was found
  pub found : {A : Type 0} (o : Option A) (a : A) (go : A → Piece State K) (s : State) (w : World K) → o ≡ Some a
      → Safe G NoWay IsRight (go a s w) → Safe G NoWay IsRight (with_found o go s w)
  found o a go s w e h = subst (λ z. Safe G NoWay IsRight (with_found z go s w)) (sym e) h

  -- a check that holds
  pub holds : (b : Bool) (go : Piece State K) (s : State) (w : World K) → b ≡ true → Safe G NoWay IsRight (go s w) → Safe G NoWay IsRight (checked b go s w)
  holds b go s w e h = subst (λ z. Safe G NoWay IsRight (checked z go s w)) (sym e) h

  pub stop_or : (b : Bool) (code at : ℕ) (go : Piece State K) (s : State) (w : World K) → (b ≡ true → Safe G NoWay IsRight (go s w))
      → Safe G NoWay IsRight (stop_unless b code at go s w)
  stop_or true code at go s w h = h refl
  stop_or false code at go s w h = overs tt

module _ (p : Tables) where
  -- ---- states

  -- other values wait
  abbrev pub with_values : (κ0 : List Kind) (ts : List CoreType) (o : Owner) (x y : List CoreType) (s : State) (vs : List CoreValue)
      → (g : Good p κ0 ts o x s) → HasTypes p g.kinds vs y → Good p κ0 ts o y (record s { values = vs })
  with_values κ0 ts o x y s vs g h =
      record { kinds = g.kinds; grown = g.grown; heap = g.heap; values = h; locals = g.locals; self = g.self }

  -- another heap of the same kinds
  abbrev pub with_heap_of : (κ0 : List Kind) (ts : List CoreType) (o : Owner) (x : List CoreType) (s : State) (h : Heap)
      → (g : Good p κ0 ts o x s) → TypedHeap p g.kinds h → Good p κ0 ts o x (record s { heap = h })
  with_heap_of κ0 ts o x s h g t =
      record { kinds = g.kinds; grown = g.grown; heap = t; values = g.values; locals = g.locals; self = g.self }

  -- fewer cells were there when the body began
  abbrev pub weaker : (κ0 κ : List Kind) (ts : List CoreType) (o : Owner) (x : List CoreType) (s : State) → Extends κ0 κ → Good p κ ts o x s
      → Good p κ0 ts o x s
  weaker κ0 κ ts o x s e g =
      record { kinds = g.kinds; grown = λ k a q. g.grown k a (e k a q); heap = g.heap; values = g.values; locals = g.locals; self = g.self }

  module _ {K : Type 0} (κ0 : List Kind) (ts : List CoreType) (o : Owner) where
    -- ---- values that wait

    pub safe_put : (x : List CoreType) (v : CoreValue) (t : CoreType) (s : State) (w : World K) → (g : Good p κ0 ts o x s) → HasType p g.kinds v t
        → Safe (GoodAt p κ0 ts o (t ∷ x)) NoWay IsRight (put v s w)
    safe_put x v t s w g a = gives (with_values κ0 ts o x (t ∷ x) s (v ∷ s.values) g (a, g.values))

    pub safe_put_found : (x : List CoreType) (t : CoreType) (s : State) (w : World K) (f : Option CoreValue) → (g : Good p κ0 ts o x s)
        → ((v : CoreValue) × (f ≡ Some v) × HasType p g.kinds v t) → Safe (GoodAt p κ0 ts o (t ∷ x)) NoWay IsRight (put_found f s w)
    safe_put_found x t s w f g (v, e, a) = found f v put s w e (safe_put x v t s w g a)

    pub safe_taking : (u : CoreType) (x y : List CoreType) (go : CoreValue → Piece State K)
        → ((v : CoreValue) (s : State) (w : World K) (g : Good p κ0 ts o x s) → HasType p g.kinds v u → Safe (GoodAt p κ0 ts o y) NoWay IsRight (go v s w))
        → Leads p κ0 ts o (u ∷ x) y (taking go)
    safe_taking u x y go k s w g = by s.values g.values
      where
        by : (vs : List CoreValue) → HasTypes p g.kinds vs (u ∷ x) → Safe (GoodAt p κ0 ts o y) NoWay IsRight (take_from vs go s w)
        by [] h = absurd h
        by (v ∷ vs) (a, h) = k v (record s { values = vs }) w (with_values κ0 ts o (u ∷ x) x s vs g h) a

    -- two values, the upper of the type u and the lower of the type t
    pub safe_taking_two : (t u : CoreType) (x y : List CoreType) (go : (upper lower : CoreValue) → Piece State K)
        → ((b a : CoreValue) (s : State) (w : World K) (g : Good p κ0 ts o x s) → HasType p g.kinds b u → HasType p g.kinds a t
        → Safe (GoodAt p κ0 ts o y) NoWay IsRight (go b a s w))
        → Leads p κ0 ts o (u ∷ t ∷ x) y (taking (λ b. taking (go b)))
    safe_taking_two t u x y go k = safe_taking u (t ∷ x) y (λ b. taking (go b)) first
      where
        first : (b : CoreValue) (s : State) (w : World K) (g : Good p κ0 ts o (t ∷ x) s) → HasType p g.kinds b u
            → Safe (GoodAt p κ0 ts o y) NoWay IsRight (taking (go b) s w)
        first b s w g hb = by s.values g.values
          where
            by : (vs : List CoreValue) → HasTypes p g.kinds vs (t ∷ x) → Safe (GoodAt p κ0 ts o y) NoWay IsRight (take_from vs (go b) s w)
            by [] h = absurd h
            by (v ∷ vs) (a, h) = k b v (record s { values = vs }) w (with_values κ0 ts o (t ∷ x) x s vs g h) hb a

    -- three values
    pub safe_taking_three : (t u v : CoreType) (x y : List CoreType) (go : (upper middle lower : CoreValue) → Piece State K)
        → ((c b a : CoreValue) (s : State) (w : World K) (g : Good p κ0 ts o x s) → HasType p g.kinds c v → HasType p g.kinds b u → HasType p g.kinds a t
        → Safe (GoodAt p κ0 ts o y) NoWay IsRight (go c b a s w))
        → Leads p κ0 ts o (v ∷ u ∷ t ∷ x) y (taking (λ c. taking (λ b. taking (go c b))))
    safe_taking_three t u v x y go k = safe_taking v (u ∷ t ∷ x) y (λ c. taking (λ b. taking (go c b))) first
      where
        first : (c : CoreValue) (s : State) (w : World K) (g : Good p κ0 ts o (u ∷ t ∷ x) s) → HasType p g.kinds c v
            → Safe (GoodAt p κ0 ts o y) NoWay IsRight (taking (λ b. taking (go c b)) s w)
        first c s w g hc = by s.values g.values
          where
            last : (b : CoreValue) → HasType p g.kinds b u → (vs : List CoreValue) → HasTypes p g.kinds vs (t ∷ x)
                → Safe (GoodAt p κ0 ts o y) NoWay IsRight (take_from vs (go c b) (record s { values = vs }) w)
            last b hb [] h = absurd h
            last b hb (a ∷ vs) (ha, h) = k c b a (record s { values = vs }) w (with_values κ0 ts o (u ∷ t ∷ x) x s vs g h) hc hb ha

            by : (vs : List CoreValue) → HasTypes p g.kinds vs (u ∷ t ∷ x) → Safe (GoodAt p κ0 ts o y) NoWay IsRight (take_from vs (λ b. taking (go c b)) s w)
            by [] h = absurd h
            by (b ∷ vs) (hb, h) = last b hb vs h

    -- the value below arguments
    pub safe_below : (us : List CoreType) (t : CoreType) (x y : List CoreType) (go : CoreValue → Piece State K)
        → ((v : CoreValue) (s : State) (w : World K) (g : Good p κ0 ts o (us ++ x) s) → HasType p g.kinds v t → Safe (GoodAt p κ0 ts o y) NoWay IsRight
        (go v s w))
        → Leads p κ0 ts o (us ++ t ∷ x) y (from_below (length us) go)
    safe_below us t x y go k s w g = by (beneath p g.kinds us t x s.values g.values)
      where
        by : ((v : CoreValue) × (slice_get s.values (length us) ≡ Some v) × HasType p g.kinds v t
            × HasTypes p g.kinds (take (length us) s.values ++ drop (length us + 1) s.values) (us ++ x))
            → Safe (GoodAt p κ0 ts o y) NoWay IsRight (from_below (length us) go s w)
        by (v, ev, a, h) = found (slice_get s.values (length us)) v go _ w ev (k v _ w (with_values κ0 ts o (us ++ t ∷ x) (us ++ x) s _ g h) a)

    -- ---- checks

    -- a value is of its type
    pub safe_of_type : (x : List CoreType) {G : State → K → Type 0} (t : CoreType) (v : CoreValue) (go : Piece State K) (s : State) (w : World K)
        → (g : Good p κ0 ts o x s) → HasType p g.kinds v t → Safe G NoWay IsRight (go s w) → Safe G NoWay IsRight (of_type p t v go s w)
    safe_of_type x t v go s w g a h = holds (is_of p s.heap.cells t v) go s w (is_typed p g.kinds s.heap.cells v t g.heap.cells a) h

    -- the object of a class
    pub safe_class : (x : List CoreType) {G : State → K → Type 0} (k c : ℕ) (go : ℕ → Piece State K) (s : State) (w : World K)
        → (g : Good p κ0 ts o x s) → slice_get g.kinds k ≡ Some (ObjectOf c) → Safe G NoWay IsRight (go c s w) → Safe G NoWay IsRight (with_class k go s w)
    safe_class x {G} k c go s w g ek h = by (object p g.kinds g.kinds s.heap.cells k c g.heap.cells ek)
      where
        by : ((vs : List CoreValue) × (z : Class) × (slice_get s.heap.cells k ≡ Some (Object c vs)) × (slice_get p.classes c ≡ Some z)
            × HasFields p g.kinds z.fields vs)
            → Safe G NoWay IsRight (with_class k go s w)
        by (vs, z, ec, ez, f) = found (class_in (slice_get s.heap.cells k)) c go s w (ap class_in ec) h

    pub safe_object_of : (x : List CoreType) {G : State → K → Type 0} (at d : ℕ) (go : ℕ → ℕ → Piece State K) (v : CoreValue) (s : State) (w : World K)
        → (g : Good p κ0 ts o x s) → HasType p g.kinds v (ClassType d)
        → ((k c : ℕ) → slice_get g.kinds k ≡ Some (ObjectOf c) → is_below p c d ≡ true → Safe G NoWay IsRight (go k c s w))
        → Safe G NoWay IsRight (with_object_of p at d go v s w)
    safe_object_of x at d go Null s w g a h = overs tt
    safe_object_of x at d go (Obj k) s w g (c, ek, eb) h =
        safe_class x k c (λ e. checked (is_below p e d) (go k e)) s w g ek (holds (is_below p c d) (go k c) s w eb (h k c ek eb))
    safe_object_of x at d go _ s w g a h = absurd a

    pub safe_object : (x : List CoreType) {G : State → K → Type 0} (at d : ℕ) (go : ℕ → Piece State K) (v : CoreValue) (s : State) (w : World K)
        → (g : Good p κ0 ts o x s) → HasType p g.kinds v (ClassType d)
        → ((k : ℕ) → IsObject p g.kinds k d → Safe G NoWay IsRight (go k s w)) → Safe G NoWay IsRight (with_object at go v s w)
    safe_object x at d go Null s w g a h = overs tt
    safe_object x at d go (Obj k) s w g a h = h k a
    safe_object x at d go _ s w g a h = absurd a

    pub safe_array : (x : List CoreType) {G : State → K → Type 0} (at t : ℕ) (go : ℕ → List CoreValue → Piece State K) (v : CoreValue) (s : State) (w : World K)
        → (g : Good p κ0 ts o x s) → HasType p g.kinds v (ArrayType t)
        → ((k : ℕ) (vs : List CoreValue) → slice_get g.kinds k ≡ Some (ArrayOf t (length vs)) → Safe G NoWay IsRight (go k vs s w))
        → Safe G NoWay IsRight (with_array at t go v s w)
    safe_array x at t go Null s w g a h = overs tt
    safe_array x {G} at t go (Arr k) s w g (size, ek) h = by (array p g.kinds g.kinds s.heap.cells k t size g.heap.cells ek)
      where
        by : ((vs : List CoreValue) × (z : CoreType) × (slice_get s.heap.cells k ≡ Some (Array t vs)) × (length vs ≡ size) × (slice_get p.types t ≡ Some z)
            × AllHave p g.kinds z vs)
            → Safe G NoWay IsRight (in_array t (go k) (slice_get s.heap.cells k) s w)
        by (vs, z, ec, ln, ez, f) =
            subst (λ q. Safe G NoWay IsRight (in_array t (go k) q s w)) (sym ec)
            (holds (t == t) (go k vs) s w (eq_refl t) (h k vs (ek ∙ ap (λ n. Some (ArrayOf t n)) (sym ln))))
    safe_array x at t go _ s w g a h = absurd a

    -- the place of an element
    pub safe_item : (x : List CoreType) {G : State → K → Type 0} (at t : ℕ) (e : CoreType) (go : Place → Piece State K) (a i : CoreValue) (s : State)
        (w : World K)
        → (g : Good p κ0 ts o x s) → slice_get p.types t ≡ Some e → HasType p g.kinds a (ArrayType t) → HasType p g.kinds i IntType
        → ((z : Place) → PlaceOf p g.kinds z e → Safe G NoWay IsRight (go z s w)) → Safe G NoWay IsRight (with_item at t go a i s w)
    safe_item x {G} at t e go a i s w g et ha hi h =
        safe_array x at t (λ k vs. with_int (λ n. with_index at (length vs) n (λ j. go (OfArray k j))) i) a s w g ha (λ k vs ek. indexed k vs ek i hi)
      where
        bounded : (k : ℕ) (vs : List CoreValue) → slice_get g.kinds k ≡ Some (ArrayOf t (length vs)) → (n : ℤ)
            → Safe G NoWay IsRight (with_index at (length vs) n (λ j. go (OfArray k j)) s w)
        bounded k vs ek (pos n) =
            stop_or (nat_lt n (length vs)) 2 at (go (OfArray k n)) s w (λ l. h (OfArray k n) (array_place t (length vs) ek et (ltb-true n (length vs) l)))
        bounded k vs ek (negsuc n) = overs tt

        indexed : (k : ℕ) (vs : List CoreValue) → slice_get g.kinds k ≡ Some (ArrayOf t (length vs)) → (v : CoreValue) → HasType p g.kinds v IntType
            → Safe G NoWay IsRight (with_int (λ n. with_index at (length vs) n (λ j. go (OfArray k j))) v s w)
        indexed k vs ek (Int n) q = bounded k vs ek n
        indexed k vs ek _ q = absurd q

    -- ---- places

    module _ (formed : WellFormed p) where
      pub safe_get_place : (x : List CoreType) (z : Place) (t : CoreType) (s : State) (w : World K) → (g : Good p κ0 ts o x s) → PlaceOf p g.kinds z t
          → Safe (GoodAt p κ0 ts o (t ∷ x)) NoWay IsRight (get_place p z s w)
      safe_get_place x z t s w g h = safe_put_found x t s w (value_at p s.heap z) g (get_typed p formed g.kinds s.heap g.heap z t h)

      pub safe_set_place : (x : List CoreType) (z : Place) (f : Option CoreType) (t : CoreType) (v : CoreValue) (s : State) (w : World K)
          → (g : Good p κ0 ts o x s) → f ≡ Some t → PlaceOf p g.kinds z t → HasType p g.kinds v t
          → Safe (GoodAt p κ0 ts o x) NoWay IsRight (set_place p f z v s w)
      safe_set_place x z f t v s w g ef h a =
          found f t (λ u. of_type p u v go) s w ef (safe_of_type x t v go s w g a (by (get_typed p formed g.kinds s.heap g.heap z t h)))
        where
          go : Piece State K
          go = λ s1. with_found (value_at p s1.heap z) (λ old s2 w2. Gives (record s2 { heap = set_at p z v s2.heap }) w2) s1

          by : ((old : CoreValue) × (value_at p s.heap z ≡ Some old) × HasType p g.kinds old t) → Safe (GoodAt p κ0 ts o x) NoWay IsRight (go s w)
          by (old, e, b) = found (value_at p s.heap z) old (λ old s2 w2. Gives (record s2 { heap = set_at p z v s2.heap }) w2) s w e
              (gives (with_heap_of κ0 ts o x s _ g (set_typed p formed g.kinds s.heap g.heap z t h v a)))
