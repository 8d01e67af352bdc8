-- Pieces that do the same under numbers and under names.
use Rattle.std.proofs.Common.{◌≡◌, ℕ, ◌+◌, Bool, true, false, List, [], ◌∷◌, ◌++◌, length, map, take, drop, Option, Some, None, option_map}
use Rattle.std.proofs.Common.{slice_get}
use Rattle.std.proofs.Common.{refl, sym, ap, ◌∙◌, subst}
use Rattle.std.specs.Prelude.{ℤ, pos, negsuc, nat_lt}
use Rattle.std.proofs.lemmas.List.{map-append, length-map}
use Rattle.std.proofs.lemmas.Option.{slice_get-map}
use Rattle.vg_meaning.specs.World.{World}
use Rattle.vg_meaning.specs.Answer.{Answer, Gives, Piece}
use Rattle.vg_meaning.specs.Same.{gives, overs, wrong, SamePiece, Always}
use Rattle.vg_source.specs.Operators.{Scalar, AnInt, ATruth, AChar, Bits, Computed, Is, Fails, Unfit, binary, prefixed, Format, recast}
use Rattle.vg_source.specs.Names.{Name}
use Rattle.vg_source.specs.Values as source_value
use Rattle.vg_source.specs.State as source_state
use Rattle.vg_source.specs.Meaning as source
use Rattle.vg_core.specs.declared.types.CoreType.{CoreType}
use Rattle.vg_core.specs.declared.value.CoreValue.{CoreValue}
use Rattle.vg_core.specs.declared.value.CoreValue.TheVariants.{Int, Bool as Truth, Char, Raw, Null, Obj, Arr, Bound}
use Rattle.vg_core.specs.declared.operator.Operator.{Operator}
use Rattle.vg_core.specs.declared.operator.Prefix.{Prefix}
use Rattle.vg_core.specs.declared.heap.Cell.{Cell}
use Rattle.vg_core.specs.declared.heap.Cell.TheVariants.{Object, Array}
use Rattle.vg_core.specs.declared.program.Tables.{Tables}
use Rattle.vg_core.specs.Operators.{scalar_value, operand_of, scalar_of, operator_of, prefix_of, byte_of}
use Rattle.vg_core.specs.Heap.{Place, OfArray, class_in, value_at, set_at}
use Rattle.vg_core.specs.State.{State, is_of}
use Rattle.vg_core.specs.Meaning.{put, take_from, taking, with_found, from_below, computed, checked, of_type, stop_unless, with_int, with_class, with_object}
use Rattle.vg_core.specs.Meaning.{in_array, with_array, with_index, with_item, operated, applied, recasted, put_found, set_place}
use Rattle.vg_core.specs.Naming.{Naming, named_value, named_cell, named_state}
use Rattle.vg_renamed.specs.Stands.{Stands, AreSame}
use Rattle.vg_renamed.proofs.Lists.{take_map, drop_map}

module _ (n : Naming) (p : Tables) where
  -- ---- what operators see

  pub operand_same : (v : CoreValue) → source_value.operand_of (named_value n p v) ≡ operand_of v
  operand_same (Int i) = refl
  operand_same (Truth i) = refl
  operand_same (Char i) = refl
  operand_same (Raw j i) = refl
  operand_same Null = refl
  operand_same (Obj k) = refl
  operand_same (Arr k) = refl
  operand_same (Bound r m) = refl

  pub scalar_same : (v : CoreValue) → source_value.scalar_of (named_value n p v) ≡ scalar_of v
  scalar_same (Int i) = refl
  scalar_same (Truth i) = refl
  scalar_same (Char i) = refl
  scalar_same (Raw j i) = refl
  scalar_same Null = refl
  scalar_same (Obj k) = refl
  scalar_same (Arr k) = refl
  scalar_same (Bound r m) = refl

  pub byte_same : (v : CoreValue) → source_value.byte_of (named_value n p v) ≡ byte_of v
  byte_same (Int i) = refl
  byte_same (Truth i) = refl
  byte_same (Char i) = refl
  byte_same (Raw j i) = refl
  byte_same Null = refl
  byte_same (Obj k) = refl
  byte_same (Arr k) = refl
  byte_same (Bound r m) = refl

  same_scalar : (c : Scalar) → named_value n p (scalar_value c) ≡ source_value.scalar_value c
  same_scalar (AnInt i) = refl
  same_scalar (ATruth b) = refl
  same_scalar (AChar c) = refl
  same_scalar (Bits k x) = refl

  class_there : (cells : List Cell) (k c : ℕ) → class_in (slice_get cells k) ≡ Some c → source_state.class_in (slice_get (map (named_cell n p) cells) k)
      ≡ Some (n.class c)
  class_there cells k c e = ap source_state.class_in (slice_get-map (named_cell n p) cells k) ∙ inside (slice_get cells k) e
    where
      inside : (o : Option Cell) → class_in o ≡ Some c → source_state.class_in (option_map (named_cell n p) o) ≡ Some (n.class c)
      inside (Some (Object d vs)) q = let same : d ≡ c = cc in ap (λ z. Some (n.class z)) same
      inside (Some (Array t vs)) q = absurd (let clash : None ≡ Some c = q in cc)
      inside None q = absurd (let clash : None ≡ Some c = q in cc)

  module _ {K : Type 0} where
    -- two pieces do the same from states of which the one stands for the other
    abbrev pub DoSame : Piece State K → Piece source_state.State K → Type 0
    DoSame f g = SamePiece (Stands n p) (Stands n p) (Always (Stands n p)) f g

    -- from this state
    abbrev pub Here : Piece State K → Piece source_state.State K → State → World K → Type 0
    Here f g s w = AreSame n p (f s w) (g (named_state n p s) w)

    pub along : (f : Piece State K) (g : Piece source_state.State K) → ((s : State) (w : World K) → Here f g s w) → DoSame f g
    along f g k s t w e = subst (λ z. AreSame n p (f s w) (g z w)) e (k s w)

    pub at_state : (f : Piece State K) (g : Piece source_state.State K) → DoSame f g → (s : State) (w : World K) → Here f g s w
    at_state f g k s w = k s (named_state n p s) w refl

    -- ---- checks: where one fails the run under numbers is Wrong

    pub same_checked : (b : Bool) (f : Piece State K) (s : State) (w : World K) (a : Answer source_state.State K) → (b ≡ true → AreSame n p (f s w) a)
        → AreSame n p (checked b f s w) a
    same_checked true f s w a h = h refl
    same_checked false f s w a h = wrong

    pub same_of_type : (t : CoreType) (v : CoreValue) (f : Piece State K) (s : State) (w : World K) (a : Answer source_state.State K) → AreSame n p (f s w) a
        → AreSame n p (of_type p t v f s w) a
    same_of_type t v f s w a h = same_checked (is_of p s.heap.cells t v) f s w a (λ e. h)

    pub same_stop_unless : (b : Bool) (code at : ℕ) (f : Piece State K) (g : Piece source_state.State K) (s : State) (w : World K) → Here f g s w
        → Here (stop_unless b code at f) (source.stop_unless b code at g) s w
    same_stop_unless true code at f g s w h = h
    same_stop_unless false code at f g s w h = overs

    -- ---- values that wait

    pub same_put : (v : CoreValue) (s : State) (w : World K) → Here (put v) (source.put (named_value n p v)) s w
    same_put v s w = gives refl

    pub same_put_found : (o : Option CoreValue) (o' : Option source_value.Value) (s : State) (w : World K) → ((v : CoreValue) → o ≡ Some v → o'
        ≡ Some (named_value n p v))
        → Here (put_found o) (source.put_found o') s w
    same_put_found None o' s w h = wrong
    same_put_found (Some v) o' s w h = subst (λ z. Here (put_found (Some v)) (source.put_found z) s w) (sym (h v refl)) (same_put v s w)

    pub same_found : {A B : Type 0} (o : Option A) (o' : Option B) (f : A → Piece State K) (g : B → Piece source_state.State K) (to : A → B) (s : State)
        (w : World K)
        → ((a : A) → o ≡ Some a → o' ≡ Some (to a)) → ((a : A) → o ≡ Some a → Here (f a) (g (to a)) s w) → Here (with_found o f) (source.with_found o' g) s w
    same_found None o' f g to s w h k = wrong
    same_found (Some a) o' f g to s w h k = subst (λ z. Here (with_found (Some a) f) (source.with_found z g) s w) (sym (h a refl)) (k a refl)

    -- what is found under numbers alone
    pub same_had : {A : Type 0} (o : Option A) (f : A → Piece State K) (s : State) (w : World K) (b : Answer source_state.State K)
        → ((a : A) → o ≡ Some a → AreSame n p (f a s w) b)
        → AreSame n p (with_found o f s w) b
    same_had None f s w b h = wrong
    same_had (Some a) f s w b h = h a refl

    pub same_taking : (f : CoreValue → Piece State K) (g : source_value.Value → Piece source_state.State K)
        → ((v : CoreValue) (s : State) (w : World K) → Here (f v) (g (named_value n p v)) s w) → (s : State) (w : World K) → Here (taking f) (source.taking g)
        s w
    same_taking f g k s w = by s.values
      where
        by : (vs : List CoreValue) → AreSame n p (take_from vs f s w) (source.take_from (map (named_value n p) vs) g (named_state n p s) w)
        by [] = wrong
        by (v ∷ vs) = k v (record s { values = vs }) w

    pub same_below : (count : ℕ) (f : CoreValue → Piece State K) (g : source_value.Value → Piece source_state.State K)
        → ((v : CoreValue) (s : State) (w : World K) → Here (f v) (g (named_value n p v)) s w) → (s : State) (w : World K) → Here (from_below count f)
        (source.from_below count g) s w
    same_below count f g k s w = by (slice_get s.values count) (slice_get-map (named_value n p) s.values count)
      where
        under : State
        under = record s { values = take count s.values ++ drop (count + 1) s.values }

        rest : take count (map (named_value n p) s.values) ++ drop (count + 1) (map (named_value n p) s.values)
            ≡ map (named_value n p) (take count s.values ++ drop (count + 1) s.values)
        rest = ap (λ z. z ++ drop (count + 1) (map (named_value n p) s.values)) (take_map (named_value n p) count s.values)
            ∙ ap (λ z. map (named_value n p) (take count s.values) ++ z) (drop_map (named_value n p) (count + 1) s.values)
            ∙ sym (map-append (named_value n p) (take count s.values) (drop (count + 1) s.values))

        by : (o : Option CoreValue) → slice_get (map (named_value n p) s.values) count ≡ option_map (named_value n p) o
            → AreSame n p (with_found o f under w)
            (source.with_found (slice_get (map (named_value n p) s.values) count) g
            (record (named_state n p s) { values = take count (map (named_value n p) s.values) ++ drop (count + 1) (map (named_value n p) s.values) }) w)
        by None e = wrong
        by (Some v) e = subst (λ z. AreSame n p (f v under w)
            (source.with_found z g (record (named_state n p s) {
              values = take count (map (named_value n p) s.values) ++ drop (count + 1)
                  (map (named_value n p) s.values);
            }) w)) (sym e)
            (subst (λ z. AreSame n p (f v under w) (g (named_value n p v) (record (named_state n p s) { values = z }) w)) (sym rest) (k v under w))

    -- ---- cells

    pub same_object : (at : ℕ) (f : ℕ → Piece State K) (g : ℕ → Piece source_state.State K) → (v : CoreValue) (s : State) (w : World K)
        → ((k : ℕ) → Here (f k) (g k) s w) → Here (with_object at f v) (source.with_cell at g (named_value n p v)) s w
    same_object at f g (Obj k) s w h = h k
    same_object at f g (Arr k) s w h = wrong
    same_object at f g Null s w h = overs
    same_object at f g (Int i) s w h = wrong
    same_object at f g (Truth i) s w h = wrong
    same_object at f g (Char i) s w h = wrong
    same_object at f g (Raw j i) s w h = wrong
    same_object at f g (Bound r m) s w h = wrong

    pub same_class : (k : ℕ) (f : ℕ → Piece State K) (g : Name → Piece source_state.State K) (s : State) (w : World K)
        → ((c : ℕ) → Here (f c) (g (n.class c)) s w)
        → AreSame n p (with_class k f s w) (source.with_found (source_state.class_at (named_state n p s).heap k) g (named_state n p s) w)
    same_class k f g s w h = same_found (class_in (slice_get s.heap.cells k)) (source_state.class_at (named_state n p s).heap k) f g n.class s w
        (class_there s.heap.cells k) (λ c e. h c)

    -- an array and its elements
    pub same_array : (at t : ℕ) (f : ℕ → List CoreValue → Piece State K) (g : ℕ → List source_value.Value → Piece source_state.State K) (v : CoreValue)
        (s : State) (w : World K)
        → ((k u : ℕ) (vs : List CoreValue) → slice_get s.heap.cells k ≡ Some (Array u vs) → Here (f k vs) (g k (map (named_value n p) vs)) s w)
        → Here (with_array at t f v) (source.with_cell at (λ k s1 w1. source.with_found (source_state.items_at s1.heap k) (g k) s1 w1) (named_value n p v)) s w
    same_array at t f g (Arr k) s w h = subst (λ o. AreSame n p (in_array t (f k) (slice_get s.heap.cells k) s w) (source.with_found (source_state.items_in o)
        (g k) (named_state n p s) w))
        (sym (slice_get-map (named_cell n p) s.heap.cells k)) (by (slice_get s.heap.cells k) refl)
      where
        by : (o : Option Cell) → slice_get s.heap.cells k ≡ o
            → AreSame n p (in_array t (f k) o s w) (source.with_found (source_state.items_in (option_map (named_cell n p) o)) (g k) (named_state n p s) w)
        by (Some (Array u vs)) e = same_checked _ (f k vs) s w _ (λ q. h k u vs e)
        by (Some (Object c vs)) e = wrong
        by None e = wrong
    same_array at t f g Null s w h = overs
    same_array at t f g (Obj i) s w h = wrong
    same_array at t f g (Int i) s w h = wrong
    same_array at t f g (Truth i) s w h = wrong
    same_array at t f g (Char i) s w h = wrong
    same_array at t f g (Raw j i) s w h = wrong
    same_array at t f g (Bound r m) s w h = wrong

    -- an element's place
    pub same_item : (at t : ℕ) (f : Place → Piece State K) (g : ℕ → ℕ → List source_value.Value → Piece source_state.State K) (a i : CoreValue) (s : State)
        (w : World K)
        → ((k j u : ℕ) (vs : List CoreValue) → slice_get s.heap.cells k ≡ Some (Array u vs) → Here (f (OfArray k j)) (g k j (map (named_value n p) vs)) s w)
        → Here (with_item at t f a i) (source.with_item_of at g (named_value n p a) (named_value n p i)) s w
    same_item at t f g a i s w h = same_array at t (λ k vs. with_int (λ m. with_index at (length vs) m (λ j. f (OfArray k j))) i)
        (λ k vs. source.with_int (λ m. source.with_index at (length vs) m (λ j. g k j vs)) (named_value n p i)) a s w (λ k u vs e. indexed k u vs e i)
      where
        bounded : (k u : ℕ) (vs : List CoreValue) → slice_get s.heap.cells k ≡ Some (Array u vs) → (m : ℤ) (size : ℕ)
            → Here (with_index at size m (λ j. f (OfArray k j))) (source.with_index at size m (λ j. g k j (map (named_value n p) vs))) s w
        bounded k u vs e (pos j) size = same_stop_unless (nat_lt j size) 2 at (f (OfArray k j)) (g k j (map (named_value n p) vs)) s w (h k j u vs e)
        bounded k u vs e (negsuc j) size = overs

        indexed : (k u : ℕ) (vs : List CoreValue) → slice_get s.heap.cells k ≡ Some (Array u vs) → (v : CoreValue)
            → Here (with_int (λ m. with_index at (length vs) m (λ j. f (OfArray k j))) v)
            (source.with_int (λ m. source.with_index at (length (map (named_value n p) vs)) m (λ j. g k j (map (named_value n p) vs))) (named_value n p v)) s w
        indexed k u vs e (Int m) = subst (λ z. Here (with_index at (length vs) m (λ j. f (OfArray k j)))
            (source.with_index at z m (λ j. g k j (map (named_value n p) vs))) s w)
            (sym (length-map vs (named_value n p))) (bounded k u vs e m (length vs))
        indexed k u vs e (Truth m) = wrong
        indexed k u vs e (Char m) = wrong
        indexed k u vs e (Raw j m) = wrong
        indexed k u vs e Null = wrong
        indexed k u vs e (Obj m) = wrong
        indexed k u vs e (Arr m) = wrong
        indexed k u vs e (Bound r m) = wrong

    -- a store under numbers does what is done under names where the place is there
    pub same_set_place : (x : Place) (t : Option CoreType) (v : CoreValue) (s : State) (w : World K) (b : Answer source_state.State K)
        → ((old : CoreValue) → value_at p s.heap x ≡ Some old → AreSame n p (Gives (record s { heap = set_at p x v s.heap }) w) b)
        → AreSame n p (set_place p t x v s w) b
    same_set_place x t v s w b h =
        same_had t (λ u. of_type p u v (λ s1. with_found (value_at p s1.heap x) (λ old s2 w2. Gives (record s2 { heap = set_at p x v s2.heap }) w2) s1)) s w b
        (λ u e. same_of_type u v (λ s1. with_found (value_at p s1.heap x) (λ old s2 w2. Gives (record s2 { heap = set_at p x v s2.heap }) w2) s1) s w b
        (same_had (value_at p s.heap x) (λ old s2 w2. Gives (record s2 { heap = set_at p x v s2.heap }) w2) s w b h))

    -- ---- operators

    pub same_computed : (at : ℕ) (c : Computed) (s : State) (w : World K) → Here (computed at c) (source.computed at c) s w
    same_computed at (Is c) s w = subst (λ z. AreSame n p (put (scalar_value c) s w) (source.put z (named_state n p s) w)) (same_scalar c)
        (same_put (scalar_value c) s w)
    same_computed at (Fails code) s w = overs
    same_computed at Unfit s w = wrong

    pub same_operated : (at : ℕ) (op : Operator) (t u : CoreType) (x y : CoreValue) (s : State) (w : World K)
        → Here (operated p at op t u x y) (source.operated at (operator_of op) (named_value n p x) (named_value n p y)) s w
    same_operated at op t u x y s w =
        same_of_type u y (of_type p t x (with_found (operand_of x) (λ a. with_found (operand_of y) (λ b. computed at (binary (operator_of op) a b))))) s w _
        (same_of_type t x (with_found (operand_of x) (λ a. with_found (operand_of y) (λ b. computed at (binary (operator_of op) a b)))) s w _
        (same_found (operand_of x) (source_value.operand_of (named_value n p x)) _ (λ a. source.with_found (source_value.operand_of (named_value n p y))
        (λ b. source.computed at (binary (operator_of op) a b))) (λ a. a) s w (λ a e. operand_same x ∙ e)
        (λ a e. same_found (operand_of y) (source_value.operand_of (named_value n p y)) (λ b. computed at (binary (operator_of op) a b))
        (λ b. source.computed at (binary (operator_of op) a b)) (λ b. b) s w (λ b q. operand_same y ∙ q)
        (λ b q. same_computed at (binary (operator_of op) a b) s w))))

    pub same_applied : (op : Prefix) (t : CoreType) (x : CoreValue) (s : State) (w : World K)
        → Here (applied p op t x) (source.applied (prefix_of op) (named_value n p x)) s w
    same_applied op t x s w =
        same_of_type t x (with_found (scalar_of x) (λ a. computed 0 (prefixed (prefix_of op) a))) s w _
        (same_found (scalar_of x) (source_value.scalar_of (named_value n p x)) (λ a. computed 0 (prefixed (prefix_of op) a))
        (λ a. source.computed 0 (prefixed (prefix_of op) a)) (λ a. a) s w
        (λ a e. scalar_same x ∙ e) (λ a e. same_computed 0 (prefixed (prefix_of op) a) s w))

    pub same_recasted : (at : ℕ) (f : Format) (x : CoreValue) (s : State) (w : World K) → Here (recasted at f x) (source.recasted at f (named_value n p x)) s w
    same_recasted at f x s w =
        same_found (scalar_of x) (source_value.scalar_of (named_value n p x)) (λ a. computed at (recast f a)) (λ a. source.computed at (recast f a))
        (λ a. a) s w
        (λ a e. scalar_same x ∙ e) (λ a e. same_computed at (recast f a) s w)
