-- Operators, casts and class tests on values of the right types.
use Rattle.std.proofs.Common.{◌≡◌, ℕ, zero, suc, ◌+◌, ◌==◌, Bool, true, false, List, [], ◌∷◌, Some, slice_get}
use Rattle.std.proofs.Common.{refl, sym, ap, ◌∙◌, subst}
use Rattle.std.specs.Prelude.{ℤ, pos, negsuc, nat_le}
use Rattle.vg_meaning.specs.World.{World}
use Rattle.vg_meaning.specs.Answer.{Piece}
use Rattle.vg_meaning.specs.Safe.{Safe, overs, NoWay, IsRight}
use Rattle.vg_source.specs.Operators as operators
use Rattle.vg_source.specs.Operators.{Scalar, ATruth, Bits, Operand, Computed, Is, only_if, binary, prefixed, Format, ToInt, ToChar, ToBits, in_format}
use Rattle.vg_core.specs.declared.types.CoreType.{CoreType}
use Rattle.vg_core.specs.declared.types.CoreType.TheVariants.{IntType, BoolType, CharType, RawType, NullType, ClassType, ArrayType, FunctionType}
use Rattle.vg_core.specs.declared.value.CoreValue.{CoreValue}
use Rattle.vg_core.specs.declared.value.CoreValue.TheVariants.{Int, Bool as Truth, Char, Raw, Null, Obj, Arr, Bound}
use Rattle.vg_core.specs.declared.operator.Operator.{Operator}
use Rattle.vg_core.specs.declared.operator.Prefix.{Prefix}
use Rattle.vg_core.specs.declared.program.Owner.{Owner}
use Rattle.vg_core.specs.declared.program.Tables.{Tables}
use Rattle.vg_core.specs.Tables.{is_in, above_in, is_below, last_of, top, both_same, one_hierarchy}
use Rattle.vg_core.specs.Operators.{scalar_value, operand_of, scalar_of, operator_of, prefix_of}
use Rattle.vg_core.specs.Heap.{Kind}
use Rattle.vg_core.specs.State.{State}
use Rattle.vg_core.specs.Meaning.{put, with_found, computed, checked, stop_unless, operated, applied, recasted, cast_to_class, cast_to, class_test}
use Rattle.vg_core.specs.Types.{HasType}
use Rattle.vg_core.specs.Typing.{Sub, same, below, null_class, null_array, null_function, Compared, ints, bools, chars, raws, nulls, objects, arrays}
use Rattle.vg_core.specs.Typing.{OfInts, plus, minus, times, divide, remainder, Orders, less, at_most, greater, at_least, Compares, equal, unequal}
use Rattle.vg_core.specs.Typing.{OfBits, and, or, xor, Shifts, left_shift, right_shift, OpTakes, of_ints, order_ints, order_chars, of_bits, shifts, concat}
use Rattle.vg_core.specs.Typing.{compare_up, compare_down, PrefixTakes, negative, not_bool, complement, IsNumber, int_number, char_number, raw_number}
use Rattle.vg_core.specs.Typing.{Related, upward, downward, Casts, numbers, bool_itself, array_itself, function_itself, classes, null_to_class, WellFormed}
use Rattle.vg_sound.specs.Good.{Good, GoodAt}
use Rattle.vg_sound.proofs.Values.{eq_refl, int_of, truth_of, char_of, raw_of}
use Rattle.vg_sound.proofs.Pieces.{holds, stop_or, safe_put, safe_of_type, safe_class}

-- two values that are compared for sameness
data Comparable : CoreValue → CoreValue → Type 0 where
  two_ints : {m n : ℤ} → Comparable (Int m) (Int n)
  two_truths : {a b : Bool} → Comparable (Truth a) (Truth b)
  two_chars : {m n : ℕ} → Comparable (Char m) (Char n)
  two_raws : {k m n : ℕ} → Comparable (Raw k m) (Raw k n)
  two_nulls : Comparable Null Null
  null_object : {k : ℕ} → Comparable Null (Obj k)
  object_null : {k : ℕ} → Comparable (Obj k) Null
  two_objects : {j k : ℕ} → Comparable (Obj j) (Obj k)
  null_array' : {k : ℕ} → Comparable Null (Arr k)
  array_null : {k : ℕ} → Comparable (Arr k) Null
  two_arrays : {j k : ℕ} → Comparable (Arr j) (Arr k)

other_way : {a b : CoreValue} → Comparable a b → Comparable b a
other_way two_ints = two_ints
other_way two_truths = two_truths
other_way two_chars = two_chars
other_way two_raws = two_raws
other_way two_nulls = two_nulls
other_way null_object = object_null
other_way object_null = null_object
other_way two_objects = two_objects
other_way null_array' = array_null
other_way array_null = null_array'
other_way two_arrays = two_arrays

-- a number
data Numeric : CoreValue → Type 0 where
  an_int : {n : ℤ} → Numeric (Int n)
  a_char : {n : ℕ} → Numeric (Char n)
  a_raw : {k n : ℕ} → Numeric (Raw k n)

module _ (p : Tables) where
  both_objects : (κ : List Kind) (c d : ℕ) (a b : CoreValue) → HasType p κ a (ClassType c) → HasType p κ b (ClassType d) → Comparable a b
  both_objects κ c d Null Null h g = two_nulls
  both_objects κ c d Null (Obj k) h g = null_object
  both_objects κ c d (Obj k) Null h g = object_null
  both_objects κ c d (Obj j) (Obj k) h g = two_objects
  both_objects κ c d Null _ h g = absurd g
  both_objects κ c d (Obj j) _ h g = absurd g
  both_objects κ c d _ b h g = absurd h

  both_arrays : (κ : List Kind) (t : ℕ) (a b : CoreValue) → HasType p κ a (ArrayType t) → HasType p κ b (ArrayType t) → Comparable a b
  both_arrays κ t Null Null h g = two_nulls
  both_arrays κ t Null (Arr k) h g = null_array'
  both_arrays κ t (Arr k) Null h g = array_null
  both_arrays κ t (Arr j) (Arr k) h g = two_arrays
  both_arrays κ t Null _ h g = absurd g
  both_arrays κ t (Arr j) _ h g = absurd g
  both_arrays κ t _ b h g = absurd h

  null_of : (κ : List Kind) (a : CoreValue) → HasType p κ a NullType → a ≡ Null
  null_of κ Null h = refl
  null_of κ _ h = absurd h

  are_comparable : (κ : List Kind) (t u : CoreType) (a b : CoreValue) → Compared t → Compared u → Sub p t u → HasType p κ a t → HasType p κ b u → Comparable a b
  are_comparable κ _ _ a b ints w same h g = by (int_of p κ a h) (int_of p κ b g)
    where
      by : ((m : ℤ) × (a ≡ Int m)) → ((n : ℤ) × (b ≡ Int n)) → Comparable a b
      by (m, em) (n, en) = subst (λ z. Comparable z b) (sym em) (subst (λ z. Comparable (Int m) z) (sym en) two_ints)
  are_comparable κ _ _ a b bools w same h g = by (truth_of p κ a h) (truth_of p κ b g)
    where
      by : ((m : Bool) × (a ≡ Truth m)) → ((n : Bool) × (b ≡ Truth n)) → Comparable a b
      by (m, em) (n, en) = subst (λ z. Comparable z b) (sym em) (subst (λ z. Comparable (Truth m) z) (sym en) two_truths)
  are_comparable κ _ _ a b chars w same h g = by (char_of p κ a h) (char_of p κ b g)
    where
      by : ((m : ℕ) × (a ≡ Char m)) → ((n : ℕ) × (b ≡ Char n)) → Comparable a b
      by (m, em) (n, en) = subst (λ z. Comparable z b) (sym em) (subst (λ z. Comparable (Char m) z) (sym en) two_chars)
  are_comparable κ _ _ a b (raws {k = k}) w same h g = by (raw_of p κ a k h) (raw_of p κ b k g)
    where
      by : ((m : ℕ) × (a ≡ Raw k m)) → ((n : ℕ) × (b ≡ Raw k n)) → Comparable a b
      by (m, em) (n, en) = subst (λ z. Comparable z b) (sym em) (subst (λ z. Comparable (Raw k m) z) (sym en) two_raws)
  are_comparable κ _ _ a b nulls w same h g =
      subst (λ z. Comparable z b) (sym (null_of κ a h)) (subst (λ z. Comparable Null z) (sym (null_of κ b g)) two_nulls)
  are_comparable κ _ _ a b (objects {c = c}) w same h g = both_objects κ c c a b h g
  are_comparable κ _ _ a b (arrays {t = t}) w same h g = both_arrays κ t a b h g
  are_comparable κ _ _ a b c w (below {c = c'} {d = d} e) h g = both_objects κ c' d a b h g
  are_comparable κ _ _ a b c w (null_class {d = d}) h g =
      both_objects κ d d a b (subst (λ z. HasType p κ z (ClassType d)) (sym (null_of κ a h)) tt) g
  are_comparable κ _ _ a b c w (null_array {t = t}) h g =
      both_arrays κ t a b (subst (λ z. HasType p κ z (ArrayType t)) (sym (null_of κ a h)) tt) g
  are_comparable κ _ _ a b c w null_function h g = elim w [ ]

  is_numeric : (κ : List Kind) (t : CoreType) (v : CoreValue) → IsNumber t → HasType p κ v t → Numeric v
  is_numeric κ _ v int_number h = by (int_of p κ v h)
    where
      by : ((n : ℤ) × (v ≡ Int n)) → Numeric v
      by (n, e) = subst Numeric (sym e) an_int
  is_numeric κ _ v char_number h = by (char_of p κ v h)
    where
      by : ((n : ℕ) × (v ≡ Char n)) → Numeric v
      by (n, e) = subst Numeric (sym e) a_char
  is_numeric κ _ v (raw_number {k = k}) h = by (raw_of p κ v k h)
    where
      by : ((n : ℕ) × (v ≡ Raw k n)) → Numeric v
      by (n, e) = subst Numeric (sym e) a_raw

  module _ {K : Type 0} (κ0 : List Kind) (ts : List CoreType) (o : Owner) (x : List CoreType) (s : State) (w : World K) (g : Good p κ0 ts o x s) where
    -- the piece leaves a value of this type
    abbrev Makes : CoreType → Piece State K → Type 0
    Makes t f = Safe (GoodAt p κ0 ts o (t ∷ x)) NoWay IsRight (f s w)

    -- what an operator makes of two values
    abbrev made : ℕ → Operator → CoreValue → CoreValue → Piece State K
    made at op a b = with_found (operand_of a) (λ i. with_found (operand_of b) (λ j. computed at (binary (operator_of op) i j)))

    on_two_ints : (at : ℕ) (op : Operator) → OfInts op → (m n : ℤ) → Makes IntType (made at op (Int m) (Int n))
    on_two_ints at _ plus m n = safe_put p κ0 ts o x _ IntType s w g tt
    on_two_ints at _ minus m n = safe_put p κ0 ts o x _ IntType s w g tt
    on_two_ints at _ times m n = safe_put p κ0 ts o x _ IntType s w g tt
    on_two_ints at _ divide m (pos zero) = overs tt
    on_two_ints at _ divide m (pos (suc n)) = safe_put p κ0 ts o x _ IntType s w g tt
    on_two_ints at _ divide m (negsuc n) = safe_put p κ0 ts o x _ IntType s w g tt
    on_two_ints at _ remainder m (pos zero) = overs tt
    on_two_ints at _ remainder m (pos (suc n)) = safe_put p κ0 ts o x _ IntType s w g tt
    on_two_ints at _ remainder m (negsuc n) = safe_put p κ0 ts o x _ IntType s w g tt

    order_two_ints : (at : ℕ) (op : Operator) → Orders op → (m n : ℤ) → Makes BoolType (made at op (Int m) (Int n))
    order_two_ints at _ less m n = safe_put p κ0 ts o x _ BoolType s w g tt
    order_two_ints at _ at_most m n = safe_put p κ0 ts o x _ BoolType s w g tt
    order_two_ints at _ greater m n = safe_put p κ0 ts o x _ BoolType s w g tt
    order_two_ints at _ at_least m n = safe_put p κ0 ts o x _ BoolType s w g tt

    order_two_chars : (at : ℕ) (op : Operator) → Orders op → (m n : ℕ) → Makes BoolType (made at op (Char m) (Char n))
    order_two_chars at _ less m n = safe_put p κ0 ts o x _ BoolType s w g tt
    order_two_chars at _ at_most m n = safe_put p κ0 ts o x _ BoolType s w g tt
    order_two_chars at _ greater m n = safe_put p κ0 ts o x _ BoolType s w g tt
    order_two_chars at _ at_least m n = safe_put p κ0 ts o x _ BoolType s w g tt

    -- what is made where this holds
    only : (at : ℕ) (b : Bool) (c : Scalar) (t : CoreType) → b ≡ true → HasType p g.kinds (scalar_value c) t → Makes t (computed at (only_if b c))
    only at b c t e h = subst (λ z. Makes t (computed at (only_if z c))) (sym e) (safe_put p κ0 ts o x (scalar_value c) t s w g h)

    on_two_raws : (at : ℕ) (op : Operator) → OfBits op → (k m n : ℕ) → Makes (RawType k) (made at op (Raw k m) (Raw k n))
    on_two_raws at _ and k m n = only at (k == k) _ (RawType k) (eq_refl k) refl
    on_two_raws at _ or k m n = only at (k == k) _ (RawType k) (eq_refl k) refl
    on_two_raws at _ xor k m n = only at (k == k) _ (RawType k) (eq_refl k) refl

    shift_raw : (at : ℕ) (op : Operator) → Shifts op → (k m : ℕ) (n : ℤ) → Makes (RawType k) (made at op (Raw k m) (Int n))
    shift_raw at _ left_shift k m (pos n) = safe_put p κ0 ts o x _ (RawType k) s w g refl
    shift_raw at _ left_shift k m (negsuc n) = safe_put p κ0 ts o x _ (RawType k) s w g refl
    shift_raw at _ right_shift k m (pos n) = safe_put p κ0 ts o x _ (RawType k) s w g refl
    shift_raw at _ right_shift k m (negsuc n) = safe_put p κ0 ts o x _ (RawType k) s w g refl

    compare_two : (at : ℕ) (op : Operator) → Compares op → (a b : CoreValue) → Comparable a b → Makes BoolType (made at op a b)
    compare_two at _ equal _ _ two_ints = safe_put p κ0 ts o x _ BoolType s w g tt
    compare_two at _ equal _ _ two_truths = safe_put p κ0 ts o x _ BoolType s w g tt
    compare_two at _ equal _ _ two_chars = safe_put p κ0 ts o x _ BoolType s w g tt
    compare_two at _ equal _ _ (two_raws {k = k}) = only at (k == k) _ BoolType (eq_refl k) tt
    compare_two at _ equal _ _ two_nulls = safe_put p κ0 ts o x _ BoolType s w g tt
    compare_two at _ equal _ _ null_object = safe_put p κ0 ts o x _ BoolType s w g tt
    compare_two at _ equal _ _ object_null = safe_put p κ0 ts o x _ BoolType s w g tt
    compare_two at _ equal _ _ two_objects = safe_put p κ0 ts o x _ BoolType s w g tt
    compare_two at _ equal _ _ null_array' = safe_put p κ0 ts o x _ BoolType s w g tt
    compare_two at _ equal _ _ array_null = safe_put p κ0 ts o x _ BoolType s w g tt
    compare_two at _ equal _ _ two_arrays = safe_put p κ0 ts o x _ BoolType s w g tt
    compare_two at _ unequal _ _ two_ints = safe_put p κ0 ts o x _ BoolType s w g tt
    compare_two at _ unequal _ _ two_truths = safe_put p κ0 ts o x _ BoolType s w g tt
    compare_two at _ unequal _ _ two_chars = safe_put p κ0 ts o x _ BoolType s w g tt
    compare_two at _ unequal _ _ (two_raws {k = k}) = only at (k == k) _ BoolType (eq_refl k) tt
    compare_two at _ unequal _ _ two_nulls = safe_put p κ0 ts o x _ BoolType s w g tt
    compare_two at _ unequal _ _ null_object = safe_put p κ0 ts o x _ BoolType s w g tt
    compare_two at _ unequal _ _ object_null = safe_put p κ0 ts o x _ BoolType s w g tt
    compare_two at _ unequal _ _ two_objects = safe_put p κ0 ts o x _ BoolType s w g tt
    compare_two at _ unequal _ _ null_array' = safe_put p κ0 ts o x _ BoolType s w g tt
    compare_two at _ unequal _ _ array_null = safe_put p κ0 ts o x _ BoolType s w g tt
    compare_two at _ unequal _ _ two_arrays = safe_put p κ0 ts o x _ BoolType s w g tt

    -- two values that are known to be these
    these : (r : CoreType) (at : ℕ) (op : Operator) (a b c d : CoreValue) → a ≡ c → b ≡ d → Makes r (made at op c d) → Makes r (made at op a b)
    these r at op a b c d e f h = subst (λ z. Makes r (made at op z b)) (sym e) (subst (λ z. Makes r (made at op c z)) (sym f) h)

    makes : (at : ℕ) (op : Operator) (t u r : CoreType) → OpTakes p op t u r → (a b : CoreValue) → HasType p g.kinds a t → HasType p g.kinds b u
        → Makes r (made at op a b)
    makes at op _ _ _ (of_ints q) a b ha hb = let m = int_of p g.kinds a ha in let n = int_of p g.kinds b hb in
        these IntType at op a b (Int m.0) (Int n.0) m.1 n.1 (on_two_ints at op q m.0 n.0)
    makes at op _ _ _ (order_ints q) a b ha hb = let m = int_of p g.kinds a ha in let n = int_of p g.kinds b hb in
        these BoolType at op a b (Int m.0) (Int n.0) m.1 n.1 (order_two_ints at op q m.0 n.0)
    makes at op _ _ _ (order_chars q) a b ha hb = let m = char_of p g.kinds a ha in let n = char_of p g.kinds b hb in
        these BoolType at op a b (Char m.0) (Char n.0) m.1 n.1 (order_two_chars at op q m.0 n.0)
    makes at op _ _ _ (of_bits {k = k} q) a b ha hb = let m = raw_of p g.kinds a k ha in let n = raw_of p g.kinds b k hb in
        these (RawType k) at op a b (Raw k m.0) (Raw k n.0) m.1 n.1 (on_two_raws at op q k m.0 n.0)
    makes at op _ _ _ (shifts {k = k} q) a b ha hb = let m = raw_of p g.kinds a k ha in let n = int_of p g.kinds b hb in
        these (RawType k) at op a b (Raw k m.0) (Int n.0) m.1 n.1 (shift_raw at op q k m.0 n.0)
    makes at op _ _ _ (concat {j = j} {k = k} e) a b ha hb = let m = raw_of p g.kinds a j ha in let n = raw_of p g.kinds b k hb in
        these (RawType (j + k)) at op a b (Raw j m.0) (Raw k n.0) m.1 n.1 (only at (nat_le (j + k) 32) _ (RawType (j + k)) e refl)
    makes at op t u _ (compare_up q ct cu sub) a b ha hb = compare_two at op q a b (are_comparable g.kinds t u a b ct cu sub ha hb)
    makes at op t u _ (compare_down q ct cu sub) a b ha hb = compare_two at op q a b (other_way (are_comparable g.kinds u t b a cu ct sub hb ha))

    -- an operator on two values
    pub safe_operated : (at : ℕ) (op : Operator) (t u r : CoreType) → OpTakes p op t u r → (a b : CoreValue) → HasType p g.kinds a t → HasType p g.kinds b u
        → Makes r (operated p at op t u a b)
    safe_operated at op t u r q a b ha hb =
        safe_of_type p κ0 ts o x u b _ s w g hb (safe_of_type p κ0 ts o x t a _ s w g ha (makes at op t u r q a b ha hb))

    -- an operator on one value
    pub safe_applied : (op : Prefix) (t : CoreType) → PrefixTakes op t → (a : CoreValue) → HasType p g.kinds a t → Makes t (applied p op t a)
    safe_applied op t q a ha = safe_of_type p κ0 ts o x t a _ s w g ha (by op t q ha)
      where
        by : (op : Prefix) (t : CoreType) → PrefixTakes op t → HasType p g.kinds a t
            → Makes t (with_found (scalar_of a) (λ c. computed 0 (prefixed (prefix_of op) c)))
        by _ _ negative h = let m = int_of p g.kinds a h in
            subst (λ z. Makes IntType (with_found (scalar_of z) (λ c. computed 0 (prefixed operators.Negative c)))) (sym m.1)
            (safe_put p κ0 ts o x _ IntType s w g tt)
        by _ _ not_bool h = let m = truth_of p g.kinds a h in
            subst (λ z. Makes BoolType (with_found (scalar_of z) (λ c. computed 0 (prefixed operators.Not c)))) (sym m.1)
            (safe_put p κ0 ts o x _ BoolType s w g tt)
        by _ _ (complement {k = k}) h = let m = raw_of p g.kinds a k h in
            subst (λ z. Makes (RawType k) (with_found (scalar_of z) (λ c. computed 0 (prefixed operators.Complement c)))) (sym m.1)
            (safe_put p κ0 ts o x _ (RawType k) s w g refl)

    -- a cast among numbers
    safe_recasted : (at : ℕ) (f : Format) (u : CoreType) (v : CoreValue) → Numeric v → ((n : ℕ) → HasType p g.kinds (scalar_value (in_format f n)) u)
        → Makes u (recasted at f v)
    safe_recasted at f u _ an_int h = safe_put p κ0 ts o x _ u s w g (h _)
    safe_recasted at f u _ a_char h = safe_put p κ0 ts o x _ u s w g (h _)
    safe_recasted at f u _ a_raw h = safe_put p κ0 ts o x _ u s w g (h _)

    to_number : (at : ℕ) (u : CoreType) (v : CoreValue) → IsNumber u → Numeric v → Makes u (cast_to p at u v)
    to_number at _ v int_number n = safe_recasted at ToInt IntType v n (λ m. tt)
    to_number at _ v char_number n = safe_recasted at ToChar CharType v n (λ m. tt)
    to_number at _ v (raw_number {k = k}) n = safe_recasted at (ToBits k) (RawType k) v n (λ m. refl)

    module _ (formed : WellFormed p) where
      related : (b c d : ℕ) → is_below p b c ≡ true → Related p c d → one_hierarchy p b d ≡ true
      related b c d e r = by (top_there (above_in (slice_get p.classes b)) c e) (tops r)
        where
          top_there : (ks : List ℕ) (a : ℕ) → is_in ks a ≡ true → (z : ℕ) × (last_of ks ≡ Some z)
          top_there [] a q = absurd (let clash : false ≡ true = q in cc)
          top_there (k ∷ ks) a q = (_, refl)

          tops : Related p c d → top p d ≡ top p b
          tops (upward f) = sym (formed.one_top b c e ∙ formed.one_top c d f)
          tops (downward f) = sym (formed.one_top b c e ∙ sym (formed.one_top d c f))

          by : ((z : ℕ) × (top p b ≡ Some z)) → top p d ≡ top p b → both_same (top p b) (top p d) ≡ true
          by (z, ez) f = ap (λ u. both_same u (top p d)) ez ∙ (ap (both_same (Some z)) (f ∙ ez) ∙ eq_refl z)

      to_class : (at c d : ℕ) → Related p c d → (v : CoreValue) → HasType p g.kinds v (ClassType c) → Makes (ClassType d) (cast_to_class p at d v)
      to_class at c d r Null h = safe_put p κ0 ts o x Null (ClassType d) s w g tt
      to_class at c d r (Obj k) (b, ek, eb) =
          safe_class p κ0 ts o x k b (λ e. checked (one_hierarchy p e d) (stop_unless (is_below p e d) 4 at (put (Obj k)))) s w g ek
          (holds (one_hierarchy p b d) (stop_unless (is_below p b d) 4 at (put (Obj k))) s w (related b c d eb r)
          (stop_or (is_below p b d) 4 at (put (Obj k)) s w (λ e. safe_put p κ0 ts o x (Obj k) (ClassType d) s w g (b, ek, e))))
      to_class at c d r _ h = absurd h

      array_as_it_is : (at t : ℕ) (v : CoreValue) → HasType p g.kinds v (ArrayType t) → Makes (ArrayType t) (cast_to p at (ArrayType t) v)
      array_as_it_is at t Null h = safe_put p κ0 ts o x Null (ArrayType t) s w g tt
      array_as_it_is at t (Arr k) h = safe_put p κ0 ts o x (Arr k) (ArrayType t) s w g h
      array_as_it_is at t _ h = absurd h

      function_as_it_is : (at ps r : ℕ) (v : CoreValue) → HasType p g.kinds v (FunctionType ps r) → Makes (FunctionType ps r)
          (cast_to p at (FunctionType ps r) v)
      function_as_it_is at ps r Null h = safe_put p κ0 ts o x Null (FunctionType ps r) s w g tt
      function_as_it_is at ps r (Bound receiver m) h = safe_put p κ0 ts o x (Bound receiver m) (FunctionType ps r) s w g h
      function_as_it_is at ps r _ h = absurd h

      -- a cast
      pub safe_cast : (at : ℕ) (t u : CoreType) → Casts p t u → (v : CoreValue) → HasType p g.kinds v t → Makes u (cast_to p at u v)
      safe_cast at t u (numbers nt nu) v h = to_number at u v nu (is_numeric g.kinds t v nt h)
      safe_cast at _ _ bool_itself v h = let m = truth_of p g.kinds v h in
          subst (λ z. Makes BoolType (cast_to p at BoolType z)) (sym m.1) (safe_put p κ0 ts o x (Truth m.0) BoolType s w g tt)
      safe_cast at _ _ (array_itself {t = t}) v h = array_as_it_is at t v h
      safe_cast at _ _ (function_itself {ps = ps} {r = r}) v h = function_as_it_is at ps r v h
      safe_cast at _ _ (classes {c = c} {d = d} r) v h = to_class at c d r v h
      safe_cast at _ _ (null_to_class {d = d}) v h =
          subst (λ z. Makes (ClassType d) (cast_to_class p at d z)) (sym (null_of g.kinds v h)) (safe_put p κ0 ts o x Null (ClassType d) s w g tt)

      -- a class test
      pub safe_test : (c d : ℕ) → Related p c d → (v : CoreValue) → HasType p g.kinds v (ClassType c) → Makes BoolType (class_test p d v)
      safe_test c d r Null h = safe_put p κ0 ts o x (Truth false) BoolType s w g tt
      safe_test c d r (Obj k) (b, ek, eb) =
          safe_class p κ0 ts o x k b (λ e. checked (one_hierarchy p e d) (put (Truth (is_below p e d)))) s w g ek
          (holds (one_hierarchy p b d) (put (Truth (is_below p b d))) s w (related b c d eb r)
          (safe_put p κ0 ts o x (Truth (is_below p b d)) BoolType s w g tt))
      safe_test c d r _ h = absurd h
