-- Operators on any two operands: scalars, and references by their cells.
use Rattle.std.proofs.Common.{◌≡◌, ◌⊎◌, refl, sym, ap, subst, ◌∙◌, arith, ℕ, ◌<◌, true, false, ◌==◌, List, length, Option, Some, None, slice_get}
use Rattle.std.specs.Bool.{one_answer}
use Rattle.std.specs.Cmp.{unsigned_Decides}
use Rattle.std.proofs.lemmas.Bool.Decides.{Decides-like}
use mathlib.Core.Logic.{inl, inr}
use Rattle.vg_codes.specs.Codes.{Codes}
use Rattle.vg_source.specs.Operators.{AnInt, ATruth, AChar, Bits, Operand, Plain, NoCell, ObjectCell, ArrayCell, binary}
use Rattle.vg_core.specs.declared.types.CoreType.{CoreType}
use Rattle.vg_core.specs.declared.types.CoreType.TheVariants.{IntType, BoolType, CharType, RawType, NullType, ClassType, ArrayType, FunctionType, NoType}
use Rattle.vg_core.specs.declared.types.CoreType.TheVariants.{MoreTypes}
use Rattle.vg_core.specs.declared.value.CoreValue.{CoreValue}
use Rattle.vg_core.specs.declared.value.CoreValue.TheVariants.{Int, Bool as Truth, Char, Raw, Null, Obj, Arr, Bound}
use Rattle.vg_core.specs.declared.heap.Cell.{Cell}
use Rattle.vg_core.specs.declared.heap.Cell.TheVariants.{Object, Array}
use Rattle.vg_core.specs.declared.heap.Heap.{Heap}
use Rattle.vg_core.specs.declared.operator.Operator.{Operator}
use Rattle.vg_core.specs.declared.program.Tables.{Tables}
use Rattle.vg_core.specs.Operators.{scalar_value, operand_of, operator_of}
use Rattle.vg_core.specs.Program.{Program}
use Rattle.vg_core.specs.State.{is_object, is_array, is_of}
use Rattle.vg_core.specs.Tables.{is_below, one_hierarchy}
use Rattle.vg_core.specs.Typing.{Sub, same, below, null_class, null_array, null_function, OpTakes, of_ints, order_ints, order_chars, of_bits, shifts, concat}
use Rattle.vg_core.specs.Typing.{compare_up, compare_down, WellFormed}
use Rattle.vg_firm.specs.Operators.{computed, has_strings}
use Rattle.vg_firm.specs.Program.{Program as FirmProgram}
use Rattle.vg_coded.specs.Numbers.{coded}
use Rattle.vg_coded.specs.Kept.{IsKept}
use Rattle.vg_coded.specs.Operators.{operator_for, StandsFor}
use Rattle.vg_coded.proofs.Computing.{comparisons, scalars}
use Rattle.vg_packing.specs.Layout.{Layout}
use Rattle.vg_packing.specs.Allowed.{IsObject, IsArray}
use Rattle.vg_packing.specs.Packs.{Holds}
use Rattle.vg_packing.specs.Laid.{Laid}
use Rattle.vg_packing.proofs.Pieces.{kind_there}
use Rattle.vg_packing.proofs.Places.{same_hierarchy}

-- ---- operands as values

abbrev pub value_of : Operand → CoreValue
value_of (Plain s) = scalar_value s
value_of NoCell = Null
value_of (ObjectCell j) = Obj j
value_of (ArrayCell j) = Arr j

abbrev pub IsOperand : CoreValue → Type 0
IsOperand x = (operand_of x ≡ None) ⊎ ((a : Operand) × (operand_of x ≡ Some a) × (x ≡ value_of a))

pub operand_is : (x : CoreValue) → IsOperand x
operand_is (Int n) = inr (Plain (AnInt n), refl, refl)
operand_is (Truth n) = inr (Plain (ATruth n), refl, refl)
operand_is (Char n) = inr (Plain (AChar n), refl, refl)
operand_is (Raw j n) = inr (Plain (Bits j n), refl, refl)
operand_is Null = inr (NoCell, refl, refl)
operand_is (Obj j) = inr (ObjectCell j, refl, refl)
operand_is (Arr j) = inr (ArrayCell j, refl, refl)
operand_is (Bound r m) = inl refl

-- ---- types of references

object_type : (p : Tables) (cells : List Cell) (t : CoreType) (j : ℕ) → is_of p cells t (Obj j) ≡ true
    → (c : ℕ) × (t ≡ ClassType c) × (is_object p c (slice_get cells j) ≡ true)
object_type p cells (ClassType c) j e = (c, refl, e)
object_type p cells IntType j e = absurd (let clash : false ≡ true = e in cc)
object_type p cells BoolType j e = absurd (let clash : false ≡ true = e in cc)
object_type p cells CharType j e = absurd (let clash : false ≡ true = e in cc)
object_type p cells (RawType k) j e = absurd (let clash : false ≡ true = e in cc)
object_type p cells NullType j e = absurd (let clash : false ≡ true = e in cc)
object_type p cells (ArrayType k) j e = absurd (let clash : false ≡ true = e in cc)
object_type p cells (FunctionType a b) j e = absurd (let clash : false ≡ true = e in cc)
object_type p cells NoType j e = absurd (let clash : false ≡ true = e in cc)
object_type p cells (MoreTypes a b) j e = absurd (let clash : false ≡ true = e in cc)

array_type : (p : Tables) (cells : List Cell) (t : CoreType) (j : ℕ) → is_of p cells t (Arr j) ≡ true
    → (c : ℕ) × (t ≡ ArrayType c) × (is_array c (slice_get cells j) ≡ true)
array_type p cells (ArrayType c) j e = (c, refl, e)
array_type p cells IntType j e = absurd (let clash : false ≡ true = e in cc)
array_type p cells BoolType j e = absurd (let clash : false ≡ true = e in cc)
array_type p cells CharType j e = absurd (let clash : false ≡ true = e in cc)
array_type p cells (RawType k) j e = absurd (let clash : false ≡ true = e in cc)
array_type p cells NullType j e = absurd (let clash : false ≡ true = e in cc)
array_type p cells (ClassType k) j e = absurd (let clash : false ≡ true = e in cc)
array_type p cells (FunctionType a b) j e = absurd (let clash : false ≡ true = e in cc)
array_type p cells NoType j e = absurd (let clash : false ≡ true = e in cc)
array_type p cells (MoreTypes a b) j e = absurd (let clash : false ≡ true = e in cc)

-- classes whose objects are compared are one, or one is below the other
abbrev Near : Tables → (c d : ℕ) → Type 0
Near p c d = (c ≡ d) ⊎ (is_below p c d ≡ true) ⊎ (is_below p d c ≡ true)

sub_classes : (p : Tables) (t u : CoreType) → Sub p t u → (c d : ℕ) → t ≡ ClassType c → u ≡ ClassType d → (c ≡ d) ⊎ (is_below p c d ≡ true)
sub_classes p t u (same {t = v}) c d e g = inl (let z : ClassType c ≡ ClassType d = sym e ∙ g in cc)
sub_classes p t u (below {c = a} {d = b} h) c d e g =
    let x : a ≡ c = cc in let y : b ≡ d = cc in inr (subst (λ z. is_below p z d ≡ true) x (subst (λ z. is_below p a z ≡ true) y h))
sub_classes p t u (null_class {d = b}) c d e g = absurd (let clash : NullType ≡ ClassType c = e in cc)
sub_classes p t u (null_array {t = b}) c d e g = absurd (let clash : NullType ≡ ClassType c = e in cc)
sub_classes p t u (null_function {ps = a} {r = b}) c d e g = absurd (let clash : NullType ≡ ClassType c = e in cc)

sub_arrays : (p : Tables) (t u : CoreType) → Sub p t u → (c d : ℕ) → t ≡ ArrayType c → u ≡ ArrayType d → c ≡ d
sub_arrays p t u (same {t = v}) c d e g = let z : ArrayType c ≡ ArrayType d = sym e ∙ g in cc
sub_arrays p t u (below {c = a} {d = b} h) c d e g = absurd (let clash : ClassType a ≡ ArrayType c = e in cc)
sub_arrays p t u (null_class {d = b}) c d e g = absurd (let clash : NullType ≡ ArrayType c = e in cc)
sub_arrays p t u (null_array {t = b}) c d e g = absurd (let clash : NullType ≡ ArrayType c = e in cc)
sub_arrays p t u (null_function {ps = a} {r = b}) c d e g = absurd (let clash : NullType ≡ ArrayType c = e in cc)

near_classes : (p : Tables) (op : Operator) (t u r : CoreType) → OpTakes p op t u r → (c d : ℕ) → t ≡ ClassType c → u ≡ ClassType d → Near p c d
near_classes p op t u r (of_ints h) c d e g = absurd (let clash : IntType ≡ ClassType c = e in cc)
near_classes p op t u r (order_ints h) c d e g = absurd (let clash : IntType ≡ ClassType c = e in cc)
near_classes p op t u r (order_chars h) c d e g = absurd (let clash : CharType ≡ ClassType c = e in cc)
near_classes p op t u r (of_bits {k = k} h) c d e g = absurd (let clash : RawType k ≡ ClassType c = e in cc)
near_classes p op t u r (shifts {k = k} h) c d e g = absurd (let clash : RawType k ≡ ClassType c = e in cc)
near_classes p op t u r (concat {j = j} {k = k} h) c d e g = absurd (let clash : RawType j ≡ ClassType c = e in cc)
near_classes p op t u r (compare_up h1 h2 h3 sub) c d e g = by (sub_classes p t u sub c d e g)
  where
    by : (c ≡ d) ⊎ (is_below p c d ≡ true) → Near p c d
    by (inl q) = inl q
    by (inr q) = inr (inl q)
near_classes p op t u r (compare_down h1 h2 h3 sub) c d e g = by (sub_classes p u t sub d c g e)
  where
    by : (d ≡ c) ⊎ (is_below p d c ≡ true) → Near p c d
    by (inl q) = inl (sym q)
    by (inr q) = inr (inr q)

near_arrays : (p : Tables) (op : Operator) (t u r : CoreType) → OpTakes p op t u r → (c d : ℕ) → t ≡ ArrayType c → u ≡ ArrayType d → c ≡ d
near_arrays p op t u r (of_ints h) c d e g = absurd (let clash : IntType ≡ ArrayType c = e in cc)
near_arrays p op t u r (order_ints h) c d e g = absurd (let clash : IntType ≡ ArrayType c = e in cc)
near_arrays p op t u r (order_chars h) c d e g = absurd (let clash : CharType ≡ ArrayType c = e in cc)
near_arrays p op t u r (of_bits {k = k} h) c d e g = absurd (let clash : RawType k ≡ ArrayType c = e in cc)
near_arrays p op t u r (shifts {k = k} h) c d e g = absurd (let clash : RawType k ≡ ArrayType c = e in cc)
near_arrays p op t u r (concat {j = j} {k = k} h) c d e g = absurd (let clash : RawType j ≡ ArrayType c = e in cc)
near_arrays p op t u r (compare_up h1 h2 h3 sub) c d e g = sub_arrays p t u sub c d e g
near_arrays p op t u r (compare_down h1 h2 h3 sub) c d e g = sym (sub_arrays p u t sub d c g e)

-- ---- what lies in the cells

object_there : (p : Tables) (c : ℕ) (o : Option Cell) → is_object p c o ≡ true → (d : ℕ) × (vs : List CoreValue) × (o ≡ Some (Object d vs))
    × (is_below p d c ≡ true)
object_there p c (Some (Object d vs)) e = (d, vs, refl, e)
object_there p c (Some (Array t vs)) e = absurd (let clash : false ≡ true = e in cc)
object_there p c None e = absurd (let clash : false ≡ true = e in cc)

array_there : (c : ℕ) (o : Option Cell) → is_array c o ≡ true → (vs : List CoreValue) × (o ≡ Some (Array c vs))
array_there c (Some (Array t vs)) e = (vs, ap (λ z. Some (Array z vs)) ((unsigned_Decides t c).0 e))
array_there c (Some (Object d vs)) e = absurd (let clash : false ≡ true = e in cc)
array_there c None e = absurd (let clash : false ≡ true = e in cc)

not_zero : (n : ℕ) → 0 < n → (0 == n) ≡ false
not_zero n h = grind (arith, h)

zero_not : (n : ℕ) → 0 < n → (n == 0) ≡ false
zero_not n h = grind (arith, h)

same_numbers : (a b c d : ℕ) → ((a ≡ b) → c ≡ d) → ((c ≡ d) → a ≡ b) → (c == d) ≡ (a == b)
same_numbers a b c d f g = one_answer _ _ (Decides-like (c == d) g f (unsigned_Decides c d)) (unsigned_Decides a b)

module _ (p : Program) (formed : WellFormed p.tables) (l : Layout) (k : Codes) (f : FirmProgram) (laid : Laid p l k f) (h : Heap) (cols : List (List ℕ))
    (q : Holds p.tables l k f h cols) where
  object_is : (t : CoreType) (j : ℕ) → is_of p.tables h.cells t (Obj j) ≡ true → 0 < l.numbering.number j
      → (c d : ℕ) × (t ≡ ClassType c) × IsObject l j d × (is_below p.tables d c ≡ true)
  object_is t j e kept = by (object_type p.tables h.cells t j e)
    where
      by : (c : ℕ) × (t ≡ ClassType c) × (is_object p.tables c (slice_get h.cells j) ≡ true)
          → (c1 d : ℕ) × (t ≡ ClassType c1) × IsObject l j d × (is_below p.tables d c1 ≡ true)
      by (c, et, is) = there (object_there p.tables c (slice_get h.cells j) is)
        where
          there : (d : ℕ) × (vs : List CoreValue) × (slice_get h.cells j ≡ Some (Object d vs)) × (is_below p.tables d c ≡ true)
              → (c1 d1 : ℕ) × (t ≡ ClassType c1) × IsObject l j d1 × (is_below p.tables d1 c1 ≡ true)
          there (d, vs, ec, eb) = (c, d, et, (kind_there p l k f h cols q j (Object d vs) ec, kept), eb)

  array_is : (t : CoreType) (j : ℕ) → is_of p.tables h.cells t (Arr j) ≡ true → 0 < l.numbering.number j
      → (c n : ℕ) × (t ≡ ArrayType c) × IsArray l j c n
  array_is t j e kept = by (array_type p.tables h.cells t j e)
    where
      by : (c : ℕ) × (t ≡ ArrayType c) × (is_array c (slice_get h.cells j) ≡ true) → (c1 n : ℕ) × (t ≡ ArrayType c1) × IsArray l j c1 n
      by (c, et, is) = there (array_there c (slice_get h.cells j) is)
        where
          there : (vs : List CoreValue) × (slice_get h.cells j ≡ Some (Array c vs)) → (c1 n : ℕ) × (t ≡ ArrayType c1) × IsArray l j c1 n
          there (vs, ec) = (c, length vs, et, (kind_there p l k f h cols q j (Array c vs) ec, kept))

  -- objects of related classes have one number exactly where they are one
  one_object : (op : Operator) (t u r : CoreType) → OpTakes p.tables op t u r → (i j : ℕ) → is_of p.tables h.cells t (Obj i) ≡ true
      → is_of p.tables h.cells u (Obj j) ≡ true → 0 < l.numbering.number i → 0 < l.numbering.number j → l.numbering.number i ≡ l.numbering.number j → i ≡ j
  one_object op t u r takes i j et eu ki kj n = by (object_is t i et ki) (object_is u j eu kj)
    where
      by : (c d : ℕ) × (t ≡ ClassType c) × IsObject l i d × (is_below p.tables d c ≡ true)
          → (c d : ℕ) × (u ≡ ClassType c) × IsObject l j d × (is_below p.tables d c ≡ true) → i ≡ j
      by (c, d, tc, oi, bi) (c', d', uc, oj, bj) = laid.one_object i j d d' oi oj (near (near_classes p.tables op t u r takes c c' tc uc)) n
        where
          near : Near p.tables c c' → one_hierarchy p.tables d d' ≡ true
          near (inl e) = same_hierarchy p.tables formed d d' c' (subst (λ z. is_below p.tables d z ≡ true) e bi) bj
          near (inr (inl e)) = same_hierarchy p.tables formed d d' c' (formed.trans d c c' bi e) bj
          near (inr (inr e)) = same_hierarchy p.tables formed d d' c bi (formed.trans d' c' c bj e)

  one_array : (op : Operator) (t u r : CoreType) → OpTakes p.tables op t u r → (i j : ℕ) → is_of p.tables h.cells t (Arr i) ≡ true
      → is_of p.tables h.cells u (Arr j) ≡ true → 0 < l.numbering.number i → 0 < l.numbering.number j → l.numbering.number i ≡ l.numbering.number j → i ≡ j
  one_array op t u r takes i j et eu ki kj n = by (array_is t i et ki) (array_is u j eu kj)
    where
      by : (c m : ℕ) × (t ≡ ArrayType c) × IsArray l i c m → (c m : ℕ) × (u ≡ ArrayType c) × IsArray l j c m → i ≡ j
      by (c, m, tc, ai) (c', m', uc, aj) =
          laid.one_array i j c' m m' (subst (λ z. IsArray l i z m) (near_arrays p.tables op t u r takes c c' tc uc) ai) aj n

  -- an operator on numbers gives the number of what the operator makes of the operands
  pub operands : (op : Operator) (t u r : CoreType) → OpTakes p.tables op t u r → (a b : Operand) → is_of p.tables h.cells t (value_of a) ≡ true
      → is_of p.tables h.cells u (value_of b) ≡ true → IsKept l.numbering (value_of a) → IsKept l.numbering (value_of b)
      → StandsFor (has_strings (operator_for op t u) (coded l.numbering k (value_of a)) (coded l.numbering k (value_of b)))
      (computed (operator_for op t u) (coded l.numbering k (value_of a)) (coded l.numbering k (value_of b))) (binary (operator_of op) a b)
  operands op t u r takes (Plain (AnInt a)) (Plain (AnInt b)) et eu ka kb = scalars p.tables h.cells op t u (AnInt a) (AnInt b) et eu ka kb
  operands op t u r takes (Plain (AnInt a)) (Plain (ATruth b)) et eu ka kb = tt
  operands op t u r takes (Plain (AnInt a)) (Plain (AChar b)) et eu ka kb = tt
  operands op t u r takes (Plain (AnInt a)) (Plain (Bits j b)) et eu ka kb = tt
  operands op t u r takes (Plain (ATruth a)) (Plain (AnInt b)) et eu ka kb = tt
  operands op t u r takes (Plain (ATruth a)) (Plain (ATruth b)) et eu ka kb = scalars p.tables h.cells op t u (ATruth a) (ATruth b) et eu tt tt
  operands op t u r takes (Plain (ATruth a)) (Plain (AChar b)) et eu ka kb = tt
  operands op t u r takes (Plain (ATruth a)) (Plain (Bits j b)) et eu ka kb = tt
  operands op t u r takes (Plain (AChar a)) (Plain (AnInt b)) et eu ka kb = tt
  operands op t u r takes (Plain (AChar a)) (Plain (ATruth b)) et eu ka kb = tt
  operands op t u r takes (Plain (AChar a)) (Plain (AChar b)) et eu ka kb = scalars p.tables h.cells op t u (AChar a) (AChar b) et eu ka kb
  operands op t u r takes (Plain (AChar a)) (Plain (Bits j b)) et eu ka kb = tt
  operands op t u r takes (Plain (Bits i a)) (Plain (AnInt b)) et eu ka kb = scalars p.tables h.cells op t u (Bits i a) (AnInt b) et eu ka kb
  operands op t u r takes (Plain (Bits i a)) (Plain (ATruth b)) et eu ka kb = tt
  operands op t u r takes (Plain (Bits i a)) (Plain (AChar b)) et eu ka kb = tt
  operands op t u r takes (Plain (Bits i a)) (Plain (Bits j b)) et eu ka kb = scalars p.tables h.cells op t u (Bits i a) (Bits j b) et eu ka kb
  operands op t u r takes (Plain s) NoCell et eu ka kb = tt
  operands op t u r takes (Plain s) (ObjectCell j) et eu ka kb = tt
  operands op t u r takes (Plain s) (ArrayCell j) et eu ka kb = tt
  operands op t u r takes NoCell (Plain s) et eu ka kb = tt
  operands op t u r takes NoCell NoCell et eu ka kb = comparisons op t u 0 0 true refl
  operands op t u r takes NoCell (ObjectCell j) et eu ka kb = comparisons op t u 0 (l.numbering.number j) false (not_zero (l.numbering.number j) kb)
  operands op t u r takes NoCell (ArrayCell j) et eu ka kb = comparisons op t u 0 (l.numbering.number j) false (not_zero (l.numbering.number j) kb)
  operands op t u r takes (ObjectCell i) (Plain s) et eu ka kb = tt
  operands op t u r takes (ObjectCell i) NoCell et eu ka kb = comparisons op t u (l.numbering.number i) 0 false (zero_not (l.numbering.number i) ka)
  operands op t u r takes (ObjectCell i) (ObjectCell j) et eu ka kb =
      comparisons op t u (l.numbering.number i) (l.numbering.number j) (i == j)
      (same_numbers i j (l.numbering.number i) (l.numbering.number j) (ap l.numbering.number) (one_object op t u r takes i j et eu ka kb))
  operands op t u r takes (ObjectCell i) (ArrayCell j) et eu ka kb = tt
  operands op t u r takes (ArrayCell i) (Plain s) et eu ka kb = tt
  operands op t u r takes (ArrayCell i) NoCell et eu ka kb = comparisons op t u (l.numbering.number i) 0 false (zero_not (l.numbering.number i) ka)
  operands op t u r takes (ArrayCell i) (ObjectCell j) et eu ka kb = tt
  operands op t u r takes (ArrayCell i) (ArrayCell j) et eu ka kb =
      comparisons op t u (l.numbering.number i) (l.numbering.number j) (i == j)
      (same_numbers i j (l.numbering.number i) (l.numbering.number j) (ap l.numbering.number) (one_array op t u r takes i j et eu ka kb))
