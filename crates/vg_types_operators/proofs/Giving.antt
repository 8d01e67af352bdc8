-- What operators give: the type of the value by the types of the operands in the tables is that by the types that they stand for.
use Rattle.std.proofs.Common.{◌≡◌, ℕ, ◌+◌, ◌==◌, nat_le, Bool, true, false, List, Option, Some, None, if◌then◌else◌, refl, sym, ◌∙◌, subst, arith}
use Rattle.vg_syntax.specs.Tree.{Node}
use Rattle.vg_tree.specs.declared.node.Node as held_node
use Rattle.vg_source.specs.Types.{StaticType}
use Rattle.vg_source.specs.Resolved.{Head, IsValue, result_of}
use Rattle.vg_source.specs.Types as source
use Rattle.vg_rules.specs.Operands.{takes, ints, ordered, of_one_width, shifts, comparable}
use Rattle.vg_core.specs.declared.types.CoreType.{CoreType}
use Rattle.vg_core.specs.declared.types.CoreType.TheVariants.{IntType, BoolType, CharType, RawType}
use Rattle.vg_core.specs.declared.operator.Operator.{Operator}
use Rattle.vg_core.specs.declared.operator.Operator.TheVariants.{Concat}
use Rattle.vg_core.specs.Operators.{operator_of}
use Rattle.vg_core.specs.Typing as typing
use Rattle.vg_core.specs.Typing.{OfInts, Orders, Compares, OfBits, Shifts, OpTakes}
use Rattle.vg_types_tables.specs.declared.declared.Declared.{Declared}
use Rattle.vg_types_tables.specs.Views.{declarations_at, type_view}
use Rattle.vg_types_operators.specs.Operators.{sign_of, Gives}
use Rattle.vg_types_operators.specs.Operands.{arithmetic_type, order_type, bits_type, shift_type, concat_type}

-- ---- what the operators of a group ask, and what they give

takes_ints : (ds : Node) {o : Operator} → OfInts o → (t u : StaticType) → takes ds (sign_of o) t u ≡ ints t u
takes_ints ds typing.plus t u = refl
takes_ints ds typing.minus t u = refl
takes_ints ds typing.times t u = refl
takes_ints ds typing.divide t u = refl
takes_ints ds typing.remainder t u = refl

gives_int : {o : Operator} → OfInts o → (h k : Head) → result_of (operator_of o) h k ≡ IsValue source.IntType
gives_int typing.plus h k = refl
gives_int typing.minus h k = refl
gives_int typing.times h k = refl
gives_int typing.divide h k = refl
gives_int typing.remainder h k = refl

takes_ordered : (ds : Node) {o : Operator} → Orders o → (t u : StaticType) → takes ds (sign_of o) t u ≡ ordered t u
takes_ordered ds typing.less t u = refl
takes_ordered ds typing.at_most t u = refl
takes_ordered ds typing.greater t u = refl
takes_ordered ds typing.at_least t u = refl

gives_order : {o : Operator} → Orders o → (h k : Head) → result_of (operator_of o) h k ≡ IsValue source.BoolType
gives_order typing.less h k = refl
gives_order typing.at_most h k = refl
gives_order typing.greater h k = refl
gives_order typing.at_least h k = refl

takes_bits : (ds : Node) {o : Operator} → OfBits o → (t u : StaticType) → takes ds (sign_of o) t u ≡ of_one_width t u
takes_bits ds typing.and t u = refl
takes_bits ds typing.or t u = refl
takes_bits ds typing.xor t u = refl

gives_bits : {o : Operator} → OfBits o → (h k : Head) → result_of (operator_of o) h k ≡ h
gives_bits typing.and h k = refl
gives_bits typing.or h k = refl
gives_bits typing.xor h k = refl

takes_shift : (ds : Node) {o : Operator} → Shifts o → (t u : StaticType) → takes ds (sign_of o) t u ≡ shifts t u
takes_shift ds typing.left_shift t u = refl
takes_shift ds typing.right_shift t u = refl

gives_shift : {o : Operator} → Shifts o → (h k : Head) → result_of (operator_of o) h k ≡ h
gives_shift typing.left_shift h k = refl
gives_shift typing.right_shift h k = refl

takes_comparable : (ds : Node) {o : Operator} → Compares o → (t u : StaticType) → takes ds (sign_of o) t u ≡ comparable ds t u
takes_comparable ds typing.equal t u = refl
takes_comparable ds typing.unequal t u = refl

gives_truth : {o : Operator} → Compares o → (h k : Head) → result_of (operator_of o) h k ≡ IsValue source.BoolType
gives_truth typing.equal h k = refl
gives_truth typing.unequal h k = refl

one_width : (j k : ℕ) → (j == k) ≡ true → j ≡ k
one_width j k e = grind arith

module _ (texts : List (List ℕ)) (root : held_node.Node) (d : Declared) where
  abbrev ds : Node
  ds = declarations_at texts root

  abbrev view : CoreType → StaticType
  view t = type_view texts d t

  arithmetic : (o : Operator) → OfInts o → (t u : CoreType) → Gives texts root d o t u (arithmetic_type t u)
  arithmetic o s IntType IntType = (takes_ints ds s source.IntType source.IntType, gives_int s _ _, typing.of_ints s, tt)
  arithmetic o s IntType u = takes_ints ds s source.IntType (view u)
  arithmetic o s t u = takes_ints ds s (view t) (view u)

  order : (o : Operator) → Orders o → (t u : CoreType) → Gives texts root d o t u (order_type t u)
  order o s IntType IntType = (takes_ordered ds s source.IntType source.IntType, gives_order s _ _, typing.order_ints s, tt)
  order o s CharType CharType = (takes_ordered ds s source.CharType source.CharType, gives_order s _ _, typing.order_chars s, tt)
  order o s t u = takes_ordered ds s (view t) (view u)

  shift : (o : Operator) → Shifts o → (t u : CoreType) → Gives texts root d o t u (shift_type t u)
  shift o s (RawType k) IntType = (takes_shift ds s (source.RawType k) source.IntType, gives_shift s _ _, typing.shifts s, tt)
  shift o s t u = takes_shift ds s (view t) (view u)

  same_width : (o : Operator) → OfBits o → (j k : ℕ) (b : Bool) → (j == k) ≡ b
      → Gives texts root d o (RawType j) (RawType k) (if b then Some (RawType j) else None)
  same_width o s j k true e = (
    takes_bits ds s (source.RawType j) (source.RawType k) ∙ e,
    gives_bits s _ _,
    subst (λ z. OpTakes d.tables o (RawType j) (RawType z) (RawType j)) (one_width j k e) (typing.of_bits s),
    tt,
  )
  same_width o s j k false e = takes_bits ds s (source.RawType j) (source.RawType k) ∙ e

  bits : (o : Operator) → OfBits o → (t u : CoreType) → Gives texts root d o t u (bits_type t u)
  bits o s (RawType j) (RawType k) = same_width o s j k (j == k) refl
  bits o s t u = takes_bits ds s (view t) (view u)

  at_most_32 : (j k : ℕ) (b : Bool) → nat_le (j + k) 32 ≡ b
      → Gives texts root d Concat (RawType j) (RawType k) (if b then Some (RawType (j + k)) else None)
  at_most_32 j k true e = (e, refl, typing.concat e, tt)
  at_most_32 j k false e = e

  side : (t u : CoreType) → Gives texts root d Concat t u (concat_type t u)
  side (RawType j) (RawType k) = at_most_32 j k (nat_le (j + k) 32) refl
  side t u = refl

  -- what holds of an operator and a type holds of what is the same
  gives : (o q : Operator) (t u : CoreType) (r w : Option CoreType) → o ≡ q → r ≡ w → Gives texts root d q t u w → Gives texts root d o t u r
  gives o q t u r w eo er g = subst (λ z. Gives texts root d z t u r) (sym eo) (subst (Gives texts root d q t u) (sym er) g)

  pub is_arithmetic : (o q : Operator) (t u : CoreType) (r : Option CoreType) → o ≡ q → OfInts q → r ≡ arithmetic_type t u → Gives texts root d o t u r
  is_arithmetic o q t u r eo s er = gives o q t u r (arithmetic_type t u) eo er (arithmetic q s t u)

  pub is_order : (o q : Operator) (t u : CoreType) (r : Option CoreType) → o ≡ q → Orders q → r ≡ order_type t u → Gives texts root d o t u r
  is_order o q t u r eo s er = gives o q t u r (order_type t u) eo er (order q s t u)

  pub is_shift : (o q : Operator) (t u : CoreType) (r : Option CoreType) → o ≡ q → Shifts q → r ≡ shift_type t u → Gives texts root d o t u r
  is_shift o q t u r eo s er = gives o q t u r (shift_type t u) eo er (shift q s t u)

  pub is_bits : (o q : Operator) (t u : CoreType) (r : Option CoreType) → o ≡ q → OfBits q → r ≡ bits_type t u → Gives texts root d o t u r
  is_bits o q t u r eo s er = gives o q t u r (bits_type t u) eo er (bits q s t u)

  pub is_concat : (o : Operator) (t u : CoreType) (r : Option CoreType) → o ≡ Concat → r ≡ concat_type t u → Gives texts root d o t u r
  is_concat o t u r eo er = gives o Concat t u r (concat_type t u) eo er (side t u)

  -- whether two values are the same
  pub compared : (o : Operator) → Compares o → (t u : CoreType) → comparable ds (view t) (view u) ≡ true → OpTakes d.tables o t u BoolType
      → Gives texts root d o t u (Some BoolType)
  compared o s t u e h = (takes_comparable ds s (view t) (view u) ∙ e, gives_truth s _ _, h, tt)

  pub not_compared : (o : Operator) → Compares o → (t u : CoreType) → comparable ds (view t) (view u) ≡ false → Gives texts root d o t u None
  not_compared o s t u e = takes_comparable ds s (view t) (view u) ∙ e
