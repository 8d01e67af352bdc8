-- Operators of two operands: their signs, and the types of their values.
use Rattle.std.specs.Prelude.{◌≡◌, ℕ, true, false, List, Option, Some, None}
use Rattle.vg_syntax.specs.declared.kind.Kind.{Kind}
use Rattle.vg_syntax.specs.declared.kind.Kind.TheVariants as kind
use Rattle.vg_tree.specs.declared.node.Node as held_node
use Rattle.vg_source.specs.Resolved.{IsValue, result_of}
use Rattle.vg_rules.specs.Operands.{takes}
use Rattle.vg_core.specs.declared.types.CoreType.{CoreType}
use Rattle.vg_core.specs.declared.operator.Operator.{Operator}
use Rattle.vg_core.specs.declared.operator.Operator.TheVariants as operator
use Rattle.vg_core.specs.Operators.{operator_of}
use Rattle.vg_core.specs.Typing.{OpTakes}
use Rattle.vg_types_tables.specs.declared.declared.Declared.{Declared}
use Rattle.vg_types_tables.specs.Views.{declarations_at, type_view}
use Rattle.vg_types_tables.specs.Declares.{IsKnown}

-- The sign of an operator.
abbrev pub sign_of : Operator → Kind
sign_of operator.Plus = kind.Plus
sign_of operator.Minus = kind.Minus
sign_of operator.Times = kind.Star
sign_of operator.Divide = kind.Slash
sign_of operator.Remainder = kind.Percent
sign_of operator.Less = kind.Less
sign_of operator.AtMost = kind.LessEqual
sign_of operator.Greater = kind.Greater
sign_of operator.AtLeast = kind.GreaterEqual
sign_of operator.Equal = kind.EqualEqual
sign_of operator.Unequal = kind.NotEqual
sign_of operator.And = kind.And
sign_of operator.Or = kind.Or
sign_of operator.Xor = kind.Xor
sign_of operator.ShiftLeft = kind.ShiftLeft
sign_of operator.ShiftRight = kind.ShiftRight
sign_of operator.Concat = kind.Concat

module _ (texts : List (List ℕ)) (root : held_node.Node) (d : Declared) where
  -- The type of an operator's value, where it takes operands of these types.
  abbrev pub Gives : Operator → (left right : CoreType) → Option CoreType → Type 0
  Gives o t u (Some r) =
      (takes (declarations_at texts root) (sign_of o) (type_view texts d t) (type_view texts d u) ≡ true)
      × (result_of (operator_of o) (IsValue (type_view texts d t)) (IsValue (type_view texts d u)) ≡ IsValue (type_view texts d r))
      × OpTakes d.tables o t u r × IsKnown d.tables r
  Gives o t u None = takes (declarations_at texts root) (sign_of o) (type_view texts d t) (type_view texts d u) ≡ false
