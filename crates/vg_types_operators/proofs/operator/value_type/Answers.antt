use Rattle.std.proofs.Common.{subst, sym}
use Rattle.vg_core.specs.declared.operator.Operator.TheVariants.{Plus, Minus, Times, Divide, Remainder, Less, AtMost, Greater, AtLeast}
use Rattle.vg_core.specs.declared.operator.Operator.TheVariants.{And, Or, Xor, ShiftLeft, ShiftRight}
use Rattle.vg_core.specs.Typing as typing
use Rattle.vg_types_operators.proofs.Giving.{is_arithmetic, is_order, is_bits, is_shift, is_concat}
use Rattle.vg_types_operators.proofs.operator.value_type.Goals as goal

pub comparison_type-requires-clause-compares : goal.comparison_type-requires-clause-compares
comparison_type-requires-clause-compares c = subst typing.Compares (sym c.in-Equal.is) typing.equal

pub comparison_type-requires-in-Unequal-clause-compares : goal.comparison_type-requires-in-Unequal-clause-compares
comparison_type-requires-in-Unequal-clause-compares c = subst typing.Compares (sym c.in-Unequal.is) typing.unequal

pub returns-in-Plus : goal.returns-in-Plus
returns-in-Plus c =
    is_arithmetic c.args.names.now c.args.root.now c.args.declared.now c.args.operator Plus c.args.left c.args.right
    c.arithmetic_type.result c.in-Plus.is typing.plus c.arithmetic_type.ensures

pub returns-in-Minus : goal.returns-in-Minus
returns-in-Minus c =
    is_arithmetic c.args.names.now c.args.root.now c.args.declared.now c.args.operator Minus c.args.left c.args.right
    c.arithmetic_type-in-Minus.result c.in-Minus.is typing.minus c.arithmetic_type-in-Minus.ensures

pub returns-in-Times : goal.returns-in-Times
returns-in-Times c =
    is_arithmetic c.args.names.now c.args.root.now c.args.declared.now c.args.operator Times c.args.left c.args.right
    c.arithmetic_type-in-Times.result c.in-Times.is typing.times c.arithmetic_type-in-Times.ensures

pub returns-in-Divide : goal.returns-in-Divide
returns-in-Divide c =
    is_arithmetic c.args.names.now c.args.root.now c.args.declared.now c.args.operator Divide c.args.left c.args.right
    c.arithmetic_type-in-Divide.result c.in-Divide.is typing.divide c.arithmetic_type-in-Divide.ensures

pub returns-in-Remainder : goal.returns-in-Remainder
returns-in-Remainder c =
    is_arithmetic c.args.names.now c.args.root.now c.args.declared.now c.args.operator Remainder c.args.left c.args.right
    c.arithmetic_type-in-Remainder.result c.in-Remainder.is typing.remainder c.arithmetic_type-in-Remainder.ensures

pub returns-in-Less : goal.returns-in-Less
returns-in-Less c =
    is_order c.args.names.now c.args.root.now c.args.declared.now c.args.operator Less c.args.left c.args.right
    c.order_type.result c.in-Less.is typing.less c.order_type.ensures

pub returns-in-AtMost : goal.returns-in-AtMost
returns-in-AtMost c =
    is_order c.args.names.now c.args.root.now c.args.declared.now c.args.operator AtMost c.args.left c.args.right
    c.order_type-in-AtMost.result c.in-AtMost.is typing.at_most c.order_type-in-AtMost.ensures

pub returns-in-Greater : goal.returns-in-Greater
returns-in-Greater c =
    is_order c.args.names.now c.args.root.now c.args.declared.now c.args.operator Greater c.args.left c.args.right
    c.order_type-in-Greater.result c.in-Greater.is typing.greater c.order_type-in-Greater.ensures

pub returns-in-AtLeast : goal.returns-in-AtLeast
returns-in-AtLeast c =
    is_order c.args.names.now c.args.root.now c.args.declared.now c.args.operator AtLeast c.args.left c.args.right
    c.order_type-in-AtLeast.result c.in-AtLeast.is typing.at_least c.order_type-in-AtLeast.ensures

pub returns-in-And : goal.returns-in-And
returns-in-And c =
    is_bits c.args.names.now c.args.root.now c.args.declared.now c.args.operator And c.args.left c.args.right
    c.bits_type.result c.in-And.is typing.and c.bits_type.ensures

pub returns-in-Or : goal.returns-in-Or
returns-in-Or c =
    is_bits c.args.names.now c.args.root.now c.args.declared.now c.args.operator Or c.args.left c.args.right
    c.bits_type-in-Or.result c.in-Or.is typing.or c.bits_type-in-Or.ensures

pub returns-in-Xor : goal.returns-in-Xor
returns-in-Xor c =
    is_bits c.args.names.now c.args.root.now c.args.declared.now c.args.operator Xor c.args.left c.args.right
    c.bits_type-in-Xor.result c.in-Xor.is typing.xor c.bits_type-in-Xor.ensures

pub returns-in-ShiftLeft : goal.returns-in-ShiftLeft
returns-in-ShiftLeft c =
    is_shift c.args.names.now c.args.root.now c.args.declared.now c.args.operator ShiftLeft c.args.left c.args.right
    c.shift_type.result c.in-ShiftLeft.is typing.left_shift c.shift_type.ensures

pub returns-in-ShiftRight : goal.returns-in-ShiftRight
returns-in-ShiftRight c =
    is_shift c.args.names.now c.args.root.now c.args.declared.now c.args.operator ShiftRight c.args.left c.args.right
    c.shift_type-in-ShiftRight.result c.in-ShiftRight.is typing.right_shift c.shift_type-in-ShiftRight.ensures

pub returns-in-Concat : goal.returns-in-Concat
returns-in-Concat c =
    is_concat c.args.names.now c.args.root.now c.args.declared.now c.args.operator c.args.left c.args.right
    c.concat_type.result c.in-Concat.is c.concat_type.ensures
