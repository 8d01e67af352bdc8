use Rattle.vg_types_operators.proofs.Prefixing.{is_negative, is_not, is_complement}
use Rattle.vg_types_operators.proofs.prefix.prefix.Goals as goal

pub returns-in-IntType : goal.returns-in-IntType
returns-in-IntType c = λ texts d. is_negative texts d c.args.sign c.args.type_ c.in-Minus.is c.in-IntType.is

pub returns-in-BoolType : goal.returns-in-BoolType
returns-in-BoolType c = λ texts d. is_not texts d c.args.sign c.args.type_ c.in-Not.is c.in-BoolType.is

pub returns-in-RawType : goal.returns-in-RawType
returns-in-RawType c = λ texts d. is_complement texts d c.args.sign c.args.type_ c.in-RawType.field-0 c.in-Complement.is c.in-RawType.is
