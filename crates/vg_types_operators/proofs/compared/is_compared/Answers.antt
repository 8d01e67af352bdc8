use Rattle.std.proofs.Common.{subst, sym}
use Rattle.vg_core.specs.Typing.{Compared, ints, bools, chars, raws, nulls, objects, arrays}
use Rattle.vg_types_operators.proofs.compared.is_compared.Goals as goal

pub returns-in-IntType-clause-typed : goal.returns-in-IntType-clause-typed
returns-in-IntType-clause-typed c = λ h. subst Compared (sym c.in-IntType.is) ints

pub returns-in-BoolType-clause-typed : goal.returns-in-BoolType-clause-typed
returns-in-BoolType-clause-typed c = λ h. subst Compared (sym c.in-BoolType.is) bools

pub returns-in-CharType-clause-typed : goal.returns-in-CharType-clause-typed
returns-in-CharType-clause-typed c = λ h. subst Compared (sym c.in-CharType.is) chars

pub returns-in-RawType-clause-typed : goal.returns-in-RawType-clause-typed
returns-in-RawType-clause-typed c = λ h. subst Compared (sym c.in-RawType.is) raws

pub returns-in-NullType-clause-typed : goal.returns-in-NullType-clause-typed
returns-in-NullType-clause-typed c = λ h. subst Compared (sym c.in-NullType.is) nulls

pub returns-in-ClassType-clause-typed : goal.returns-in-ClassType-clause-typed
returns-in-ClassType-clause-typed c = λ h. subst Compared (sym c.in-ClassType.is) objects

pub returns-in-ArrayType-clause-typed : goal.returns-in-ArrayType-clause-typed
returns-in-ArrayType-clause-typed c = λ h. subst Compared (sym c.in-ArrayType.is) arrays
