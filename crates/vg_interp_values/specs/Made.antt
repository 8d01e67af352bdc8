-- What was made of operands, as a result of the code.
use Rattle.std.specs.Prelude.{◌≡◌, ℕ, Bool, true, false, Result, Ok, Err, Option, Some, None}
use Rattle.std.specs.Int.{w32, cast_unsigned}
use Rattle.vg_source.specs.Operators as operators
use Rattle.vg_source.specs.Operators.{Computed, Is, Fails, Unfit, Scalar, AnInt, ATruth, AChar, Bits, Operand, binary, prefixed, Format, recast}
use Rattle.vg_core.specs.declared.value.CoreValue.{CoreValue}
use Rattle.vg_core.specs.declared.operator.Operator.{Operator}
use Rattle.vg_core.specs.Operators.{scalar_value, operator_of}
use Rattle.vg_interp_values.specs.declared.failure.Failure.{Failure}
use Rattle.vg_interp_values.specs.declared.failure.Failure.TheVariants.{Fails as FailsWith, Unfit as HasUnfit, NoMemory}

-- What was made is this value.
abbrev pub IsValue : CoreValue → Computed → Type 0
IsValue v (Is s) = v ≡ scalar_value s
IsValue v _ = ⊥

-- The result is what was made, unless memory ran out.
abbrev pub Makes : Result CoreValue Failure → Computed → Type 0
Makes (Ok v) c = IsValue v c
Makes (Err (FailsWith code)) c = c ≡ Fails code
Makes (Err HasUnfit) c = c ≡ Unfit
Makes (Err NoMemory) c = Unit {0}

-- An operator on what may be operands.
abbrev pub of_operands : Operator → Option Operand → Option Operand → Computed
of_operands op (Some x) (Some y) = binary (operator_of op) x y
of_operands op _ _ = Unfit

-- An operator on what may be a scalar.
abbrev pub of_scalar : operators.Prefix → Option Scalar → Computed
of_scalar op (Some x) = prefixed op x
of_scalar op None = Unfit

-- A cast of what may be a scalar.
abbrev pub recast_of : Format → Option Scalar → Computed
recast_of f (Some x) = recast f x
recast_of f None = Unfit

-- The bits that count where a scalar is cast.
abbrev pub number_in : Option Scalar → Option ℕ
number_in (Some (AnInt x)) = Some (cast_unsigned w32 x)
number_in (Some (AChar c)) = Some c
number_in (Some (Bits k x)) = Some x
number_in _ = None

-- A value, where this holds.
abbrev pub value_if : Bool → CoreValue → Result CoreValue Failure
value_if true v = Ok v
value_if false v = Err HasUnfit
