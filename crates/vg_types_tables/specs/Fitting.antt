-- A mirror of the code: what fits what among the types of the tables. No public clause cites it.
use Rattle.std.specs.Prelude.{Bool, true, false}
use Rattle.vg_core.specs.declared.types.CoreType.{CoreType}
use Rattle.vg_core.specs.declared.types.CoreType.TheVariants.{NullType, ClassType, ArrayType, FunctionType, NoType}
use Rattle.vg_core.specs.declared.program.Tables.{Tables}
use Rattle.vg_core.specs.Tables.{is_below}

-- A type fits another, where it is told whether they are equal.
abbrev pub fits_where : Tables → (type wanted : CoreType) → (equal : Bool) → Bool
fits_where p NoType u equal = false
fits_where p (ClassType c) (ClassType d) equal = is_below p c d
fits_where p NullType (ClassType d) equal = true
fits_where p NullType (ArrayType t) equal = true
fits_where p NullType (FunctionType ps r) equal = true
fits_where p t u equal = equal
