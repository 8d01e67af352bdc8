-- The parameters of a function type in the tables.
use Rattle.std.specs.Prelude.{ℕ, List}
use Rattle.std.specs.List.{AllByRecursion}
use Rattle.vg_core.specs.declared.types.CoreType.{CoreType}
use Rattle.vg_core.specs.declared.program.Tables.{Tables}
use Rattle.vg_core.specs.Tables.{IsRow}
use Rattle.vg_types_tables.specs.Declares.{IsKnown}

-- The types of the parameters whose row has this number.
pub record AreParams (p : Tables) (ts : List CoreType) (n : ℕ) : Type 0 where
  pub row : IsRow p ts n
  pub known : AllByRecursion (IsKnown p) ts
