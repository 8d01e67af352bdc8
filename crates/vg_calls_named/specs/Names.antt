-- The methods of a typed program under their names.
use Rattle.std.specs.Prelude.{ℕ}
use Rattle.vg_core.specs.Naming.{Naming}
use Rattle.vg_calls_source.specs.Methods.{MethodName}

abbrev pub name_of : Naming → ℕ → MethodName
name_of n m = record { owner = (n.method m).owner; name = (n.method m).name }
