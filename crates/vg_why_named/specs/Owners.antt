-- Who declares a member.
use Rattle.std.specs.Prelude.{◌≡◌, ◌<◌, length, Some, slice_get}
use Rattle.vg_core.specs.declared.member.Member.{Member}
use Rattle.vg_core.specs.declared.member.Member.TheVariants.{Method, Field, Cell}
use Rattle.vg_core.specs.declared.program.Owner.{Owner}
use Rattle.vg_core.specs.declared.program.Owner.TheVariants.{InClass, InComponent}
use Rattle.vg_core.specs.declared.program.Field as field
use Rattle.vg_core.specs.declared.program.Tables.{Tables}

-- The class that declares something is one of the tables.
abbrev pub OwnerThere : Tables → Owner → Type 0
OwnerThere p (InClass d) = d < length p.classes
OwnerThere p (InComponent k) = Unit {0}

-- A method of the tables, or a field of them whose class is there too.
abbrev pub IsDeclared : Tables → Member → Type 0
IsDeclared p (Method m) = m < length p.methods
IsDeclared p (Field f) = (x : field.Field) × (slice_get p.fields f ≡ Some x) × OwnerThere p x.owner
IsDeclared p (Cell k) = ⊥
