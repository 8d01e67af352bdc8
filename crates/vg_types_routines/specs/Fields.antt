-- The fields that an owner declares itself.
use Rattle.std.specs.Prelude.{◌≡◌, ℕ, List, slice_get, Some}
use Rattle.vg_syntax.specs.Tree.{Spot, TypeTree, Node, FieldDecl}
use Rattle.vg_syntax.specs.Numbering.{with_id}
use Rattle.vg_source.specs.Names.{Name}
use Rattle.vg_core.specs.declared.types.CoreType.{CoreType}
use Rattle.vg_core.specs.declared.program.Field.{Field}
use Rattle.vg_core.specs.declared.program.Owner.{Owner}
use Rattle.vg_core.specs.declared.program.Tables.{Tables}
use Rattle.vg_core.specs.Naming.{Key, owner_name}
use Rattle.vg_types_tables.specs.declared.declared.Declared.{Declared}

-- a field of this number and place
abbrev pub field_node : ℕ → Spot → Name → TypeTree → Node → Node
field_node id at x t value = FieldDecl (with_id id at) x t value

-- the name of a field of this owner
abbrev pub key_of : (texts : List (List ℕ)) → Declared → Owner → Name → Key
key_of texts d o x = record { owner = owner_name texts d.tables o; name = x }

-- a field that this owner declares itself, with this type
abbrev pub IsOwn : Tables → Owner → CoreType → ℕ → Type 0
IsOwn p o t f = (y : Field) × (slice_get p.fields f ≡ Some y) × (y.owner ≡ o) × (y.type_ ≡ t)
