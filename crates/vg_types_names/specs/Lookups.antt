-- What a look-up in the map of declarations finds.
use Rattle.std.specs.Prelude.{◌≡◌, ℕ, suc, ◌==◌, true, [], Option, Some, None, if◌then◌else◌}
use Rattle.vg_syntax.specs.Tree.{Node, Then, ClassDecl, ComponentDecl, DeviceDecl}
use Rattle.vg_syntax.specs.Classes.{ClassParts}
use Rattle.vg_source.specs.Names.{Name}
use Rattle.vg_rules.specs.Names.{names_breach}
use Rattle.vg_types_views.specs.ByText.{found}
use Rattle.vg_types_names.specs.declared.declaration.Declaration.{Declaration}
use Rattle.vg_types_names.specs.Declarations.{no_counts, entries, are_declarations}

-- The declaration at a place, where the first of the row has the place k.
abbrev pub node_from : (k : ℕ) → Node → (place : ℕ) → Option Node
node_from k (Then d rest) place = if k == place then Some d else node_from (suc k) rest place
node_from k _ place = None

-- The declaration that was found.
abbrev pub found_from : (k : ℕ) → Node → Option Declaration → Option Node
found_from k ds None = None
found_from k ds (Some d) = node_from k ds d.place

-- The declaration of this name.
abbrev pub declared_as : Node → Name → Option Node
declared_as ds x = found_from 0 ds (found x (entries no_counts ds))

-- The parts of a class.
abbrev pub class_parts : Option Node → Option ClassParts
class_parts (Some (ClassDecl at c above members)) = Some (record { at = at; above = above; members = members })
class_parts _ = None

-- The members of a component.
abbrev pub component_parts : Option Node → Option Node
component_parts (Some (ComponentDecl at c members)) = Some members
component_parts _ = None

-- The registers of a device.
abbrev pub device_parts : Option Node → Option Node
device_parts (Some (DeviceDecl at d registers)) = Some registers
device_parts _ = None

-- In declarations whose names differ, this look-up finds what the map finds.
abbrev pub Agrees : {P : Type 0} → (Node → Name → Option P) → (Option Node → Option P) → Type 0
Agrees look parts = (ds : Node) (x : Name) → names_breach [] ds ≡ None → are_declarations ds ≡ true → look ds x ≡ parts (declared_as ds x)
