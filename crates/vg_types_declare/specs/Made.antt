-- Mirrors: the tables are made of what the passes over declarations left. No clause of a public function cites them.
use Rattle.std.specs.Prelude.{◌≡◌, ℕ, List, Option, length, map}
use Rattle.vg_syntax.specs.Tree.{Node}
use Rattle.vg_source.specs.Names.{Name}
use Rattle.vg_types_heads.specs.declared.heads.Heads.{Heads}
use Rattle.vg_types_heads.specs.Heads.{heads_view, no_heads, with_heads}
use Rattle.vg_types_hierarchy.specs.Classes.{above_number, first_of, the_class}
use Rattle.vg_types_hierarchy.specs.Slots.{with_slot}
use Rattle.vg_types_homes.specs.declared.homes.Homes.{Homes}
use Rattle.vg_types_interned.specs.declared.table.Types.{Types}
use Rattle.vg_types_literals.specs.declared.walk.Literals.{Literals}
use Rattle.vg_types_tables.specs.declared.declared.Declared.{Declared}
use Rattle.vg_types_declare.specs.declared.parts.Others.{Others}
use Rattle.vg_types_declare.specs.declared.parts.Lists.{Lists}

-- the names of declarations, from their parts
abbrev pub whole : List (Name × ℕ) → (above : List (Option ℕ)) → Others → Heads
whole classes above others = record {
  classes = classes;
  class_names = others.class_names;
  above = above;
  components = others.components;
  component_names = others.component_names;
  devices = others.devices;
  registers = others.registers;
}

-- these parts are those of the names of declarations, where classes stand above classes by their numbers
pub record AreHeads (texts : List (List ℕ)) (ds : Node) (classes : List (Name × ℕ)) (numbers : List (Option ℕ)) (others : Others) : Type 0 where
  pub above : List (Option ℕ)
  pub left : heads_view texts (whole classes above others) ≡ with_heads ds no_heads
  pub numbers_are : numbers ≡ map (above_number texts classes) above

-- the lists that are made anew
pub record IsMade (most : ℕ) (names : List ℕ) (above : List (Option ℕ)) (types : Types) (homes : Homes) (l : Lists) : Type 0 where
  pub classes : l.classes ≡ first_of (the_class most names above homes.class_fields homes.class_methods homes.class_params) (length names)
  pub fields : l.fields ≡ map (with_slot l.classes homes.class_fields) homes.making.fields
  pub types_are : l.types ≡ types.numbers.keys

-- all that is declared
pub record IsMoved (others : Others) (types : Types) (homes : Homes) (l : Lists) (literals : Literals) (d : Declared) : Type 0 where
  pub class_table : d.tables.classes ≡ l.classes
  pub component_table : d.tables.components ≡ others.component_names
  pub field_table : d.tables.fields ≡ l.fields
  pub global_table : d.tables.globals ≡ homes.globals
  pub method_table : d.tables.methods ≡ homes.making.methods
  pub target_table : d.tables.targets ≡ homes.targets
  pub type_table : d.tables.types ≡ l.types
  pub literal_table : d.tables.literals ≡ literals.texts
  pub char_number : d.tables.char_type ≡ 0
  pub class_map : d.classes ≡ types.classes
  pub component_map : d.components ≡ others.components
  pub device_map : d.devices ≡ others.devices
  pub class_member_maps : d.class_members ≡ homes.class_members
  pub component_member_maps : d.component_members ≡ homes.component_members
  pub register_maps : d.registers ≡ others.registers
  pub literal_nodes : d.literal_nodes.keys ≡ literals.nodes.keys
  pub type_numbers : d.type_numbers.keys ≡ types.numbers.keys
