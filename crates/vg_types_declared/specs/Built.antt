-- Tables that are built of what the passes over a text left.
use Rattle.std.specs.Prelude.{◌≡◌, ℕ, List, Option, length, map}
use Rattle.vg_core.specs.declared.program.Tables.{Tables}
use Rattle.vg_types_interned.specs.declared.table.Types.{Types}
use Rattle.vg_types_chains.specs.Chains.{Close}
use Rattle.vg_types_hierarchy.specs.Classes.{first_of, the_class}
use Rattle.vg_types_hierarchy.specs.Slots.{with_slot}
use Rattle.vg_types_homes.specs.declared.homes.Homes.{Homes}
use Rattle.vg_types_homes.specs.Homes.{AreHomes, homes_view}
use Rattle.vg_types_tables.specs.Declares.{IsFormed}
use Rattle.vg_types_declared.specs.Slots.{Slotted}

-- The tables of classes with these names and with the classes of these numbers above them, of these members and of these types.
pub record IsBuilt (types : Types) (homes : Homes) (most : ℕ) (names : List ℕ) (above : List (Option ℕ)) (p : Tables) : Type 0 where
  pub above_count : length above ≡ length names
  pub class_count : length types.classes ≡ length names
  pub class_table : p.classes ≡ first_of (the_class most names above homes.class_fields homes.class_methods homes.class_params) (length names)
  pub field_table : p.fields ≡ map (with_slot p.classes homes.class_fields) homes.making.fields
  pub global_table : p.globals ≡ homes.globals
  pub method_table : p.methods ≡ homes.making.methods
  pub type_table : p.types ≡ types.numbers.keys
  pub char_number : p.char_type ≡ 0

-- Where chains end by themselves and fields stand at their slots, such tables keep what tables keep.
abbrev pub BuiltFormed : List (List ℕ) → Types → Homes → Tables → Type 0
BuiltFormed texts types homes p =
    (most : ℕ) (names : List ℕ) (above : List (Option ℕ)) → IsBuilt types homes most names above p → Close most above
    → Slotted (homes_view texts types homes) → AreHomes texts types homes → IsFormed p
