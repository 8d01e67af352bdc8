-- When the names of declarations are those of a text.
use Rattle.std.specs.Prelude.{◌≡◌, ℕ, List, ◌∷◌, map, Option, Some, None, slice_get, is_some}
use Rattle.vg_syntax.specs.Tree.{Node}
use Rattle.vg_syntax.specs.Classes.{class_named}
use Rattle.vg_source.specs.Names.{Name}
use Rattle.vg_source.specs.Declared.{component_named, device_named}
use Rattle.vg_source.specs.Resolved.{register_of}
use Rattle.vg_types_views.specs.ByText.{found}
use Rattle.vg_types_tables.specs.Declares.{found_in}
use Rattle.vg_types_interned.specs.Types.{AreNumbered}
use Rattle.vg_types_heads.specs.Heads.{HeadsView}

-- The address of a register of a device by its number.
abbrev pub register_on : HeadsView → Option ℕ → Name → Option ℕ
register_on v (Some k) x = found_in x (slice_get v.registers k)
register_on v None x = None

-- Names are mapped to their places, each to one.
pub record Placed (m : List (Name × ℕ)) (names : List Name) : Type 0 where
  pub numbers : AreNumbered m
  pub back : (c : ℕ) (e : Name × ℕ) → slice_get m c ≡ Some e → found e.0 m ≡ Some c
  pub listed : map (λ e. e.0) m ≡ names

-- Each name finds what it names in the declarations, and numbers are places in order of the text.
pub record Agree (ds : Node) (v : HeadsView) : Type 0 where
  pub classes : (x : Name) → is_some (found x v.classes) ≡ is_some (class_named ds x)
  pub components : (x : Name) → is_some (found x v.components) ≡ is_some (component_named ds x)
  pub devices : (x : Name) → is_some (found x v.devices) ≡ is_some (device_named ds x)
  pub registers : (x y : Name) → register_on v (found x v.devices) y ≡ register_of (device_named ds x) y
  pub class_places : Placed v.classes v.class_names
  pub component_places : Placed v.components v.component_names
