-- The names of declarations, in order of the text.
use Rattle.std.specs.Prelude.{ℕ, Bool, true, false, List, [], ◌∷◌, ◌++◌, length, map, Option}
use Rattle.std.specs.Option.{option_map}
use Rattle.vg_syntax.specs.Tree.{Node, Then, ClassDecl, ComponentDecl, DeviceDecl, RegisterDecl}
use Rattle.vg_tree.specs.declared.node.Node as held
use Rattle.vg_tree.specs.Held.{text_at}
use Rattle.vg_source.specs.Names.{Name}
use Rattle.vg_source.specs.Literals.{number_of}
use Rattle.vg_types_views.specs.ByText.{added}
use Rattle.vg_types_heads.specs.declared.heads.Heads.{Heads}

-- The numbers of classes, components and devices by their names; the names in order of the text; and of each device the addresses of its
-- registers by their names.
pub record HeadsView : Type 0 where
  pub classes : List (Name × ℕ)
  pub class_names : List Name
  pub above : List (Option Name)
  pub components : List (Name × ℕ)
  pub component_names : List Name
  pub devices : List (Name × ℕ)
  pub registers : List (List (Name × ℕ))

abbrev pub heads_view : List (List ℕ) → Heads → HeadsView
heads_view texts h = record {
  classes = h.classes;
  class_names = map (text_at texts) h.class_names;
  above = map (option_map (text_at texts)) h.above;
  components = h.components;
  component_names = map (text_at texts) h.component_names;
  devices = h.devices;
  registers = h.registers;
}

-- Before the first declaration.
abbrev pub no_heads : HeadsView
no_heads = record { classes = []; class_names = []; above = []; components = []; component_names = []; devices = []; registers = [] }

-- With one class more.
abbrev pub with_class : Name → Option Name → HeadsView → HeadsView
with_class c above v = record {
  classes = added c (length v.class_names) v.classes;
  class_names = v.class_names ++ c ∷ [];
  above = v.above ++ above ∷ [];
  components = v.components;
  component_names = v.component_names;
  devices = v.devices;
  registers = v.registers;
}

-- With one component more.
abbrev pub with_component : Name → HeadsView → HeadsView
with_component c v = record {
  classes = v.classes;
  class_names = v.class_names;
  above = v.above;
  components = added c (length v.component_names) v.components;
  component_names = v.component_names ++ c ∷ [];
  devices = v.devices;
  registers = v.registers;
}

-- With one device more.
abbrev pub with_device : Name → List (Name × ℕ) → HeadsView → HeadsView
with_device d rs v = record {
  classes = v.classes;
  class_names = v.class_names;
  above = v.above;
  components = v.components;
  component_names = v.component_names;
  devices = added d (length v.registers) v.devices;
  registers = v.registers ++ rs ∷ [];
}

-- With one register more.
abbrev pub with_register : Node → List (Name × ℕ) → List (Name × ℕ)
with_register (RegisterDecl at x number) m = added x (number_of number) m
with_register _ m = m

-- With all registers of a row.
abbrev pub with_registers : Node → List (Name × ℕ) → List (Name × ℕ)
with_registers (Then r rest) m = with_registers rest (with_register r m)
with_registers _ m = m

-- With one declaration more.
abbrev pub with_head : Node → HeadsView → HeadsView
with_head (ClassDecl at c above members) v = with_class c above v
with_head (ComponentDecl at c members) v = with_component c v
with_head (DeviceDecl at d registers) v = with_device d (with_registers registers []) v
with_head _ v = v

-- With all declarations of a row.
abbrev pub with_heads : Node → HeadsView → HeadsView
with_heads (Then d rest) v = with_heads rest (with_head d v)
with_heads _ v = v

-- ---- which nodes that the compiler holds are passed

-- A register.
abbrev pub is_register : held.Node → Bool
is_register (held.RegisterDecl place name number) = true
is_register _ = false

-- A class, component or device.
abbrev pub is_headed : held.Node → Bool
is_headed (held.ClassDecl' place name above p ms) = true
is_headed (held.ComponentDecl' place name p ms) = true
is_headed (held.DeviceDecl' place name p rs) = true
is_headed _ = false
