-- Mirrors: how the code goes through declarations. No clause of a public function cites them.
use Rattle.std.specs.Prelude.{◌≡◌, true, ℕ, ◌==◌, ◌≤◌, List, [], Option, Some, None, if◌then◌else◌}
use Rattle.vg_base.specs.declared.place.Place.{Place}
use Rattle.vg_syntax.specs.Tree.{Node, Text, ClassDecl, ComponentDecl, DeviceDecl, ProgramDecl}
use Rattle.vg_syntax.specs.Reads.{spot}
use Rattle.vg_tree.specs.declared.node.Node as held
use Rattle.vg_tree.specs.Held.{text_at}
use Rattle.vg_rules.specs.Breach.{Breach, ◌or◌}
use Rattle.vg_rules.specs.Names.{names_breach, programs}
use Rattle.vg_types_names.specs.declared.declaration.Sort.{Sort}
use Rattle.vg_types_names.specs.declared.declaration.Sort.TheVariants.{Class, Component, Device, Program}
use Rattle.vg_types_names.specs.declared.declaration.Declaration.{Declaration}
use Rattle.vg_types_names.specs.declared.declaration.Counts.{Counts}
use Rattle.vg_types_names.specs.Declarations.{entries, no_counts, are_declarations}
use Rattle.vg_types_names.specs.declared.declaration.Named.{Named as HeldNamed}

-- the sort and the name of a declaration
pub record Named : Type 0 where
  pub sort : Sort
  pub name : List ℕ

abbrev pub named_as : Node → Option Named
named_as (ClassDecl at c above members) = Some (record { sort = Class; name = c })
named_as (ComponentDecl at c members) = Some (record { sort = Component; name = c })
named_as (DeviceDecl at d registers) = Some (record { sort = Device; name = d })
named_as (ProgramDecl at p members) = Some (record { sort = Program; name = p })
named_as _ = None

abbrev pub named_view : List (List ℕ) → HeldNamed → Named
named_view texts n = record { sort = n.sort; name = text_at texts n.name }

-- there are no more of one sort than of all
pub record IsCounts (n : Counts) : Type 0 where
  pub classes : n.classes ≤ n.all
  pub components : n.components ≤ n.all
  pub devices : n.devices ≤ n.all
  pub programs : n.programs ≤ n.all

-- one program declaration is wanted of a text
abbrev pub one_program : ℕ → Option Breach
one_program n = if n == 1 then None else Some (record { rule = 2; node = 0 })

-- the part of a text whose declarations these are
abbrev pub names_in : Node → Option Breach
names_in ds = names_breach [] ds or one_program (programs ds)

-- the place of a text
abbrev pub place_of : held.Node → Place
place_of (held.Text' place p ds) = place
place_of _ = record { line = 1; col = 1 }

abbrev pub text_node : Place → Node → Node
text_node place ds = Text (spot place) ds

-- the map of these declarations, each of which is one
pub record IsMapIn (ds : Node) (m : List (List ℕ × Declaration)) : Type 0 where
  pub map : m ≡ entries no_counts ds
  pub declared : are_declarations ds ≡ true
