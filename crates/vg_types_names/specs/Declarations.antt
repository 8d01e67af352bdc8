-- The declarations of a text by name.
use Rattle.std.specs.Prelude.{◌≡◌, ℕ, suc, ◌==◌, ◌&&◌, Bool, true, false, List, [], ◌∷◌, Option, None}
use Rattle.vg_syntax.specs.Tree.{Node, Then, Text, ClassDecl, ComponentDecl, DeviceDecl, ProgramDecl}
use Rattle.vg_source.specs.Names.{Name}
use Rattle.vg_source.specs.Program.{declarations_of}
use Rattle.vg_rules.specs.Breach.{Breach, asks, ◌or◌}
use Rattle.vg_rules.specs.Names.{names_breach, programs}
use Rattle.vg_types_names.specs.declared.declaration.Sort.{Sort}
use Rattle.vg_types_names.specs.declared.declaration.Sort.TheVariants.{Class, Component, Device, Program}
use Rattle.vg_types_names.specs.declared.declaration.Declaration.{Declaration}
use Rattle.vg_types_names.specs.declared.declaration.Counts.{Counts}

-- Before the first declaration.
abbrev pub no_counts : Counts
no_counts = record { classes = 0; components = 0; devices = 0; programs = 0; all = 0 }

-- The number of the next declaration of this sort.
abbrev pub number : Sort → Counts → ℕ
number Class n = n.classes
number Component n = n.components
number Device n = n.devices
number Program n = n.programs

-- The next declaration, of this sort.
abbrev pub next_declaration : Sort → Counts → Declaration
next_declaration s n = record { sort = s; number = number s n; place = n.all }

-- Behind one more declaration of this sort.
abbrev pub counted : Sort → Counts → Counts
counted Class n = record n { classes = suc n.classes; all = suc n.all }
counted Component n = record n { components = suc n.components; all = suc n.all }
counted Device n = record n { devices = suc n.devices; all = suc n.all }
counted Program n = record n { programs = suc n.programs; all = suc n.all }

-- All declarations with their names, behind so many, in order of the text.
abbrev pub entries : Counts → Node → List (Name × Declaration)
entries n (Then (ClassDecl at c above members) rest) = (c, next_declaration Class n) ∷ entries (counted Class n) rest
entries n (Then (ComponentDecl at c members) rest) = (c, next_declaration Component n) ∷ entries (counted Component n) rest
entries n (Then (DeviceDecl at d registers) rest) = (d, next_declaration Device n) ∷ entries (counted Device n) rest
entries n (Then (ProgramDecl at p members) rest) = (p, next_declaration Program n) ∷ entries (counted Program n) rest
entries n _ = []

-- A node that is a declaration of a text.
abbrev pub is_declaration : Node → Bool
is_declaration (ClassDecl at c above members) = true
is_declaration (ComponentDecl at c members) = true
is_declaration (DeviceDecl at d registers) = true
is_declaration (ProgramDecl at p members) = true
is_declaration _ = false

-- All nodes of a row are declarations.
abbrev pub are_declarations : Node → Bool
are_declarations (Then d rest) = is_declaration d && are_declarations rest
are_declarations _ = true

-- The first breach of the rules on the names of declarations and on the number of program declarations.
abbrev pub names_part : Node → Option Breach
names_part (Text at ds) = names_breach [] ds or asks (programs ds == 1) 2 at
names_part _ = None

-- The map of the declarations of a text, each of which is one.
pub record IsMapOf (text : Node) (m : List (Name × Declaration)) : Type 0 where
  pub map : m ≡ entries no_counts (declarations_of text)
  pub declared : are_declarations (declarations_of text) ≡ true
