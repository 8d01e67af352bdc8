-- Mirrors: how the code finds a class.
use Rattle.std.specs.Prelude.{ℕ, Bool, true, false, ◌==◌}
use Rattle.vg_tree.specs.declared.node.Node as held

-- whether a node is the declaration of a class of this name
abbrev pub names_class : ℕ → held.Node → Bool
names_class name (held.ClassDecl' place other above p ms) = other == name
names_class name _ = false

-- whether a node is a row
abbrev pub is_row : held.Node → Bool
is_row (held.Row' shape all) = true
is_row _ = false

-- whether a node is a whole text
abbrev pub is_text : held.Node → Bool
is_text (held.Text' place p declarations) = true
is_text _ = false
