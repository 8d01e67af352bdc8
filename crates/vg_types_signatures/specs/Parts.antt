-- The part of a text's first breach behind the names of its declarations.
use Rattle.std.specs.Prelude.{Option, None}
use Rattle.vg_syntax.specs.Tree.{Node, Text}
use Rattle.vg_rules.specs.Breach.{Breach, ◌or◌}
use Rattle.vg_rules.specs.Names.{classes_breach}
use Rattle.vg_rules.specs.Signatures.{signatures_breach}

-- The first breach of the rules on classes above one another, and on what each declaration says for itself.
abbrev pub declared_part : Node → Option Breach
declared_part (Text at ds) = classes_breach ds ds or signatures_breach ds ds
declared_part _ = None
