-- Mirrors: how the code goes over classes. No clause of a public function cites them.
use Rattle.std.specs.Prelude.{ℕ, Bool, true, false, List, Option, Some, None}
use Rattle.std.specs.Option.{option_map}
use Rattle.vg_syntax.specs.Tree.{Node, ClassDecl}
use Rattle.vg_tree.specs.declared.node.Node as held
use Rattle.vg_tree.specs.Held.{text_at}
use Rattle.vg_source.specs.Names.{Name}
use Rattle.vg_rules.specs.Names.{extends_keeps}

-- the class above, of a node that is a class
abbrev pub class_at : List (List ℕ) → Option held.Node → Option (Option Name)
class_at texts (Some (held.ClassDecl' place name above p members)) = Some (option_map (text_at texts) above)
class_at texts _ = None

-- a declaration keeps the rule on what stands above classes
abbrev pub class_keeps : Node → Node → Bool
class_keeps ds (ClassDecl at c above members) = extends_keeps ds c above
class_keeps ds _ = true

-- a node is a class
abbrev pub is_class : held.Node → Bool
is_class (held.ClassDecl' place name above p members) = true
is_class _ = false
