-- What string literals stand for.
use Rattle.std.proofs.Common.{◌≡◌, ℕ, List, refl, sym, ap, ◌∙◌, subst}
use Rattle.vg_meaning.specs.Code.{Do}
use Rattle.vg_syntax.specs.Tree.{Spot}
use Rattle.vg_tree.specs.declared.node.Node as held_node
use Rattle.vg_source.specs.Types as source_type
use Rattle.vg_source.specs.Nodes.{literal_nodes, place_in}
use Rattle.vg_source.specs.Steps as source
use Rattle.vg_source.specs.Resolved.{Fresh, IsValue}
use Rattle.vg_core.specs.declared.types.CoreType.TheVariants.{CharType, ArrayType}
use Rattle.vg_core.specs.declared.step.Step.TheVariants.{Literal}
use Rattle.vg_core.specs.HeldProgram.{code_of}
use Rattle.vg_core.specs.Naming.{named_code}
use Rattle.vg_types_tables.specs.declared.declared.Declared.{Declared}
use Rattle.vg_types_tables.specs.declared.locals.Locals.{Locals}
use Rattle.vg_types_tables.specs.declared.body.BodyKind.{BodyKind}
use Rattle.vg_types_tables.specs.declared.judged.Head.TheVariants.{Value}
use Rattle.vg_types_tables.specs.declared.judged.Standing.{Standing}
use Rattle.vg_types_tables.specs.Views.{declarations_at, naming, head_view}
use Rattle.vg_types_tables.specs.Declares.{Declares}
use Rattle.vg_types_tables.specs.Promises.{IsHead, Leaves}
use Rattle.vg_types_tables.proofs.TypeViews.{number_named}
use Rattle.vg_types_leaves.specs.Nodes.{string_node}

pub string_leaves : (texts : List (List ℕ)) (root : held_node.Node) (d : Declared) (k : BodyKind) (ls : Locals) (id n : ℕ) (at : Spot) (x : List ℕ)
    (j : Standing)
    → Declares texts root d → n ≡ place_in (literal_nodes (declarations_at texts root)) id → j.head ≡ Value (ArrayType d.tables.char_type)
    → code_of j.code ≡ Do (Literal n) → Leaves texts root d k ls (string_node id at x) Fresh j
string_leaves texts root d k ls id n at x j all en eh ec = record {
  head = ap (λ t. IsValue (source_type.ArrayType t))
      (sym (number_named d.tables (naming texts d) all.formed d.tables.char_type CharType all.formed.char_type)) ∙ ap (head_view texts d) (sym eh);
  does = ap (named_code (naming texts d) d.tables) ec ∙ ap (λ z. Do (source.Literal z)) en;
  scope = refl;
  known = subst (IsHead texts d) (sym eh) (CharType, all.formed.char_type);
}
