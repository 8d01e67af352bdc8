-- The costs of a text that is refused for nothing are small, at the texts of its names and at none.
use Rattle.std.proofs.Common.{◌≡◌, ℕ, ◌≤◌, false, List, [], length, None, refl, sym, ◌∙◌, subst, arith}
use Rattle.vg_base.specs.Limits.{text_limit}
use Rattle.vg_syntax.specs.Tree.{Node, Text}
use Rattle.vg_syntax.specs.Numbering.{count_nodes}
use Rattle.vg_syntax.specs.Reads.{Reads}
use Rattle.vg_tree.specs.declared.node.Node as held
use Rattle.vg_tree.specs.Held.{node_at}
use Rattle.vg_tree_walks.specs.declared.tree.Tree.{Tree}
use Rattle.vg_tree_walks.specs.Whole.{tree_at}
use Rattle.vg_source.specs.Peak.{costs}
use Rattle.vg_source.specs.Program.{declarations_of}
use Rattle.vg_rules.specs.Refusal.{too_many}
use Rattle.vg_types_counts.specs.Tallies.{is_text}
use Rattle.vg_types_counts.proofs.Counting.{no_text}
use Rattle.vg_costs.specs.Small.{AreSmall}
use Rattle.vg_costs.proofs.Numbered.{costs_of_text, costs_of_none}
use Rattle.vg_costs.proofs.Few.{few_nodes}
use Rattle.vg_costs.proofs.Limited as limited
use Rattle.vg_costs.proofs.Alike as alike

inside : (text : Node) → count_nodes (declarations_of text) ≤ count_nodes text
inside (Text at ds) = omega arith
inside _ = omega arith

none : (texts : List (List ℕ)) (root : held.Node) → is_text root ≡ false → costs (tree_at texts (record { root = root })) ≡ []
none texts root h = costs_of_none (tree_at texts (record { root = root })) (no_text texts root h)

same : (texts : List (List ℕ)) (root : held.Node) → costs (tree_at texts (record { root = root })) ≡ costs (tree_at [] (record { root = root }))
same texts (held.Text' place p ds) =
    costs_of_text (tree_at texts (record { root = held.Text' place p ds })) (node_at texts ds) refl ∙ alike.declarations texts ds
    ∙ sym (costs_of_text (tree_at [] (record { root = held.Text' place p ds })) (node_at [] ds) refl)
same texts (held.Row' shape all) = none texts (held.Row' shape all) refl ∙ sym (none [] (held.Row' shape all) refl)
same texts (held.Arms' shape all) = none texts (held.Arms' shape all) refl ∙ sym (none [] (held.Arms' shape all) refl)
same texts _ = refl

pub small_named : (bytes : List ℕ) (texts : List (List ℕ)) (tree : Tree) → length bytes ≤ text_limit → Reads bytes (tree_at texts tree)
    → too_many (tree_at texts tree) ≡ None → AreSmall (costs (tree_at texts tree))
small_named bytes texts tree short reads fit =
    let few = few_nodes bytes (tree_at texts tree) short reads in
    let less = inside (tree_at texts tree) in
    limited.declarations (declarations_of (tree_at texts tree)) (limited.few_locals (tree_at texts tree) fit) (omega (arith, few, less))

pub small : (bytes : List ℕ) (texts : List (List ℕ)) (tree : Tree) → length bytes ≤ text_limit → Reads bytes (tree_at texts tree)
    → too_many (tree_at texts tree) ≡ None → AreSmall (costs (tree_at [] tree))
small bytes texts tree short reads fit = subst AreSmall (same texts tree.root) (small_named bytes texts tree short reads fit)
