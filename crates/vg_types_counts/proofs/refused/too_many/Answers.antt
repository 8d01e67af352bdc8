use Rattle.std.proofs.Common.{sym, ap, ◌∙◌}
use Rattle.vg_syntax.specs.Tree.{Nothing}
use Rattle.vg_tree.specs.Held.{node_at}
use Rattle.vg_tree_walks.specs.Whole.{tree_at}
use Rattle.vg_types_counts.specs.Answer.{answer}
use Rattle.vg_types_counts.specs.Tallies.{tally_declarations}
use Rattle.vg_types_counts.proofs.Counting.{text_counted, no_text}
use Rattle.vg_types_counts.proofs.refused.too_many.Goals as goal

pub returns-in-Some : goal.returns-in-Some
returns-in-Some c texts =
    c.answer.ensures ∙ ap answer (c.tally_declarations.ensures.tally texts)
    ∙ ap (λ t. answer (tally_declarations t (node_at texts c.in-Some.declarations.now))) c.first_tally.ensures.tally
    ∙ text_counted (tree_at texts c.args.tree.now) (node_at texts c.in-Some.declarations.now) (c.in-Some.ensures.declarations texts)

pub returns-in-None : goal.returns-in-None
returns-in-None c texts =
    text_counted (tree_at texts c.args.tree.now) Nothing (no_text texts c.args.tree.now.root (sym c.in-None.ensures.some))
