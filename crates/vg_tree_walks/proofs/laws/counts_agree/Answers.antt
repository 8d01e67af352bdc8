use Rattle.std.proofs.Common.{ap, ◌∙◌}
use Rattle.vg_syntax.specs.Outline.{size, total}
use Rattle.vg_syntax.proofs.Numbering.{count_numbered, code_numbered}
use Rattle.vg_tree.specs.Held.{node_at}
use Rattle.vg_tree_walks.proofs.Alike.{alike}
use Rattle.vg_tree_walks.proofs.laws.counts_agree.Goals as goal

pub returns-clause-nodes : goal.returns-clause-nodes
returns-clause-nodes c texts tree = count_numbered 0 (node_at texts tree.root) ∙ ap size (alike texts tree.root)

pub returns-clause-code : goal.returns-clause-code
returns-clause-code c texts tree = code_numbered 0 (node_at texts tree.root) ∙ ap total (alike texts tree.root)
