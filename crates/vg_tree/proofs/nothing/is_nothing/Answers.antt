use Rattle.std.proofs.Common.{arith, sym, ap, ◌∙◌}
use Rattle.vg_tree.specs.Held.{node_at, arm_row}
use Rattle.vg_tree.specs.Nothing.{is_nothing}
use Rattle.vg_tree.proofs.RowLists.{node_of_row, empty_is_nothing}
use Rattle.vg_tree.proofs.ArmLists.{node_of_arms}
use Rattle.vg_tree.proofs.nothing.is_nothing.Goals as goal

pub returns-in-Row : goal.returns-in-Row
returns-in-Row c texts =
    c.is_empty.ensures ∙ empty_is_nothing texts c.in-Row.nodes.items c.in-Row.nodes.len (omega arith)
    ∙ ap is_nothing (sym (ap (node_at texts) c.in-Row.is ∙ node_of_row texts c.in-Row.nodes))

pub returns-in-Arms : goal.returns-in-Arms
returns-in-Arms c texts =
    c.has_no_pair.ensures texts ∙ ap (λ l. is_nothing (arm_row texts l)) c.as_slice.ensures.value
    ∙ ap is_nothing (sym (ap (node_at texts) c.in-Arms.is ∙ node_of_arms texts c.in-Arms.pairs))
