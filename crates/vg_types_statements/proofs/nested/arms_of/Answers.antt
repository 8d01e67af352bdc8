use Rattle.vg_tree.proofs.ArmLists.{arms_same}
use Rattle.vg_types_statements.proofs.nested.arms_of.Goals as goal

pub returns-in-Arms : goal.returns-in-Arms
returns-in-Arms c = arms_same c.args.node.now c.in-Arms.pairs c.as_slice.result.now c.in-Arms.is c.as_slice.ensures.value
