use Rattle.std.proofs.Common.{ap, ◌∙◌}
use Rattle.vg_tree.proofs.RowLists.{row_same}
use Rattle.vg_types_declared.specs.Apart.{are_members}
use Rattle.vg_types_declare.proofs.members.are_members.Goals as goal

pub returns-in-Row : goal.returns-in-Row
returns-in-Row c h texts =
    ap are_members (row_same c.args.members.now c.in-Row.nodes c.as_slice.result.now c.in-Row.is c.as_slice.ensures.value texts)
    ∙ c.all_members.ensures h texts
