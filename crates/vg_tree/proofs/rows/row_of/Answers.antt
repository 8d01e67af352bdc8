use Rattle.std.proofs.Common.{ap, ◌∙◌}
use Rattle.vg_tree.specs.Held.{row_at}
use Rattle.vg_tree.proofs.RowLists.{node_of_row}
use Rattle.vg_tree.proofs.rows.row_of.Goals as goal

pub returns : goal.returns
returns c texts = node_of_row texts c.reverse.new.self ∙ ap (row_at texts) c.reverse.ensures.items
