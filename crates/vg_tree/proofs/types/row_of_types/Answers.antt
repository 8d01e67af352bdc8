use Rattle.std.proofs.Common.{ap, ◌∙◌}
use Rattle.vg_tree.specs.Held.{type_row}
use Rattle.vg_tree.proofs.TypeLists.{type_of_row}
use Rattle.vg_tree.proofs.types.row_of_types.Goals as goal

pub returns : goal.returns
returns c texts = type_of_row texts c.reverse.new.self ∙ ap (type_row texts) c.reverse.ensures.items
