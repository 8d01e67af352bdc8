use Rattle.std.proofs.Common.{◌∙◌, sym}
use Rattle.vg_reach_index.proofs.Rows.{sorts_nothing}
use Rattle.vg_reach_index.proofs.index.sort_cell.Goals as goal

pub returns-in-None : goal.returns-in-None
returns-in-None c = sorts_nothing c.args.heap.now c.args.rows.now.items c.args.cell (sym c.class_of.ensures ∙ c.in-None.is)
