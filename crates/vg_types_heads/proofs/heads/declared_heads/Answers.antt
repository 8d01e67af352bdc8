use Rattle.std.proofs.Common.{ap}
use Rattle.vg_tree.specs.Held.{row_at}
use Rattle.vg_types_heads.specs.Heads.{with_heads}
use Rattle.vg_types_heads.proofs.heads.declared_heads.Goals as goal

pub declarations-init : goal.declarations-init
declarations-init c = ap (with_heads (row_at c.args.names.now c.args.declarations.now)) (c.no_heads-heads.ensures c.args.names.now)
