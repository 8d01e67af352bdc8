use Rattle.std.proofs.Common.{sym}
use Rattle.vg_costs.proofs.Costing.{nothing_more, no_class}
use Rattle.vg_costs.proofs.costs.put_declaration.Goals as goal

pub returns-in-None : goal.returns-in-None
returns-in-None c = record { costs = λ texts. nothing_more c.args.row.now _ (no_class texts c.args.declaration.now (sym c.in-None.ensures.some)) }
