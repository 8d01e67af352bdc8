use Rattle.std.proofs.Common.{sym}
use Rattle.vg_costs.proofs.Costing.{nothing_more, no_method}
use Rattle.vg_costs.proofs.costs.put_member.Goals as goal

pub returns-in-None : goal.returns-in-None
returns-in-None c = record { costs = λ texts. nothing_more c.args.row.now _ (no_method texts c.args.member.now (sym c.in-None.ensures.some)) }
