use Rattle.std.proofs.Common.{arith}
use Rattle.vg_flatten.proofs.Starting.{start_as}
use Rattle.vg_flatten.proofs.procedure.start.Goals as goal

pub new-requires-2 : goal.new-requires-2
new-requires-2 c = start_as c.args.main c.args.receives c.new.result c.push-3.new.self c.new.ensures (grind arith)
