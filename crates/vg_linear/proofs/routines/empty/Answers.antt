use Rattle.std.proofs.Common.{arith}
use Rattle.vg_linear.proofs.Routined.{empty_as}
use Rattle.vg_linear.proofs.routines.empty.Goals as goal

pub new-requires-2 : goal.new-requires-2
new-requires-2 c = empty_as c.new.result c.push.new.self c.new.ensures (grind arith)
