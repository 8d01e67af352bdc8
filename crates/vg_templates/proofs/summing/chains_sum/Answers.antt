use Rattle.std.proofs.Common.{arith}
use Rattle.vg_templates.proofs.Sums.{adds-sums, subtracts-takes, takes_known-takes}
use Rattle.vg_templates.proofs.summing.chains_sum.Goals as goal

pub returns-clause-adds : goal.returns-clause-adds
returns-clause-adds c = λ flash low high d right g chip. adds-sums flash low high chip d right g

pub returns-clause-subtracts : goal.returns-clause-subtracts
returns-clause-subtracts c = λ flash low high d right g chip. subtracts-takes flash low high chip d right g

pub returns-clause-known : goal.returns-clause-known
returns-clause-known c = λ flash. takes_known-takes flash 0 32 (omega arith)
