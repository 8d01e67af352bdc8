use Rattle.std.proofs.Common.{arith}
use Rattle.vg_cases.proofs.Few.{all_fewer_as}
use Rattle.vg_cases.proofs.dispatches.fewer_of_all.Goals as goal

pub returns-clause-fewer : goal.returns-clause-fewer
returns-clause-fewer c =
    all_fewer_as c.args.dispatches.now c.loop-cases.rows c.loop-cases.cases-index (omega (arith, c.loop-cases-test.false)) c.loop-cases.invariant
