use Rattle.std.proofs.Common.{arith}
use Rattle.vg_cases.proofs.Covered.{all_covered, covers_is}
use Rattle.vg_cases.proofs.covering.covers.Goals as goal

pub returns-clause-covers : goal.returns-clause-covers
returns-clause-covers c h =
    covers_is c.args.new.now c.args.old.now
    (all_covered c.args.new.now c.args.old.now c.loop-case.case-index (omega (arith, c.loop-case-test.false)) c.loop-case.invariant)
