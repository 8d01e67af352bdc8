use Rattle.std.proofs.Common.{◌≡◌, rules}
use Rattle.vg_cases.specs.Fewer.{fewer}
use Rattle.vg_cases.proofs.Few.{fewer_as}
use Rattle.vg_cases.proofs.dispatches.fewer.Goals as goal

pub returns-then-covers-clause-fewer : goal.returns-then-covers-clause-fewer
returns-then-covers-clause-fewer c =
    let e : c.in_ok-new.new ≡ fewer c.args.cases.now = search rules in fewer_as c.args.cases.now c.in_ok-new.new e
