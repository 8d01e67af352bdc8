use Rattle.std.proofs.Common.{length, ap, ◌∙◌}
use Rattle.std.proofs.lemmas.Result.{IfOk-weaker}
use Rattle.vg_alloc.specs.Locations.{layout}
use Rattle.vg_put_values.proofs.Counting.{found_counted}
use Rattle.vg_put_values.proofs.finding.found_in.Goals as goal

pub returns-clause-count : goal.returns-clause-count
returns-clause-count c =
    IfOk-weaker c.registers_of.result _ _
    (λ rs same. ap length same ∙ found_counted (layout c.args.locations.now) c.args.operand c.args.d c.args.count) c.registers_of.ensures
