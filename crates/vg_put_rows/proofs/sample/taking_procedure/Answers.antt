use Rattle.vg_put_rows.proofs.Soundness.{taking_as}
use Rattle.vg_put_rows.proofs.sample.taking_procedure.Goals as goal

pub new-requires : goal.new-requires
new-requires c = taking_as _ _ c.in_ok-widths.ensures c.in_ok-code.ensures
