use Rattle.vg_put_rows.proofs.Soundness.{lasting_as}
use Rattle.vg_put_rows.proofs.sample.lasting_procedure.Goals as goal

pub new-requires : goal.new-requires
new-requires c = lasting_as _ _ c.in_ok-widths.ensures c.in_ok-code.ensures
