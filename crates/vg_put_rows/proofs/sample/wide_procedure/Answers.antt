use Rattle.vg_put_rows.proofs.Soundness.{sound_wide}
use Rattle.vg_put_rows.proofs.sample.wide_procedure.Goals as goal

pub new-requires : goal.new-requires
new-requires c = sound_wide _ _ c.in_ok-widths.ensures c.in_ok-code.ensures
