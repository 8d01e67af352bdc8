use Rattle.vg_put_rows.proofs.Soundness.{sound_pushing}
use Rattle.vg_put_rows.proofs.sample.pushing_procedure.Goals as goal

pub new-requires : goal.new-requires
new-requires c = sound_pushing c.args.params c.requires _ _ c.in_ok-widths.ensures c.in_ok-code.ensures
