use Rattle.vg_put_rows.proofs.Soundness.{sound_as}
use Rattle.vg_put_rows.proofs.sample.sample_procedure.Goals as goal

pub new-requires : goal.new-requires
new-requires c = sound_as c.args.params c.requires _ _ c.in_ok-widths.ensures c.in_ok-code.ensures
