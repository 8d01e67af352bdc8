use Rattle.std.proofs.Common.{◌∙◌}
use Rattle.vg_drive.proofs.Tries.{answers_as}
use Rattle.vg_drive.proofs.trial.build_generated.Goals as goal

pub returns : goal.returns
returns c = answers_as _ _ _ _ c.build.result (c.as_slice.ensures.value ∙ c.in-Ok.ensures.text) c.build.ensures.headline c.build.ensures.refused
