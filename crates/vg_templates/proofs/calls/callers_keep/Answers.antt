use Rattle.vg_templates.proofs.Saving.{callers_still}
use Rattle.vg_templates.proofs.calls.callers_keep.Goals as goal

pub returns : goal.returns
returns c = callers_still
