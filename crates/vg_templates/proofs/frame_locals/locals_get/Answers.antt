use Rattle.vg_templates.proofs.Settings.{fits_set, callers_set, points_set}
use Rattle.vg_templates.proofs.frame_locals.locals_get.Goals as goal

pub returns-clause-fits : goal.returns-clause-fits
returns-clause-fits c = fits_set

pub returns-clause-callers : goal.returns-clause-callers
returns-clause-callers c = callers_set

pub returns-clause-points : goal.returns-clause-points
returns-clause-points c = points_set
