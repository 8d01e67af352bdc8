use Rattle.vg_routine_frames.proofs.Finders.{finder_within, finder_short}
use Rattle.vg_routine_frames.proofs.laws.finders_take_few.Goals as goal

pub returns-clause-within : goal.returns-clause-within
returns-clause-within c = finder_within

pub returns-clause-short : goal.returns-clause-short
returns-clause-short c = finder_short
