use Rattle.vg_routine_frames.proofs.Starts.{start_within, start_short}
use Rattle.vg_routine_frames.proofs.laws.starts_take_few.Goals as goal

pub returns-clause-within : goal.returns-clause-within
returns-clause-within c = start_within

pub returns-clause-short : goal.returns-clause-short
returns-clause-short c = start_short
