use Rattle.vg_routine_frames.proofs.Routines.{standing_within, standing_short}
use Rattle.vg_routine_frames.proofs.laws.routines_take_few.Goals as goal

pub returns-clause-within : goal.returns-clause-within
returns-clause-within c = λ first ps which above room. standing_within above room first ps which

pub returns-clause-short : goal.returns-clause-short
returns-clause-short c = standing_short
