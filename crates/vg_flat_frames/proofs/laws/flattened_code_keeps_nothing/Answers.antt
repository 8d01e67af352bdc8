use Rattle.vg_flat_frames.proofs.Frames.{nothing_kept, pushed_kept, start_none}
use Rattle.vg_flat_frames.proofs.laws.flattened_code_keeps_nothing.Goals as goal

pub returns-clause-homes : goal.returns-clause-homes
returns-clause-homes c = nothing_kept

pub returns-clause-pushed : goal.returns-clause-pushed
returns-clause-pushed c = pushed_kept

pub returns-clause-start : goal.returns-clause-start
returns-clause-start c = start_none
