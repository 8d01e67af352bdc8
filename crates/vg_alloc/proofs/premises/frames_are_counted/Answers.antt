use Rattle.vg_alloc.proofs.Spotting.{frame_counted, frame_few}
use Rattle.vg_alloc.proofs.premises.frames_are_counted.Goals as goal

pub returns-clause-bytes : goal.returns-clause-bytes
returns-clause-bytes c = frame_counted

pub returns-clause-few : goal.returns-clause-few
returns-clause-few c = frame_few
