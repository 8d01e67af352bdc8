use Rattle.vg_lin_frames.proofs.Framed.{code_above}
use Rattle.vg_lin_frames.proofs.framing.what_waits_below_stays.Goals as goal

pub returns : goal.returns
returns c = λ p call under x h d w. code_above p call under x h d w
