use Rattle.vg_firm_frames.proofs.Framed.{step_stays}
use Rattle.vg_firm_frames.proofs.framing.what_waits_below_stays.Goals as goal

pub returns : goal.returns
returns c = λ k f m n under p s w le. step_stays under k f m n p s w le
