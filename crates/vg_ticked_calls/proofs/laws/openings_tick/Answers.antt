use Rattle.vg_ticked_calls.proofs.Ticking as ticking
use Rattle.vg_ticked_calls.proofs.laws.openings_tick.Goals as goal

pub returns : goal.returns
returns c = λ k f n s t w v why x e. ticking.openings_tick k f n s t w v why x e
