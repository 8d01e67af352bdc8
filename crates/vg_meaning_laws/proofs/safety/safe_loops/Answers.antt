use Rattle.vg_meaning_laws.proofs.Safe.{safe_loop}
use Rattle.vg_meaning_laws.proofs.safety.safe_loops.Goals as goal

pub returns : goal.returns
returns g c = λ r d body next ticks never hc hb hn. safe_loop r _ _ _ ticks never d body next hc hb hn
