use Rattle.vg_live_texts.proofs.Why.{why_hit}
use Rattle.vg_live_texts.proofs.delegate.why_hit_is_live.Goals as goal

pub returns : goal.returns
returns c = why_hit
