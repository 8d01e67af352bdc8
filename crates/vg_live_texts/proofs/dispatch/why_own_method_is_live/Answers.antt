use Rattle.vg_live_texts.proofs.Found.{why_own}
use Rattle.vg_live_texts.proofs.dispatch.why_own_method_is_live.Goals as goal

pub returns : goal.returns
returns c = why_own
