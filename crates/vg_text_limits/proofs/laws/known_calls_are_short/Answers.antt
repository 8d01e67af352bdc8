use Rattle.vg_text_limits.proofs.Calling.{calls_are_short}
use Rattle.vg_text_limits.proofs.laws.known_calls_are_short.Goals as goal

pub returns : goal.returns
returns c = calls_are_short
