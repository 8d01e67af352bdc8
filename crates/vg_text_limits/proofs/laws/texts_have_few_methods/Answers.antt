use Rattle.vg_text_limits.proofs.Limits.{few_methods}
use Rattle.vg_text_limits.proofs.laws.texts_have_few_methods.Goals as goal

pub returns : goal.returns
returns c = few_methods
