use Rattle.vg_text_limits.proofs.Parameters.{few_parameters}
use Rattle.vg_text_limits.proofs.laws.texts_have_few_parameters.Goals as goal

pub returns : goal.returns
returns c = few_parameters
