use Rattle.vg_step_words.proofs.Whole.{flat_few}
use Rattle.vg_step_words.proofs.laws.flat_code_takes_few_words.Goals as goal

pub returns : goal.returns
returns c = record { words = flat_few }
