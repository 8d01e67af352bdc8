use Rattle.vg_step_words.proofs.Steps.{steps_few}
use Rattle.vg_step_words.proofs.laws.steps_take_few_words.Goals as goal

pub returns : goal.returns
returns c = record { words = steps_few }
