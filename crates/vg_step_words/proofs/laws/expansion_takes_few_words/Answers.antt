use Rattle.vg_step_words.proofs.Expanding.{expansion_few}
use Rattle.vg_step_words.proofs.laws.expansion_takes_few_words.Goals as goal

pub returns : goal.returns
returns c = record { words = expansion_few }
