use Rattle.vg_step_words.proofs.Procedures.{procedures_few}
use Rattle.vg_step_words.proofs.laws.procedures_take_few_words.Goals as goal

pub returns : goal.returns
returns c = record { words = procedures_few }
