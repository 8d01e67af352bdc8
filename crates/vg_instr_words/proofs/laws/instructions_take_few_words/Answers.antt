use Rattle.vg_instr_words.proofs.Entering.{framed_narrow}
use Rattle.vg_instr_words.proofs.Waiting.{waits_narrow}
use Rattle.vg_instr_words.proofs.Whole.{template_words}
use Rattle.vg_instr_words.proofs.laws.instructions_take_few_words.Goals as goal

pub returns-clause-words : goal.returns-clause-words
returns-clause-words c = template_words

pub returns-clause-layouts : goal.returns-clause-layouts
returns-clause-layouts c = framed_narrow

pub returns-clause-waits : goal.returns-clause-waits
returns-clause-waits c = waits_narrow
