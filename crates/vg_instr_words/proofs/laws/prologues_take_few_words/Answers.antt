use Rattle.vg_instr_words.proofs.Entering.{entered_words, framed_words, entries_few}
use Rattle.vg_instr_words.proofs.laws.prologues_take_few_words.Goals as goal

pub returns-clause-layouts : goal.returns-clause-layouts
returns-clause-layouts c = entered_words

pub returns-clause-framed : goal.returns-clause-framed
returns-clause-framed c = framed_words

pub returns-clause-most : goal.returns-clause-most
returns-clause-most c = entries_few
