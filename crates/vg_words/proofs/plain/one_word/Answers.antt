use Rattle.vg_words.proofs.Counts.{none_of_one, one_of_one, more_than_one}
use Rattle.vg_words.proofs.plain.one_word.Goals as goal

pub returns-in-None : goal.returns-in-None
returns-in-None c = none_of_one _ c.in-None.ensures

pub returns-in-None-plain_word : goal.returns-in-None-plain_word
returns-in-None-plain_word c = one_of_one _ c.in-Some.word.now c.in-Some.ensures c.in-None-plain_word.ensures

pub returns-in-Some-plain_word : goal.returns-in-Some-plain_word
returns-in-Some-plain_word c = more_than_one _ c.in-Some-plain_word.field-0.now c.in-Some-plain_word.ensures
