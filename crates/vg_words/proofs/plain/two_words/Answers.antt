use Rattle.vg_words.proofs.Counts.{less_than_two, none_of_two, two_of_two, more_than_two}
use Rattle.vg_words.proofs.plain.two_words.Goals as goal

pub returns-in-None : goal.returns-in-None
returns-in-None c = less_than_two _ c.in-None.ensures

pub returns-in-None-plain_word-2 : goal.returns-in-None-plain_word-2
returns-in-None-plain_word-2 c = none_of_two _ c.in-None-plain_word-2.ensures

pub returns-in-Some-plain_word-2 : goal.returns-in-Some-plain_word-2
returns-in-Some-plain_word-2 c =
    two_of_two _ c.in-Some-plain_word-2.first.now c.in-Some.second.now c.in-Some-plain_word-2.ensures c.in-Some.ensures c.in-None-plain_word.ensures

pub returns-in-Some-plain_word : goal.returns-in-Some-plain_word
returns-in-Some-plain_word c = more_than_two _ c.in-Some-plain_word.field-0.now c.in-Some-plain_word.ensures
