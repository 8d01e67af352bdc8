use Rattle.std.proofs.Common.{[], ◌∷◌, ap, ◌∙◌}
use Rattle.std.specs.Prelude.{codes}
use Rattle.vg_words.specs.Writing.{items_of}
use Rattle.vg_words.proofs.Rereading.{rereads, plain_behind}
use Rattle.vg_words.proofs.writing.words_are_read_as_written.Goals as goal

pub returns-clause-ended : goal.returns-clause-ended
returns-clause-ended c = λ pieces h. rereads pieces [] h

pub returns-clause-dashed : goal.returns-clause-dashed
returns-clause-dashed c = λ pieces words h. rereads pieces (codes "--" ∷ words) h ∙ ap (items_of pieces) (plain_behind words)
