use Rattle.std.proofs.Common.{Some, ◌∙◌}
use Rattle.vg_words.specs.Numbers.{number}
use Rattle.vg_words.proofs.Counts.{given_once}
use Rattle.vg_words.proofs.command.init_steps_in.Goals as goal

pub returns-in-None-value_of-clause-meaning : goal.returns-in-None-value_of-clause-meaning
returns-in-None-value_of-clause-meaning c =
    c.number.ensures.value ∙ given_once (Some 1000000) (number 9 100000000) _ c.in-Some.value.now c.in-Some.ensures c.in-None-value_of.ensures
