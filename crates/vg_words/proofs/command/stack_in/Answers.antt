use Rattle.std.proofs.Common.{None, Some, ◌∙◌}
use Rattle.vg_words.specs.Commands.{stack_value}
use Rattle.vg_words.proofs.Counts.{given_once}
use Rattle.vg_words.proofs.command.stack_in.Goals as goal

pub returns-in-None-value_of-clause-meaning : goal.returns-in-None-value_of-clause-meaning
returns-in-None-value_of-clause-meaning c =
    c.stack_value.ensures.meaning ∙ given_once (Some None) stack_value _ c.in-Some.value.now c.in-Some.ensures c.in-None-value_of.ensures
