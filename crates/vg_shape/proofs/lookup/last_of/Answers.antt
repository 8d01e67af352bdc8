use Rattle.std.proofs.Common.{◌∙◌}
use Rattle.vg_shape.proofs.Lists.{last_is}
use Rattle.vg_shape.proofs.lookup.last_of.Goals as goal

pub returns : goal.returns
returns c = c.copied.ensures ∙ c.last.ensures.value ∙ last_is c.args.numbers.now
