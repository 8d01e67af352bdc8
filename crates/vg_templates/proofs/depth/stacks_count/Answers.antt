use Rattle.vg_templates.proofs.Counting.{exactly, at_most}
use Rattle.vg_templates.proofs.depth.stacks_count.Goals as goal

pub returns-clause-exact : goal.returns-clause-exact
returns-clause-exact c = exactly

pub returns-clause-most : goal.returns-clause-most
returns-clause-most c = at_most
