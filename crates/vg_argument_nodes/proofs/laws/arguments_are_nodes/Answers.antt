use Rattle.vg_argument_nodes.proofs.Texts.{reads_so}
use Rattle.vg_argument_nodes.proofs.laws.arguments_are_nodes.Goals as goal

pub returns : goal.returns
returns c = reads_so
