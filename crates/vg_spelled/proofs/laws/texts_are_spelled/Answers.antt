use Rattle.vg_spelled.proofs.Texts.{reads_so}
use Rattle.vg_spelled.proofs.laws.texts_are_spelled.Goals as goal

pub returns : goal.returns
returns c = reads_so
