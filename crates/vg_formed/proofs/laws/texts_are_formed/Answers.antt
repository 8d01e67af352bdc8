use Rattle.vg_formed.proofs.Texts.{reads_so}
use Rattle.vg_formed.proofs.laws.texts_are_formed.Goals as goal

pub returns : goal.returns
returns c = reads_so
