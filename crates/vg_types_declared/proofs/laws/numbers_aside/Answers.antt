use Rattle.vg_types_declared.proofs.Numbered.{unnumbered}
use Rattle.vg_types_declared.proofs.laws.numbers_aside.Goals as goal

pub returns : goal.returns
returns c = unnumbered
