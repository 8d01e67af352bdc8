use Rattle.vg_written_locals.proofs.Texts.{reads_so}
use Rattle.vg_written_locals.proofs.laws.locals_have_written_types.Goals as goal

pub returns : goal.returns
returns c = reads_so
