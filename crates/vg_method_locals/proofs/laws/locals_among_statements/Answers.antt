use Rattle.vg_method_locals.proofs.Texts.{reads_so}
use Rattle.vg_method_locals.proofs.laws.locals_among_statements.Goals as goal

pub returns : goal.returns
returns c = reads_so
