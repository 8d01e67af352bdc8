use Rattle.vg_types_written.proofs.Written.{written}
use Rattle.vg_types_written.proofs.laws.fields_are_written.Goals as goal

pub returns : goal.returns
returns c = λ texts ds d kept left text same. written texts ds d kept left text same
