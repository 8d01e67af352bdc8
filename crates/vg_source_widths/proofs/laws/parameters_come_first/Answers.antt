use Rattle.vg_source_widths.proofs.Added.{parameters_first}
use Rattle.vg_source_widths.proofs.laws.parameters_come_first.Goals as goal

pub returns : goal.returns
returns c = λ ds o ps body. parameters_first ds o ps body
