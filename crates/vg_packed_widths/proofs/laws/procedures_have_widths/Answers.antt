use Rattle.vg_packed_widths.proofs.Procedures.{have_widths}
use Rattle.vg_packed_widths.proofs.laws.procedures_have_widths.Goals as goal

pub returns : goal.returns
returns c = λ p n x ms take e. have_widths p n x ms take e
