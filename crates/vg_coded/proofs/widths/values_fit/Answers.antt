use Rattle.vg_coded.proofs.Fitting.{value_fits}
use Rattle.vg_coded.proofs.widths.values_fit.Goals as goal

pub returns : goal.returns
returns c = λ n k small p cells t v e h. value_fits n k small p cells t v e h
