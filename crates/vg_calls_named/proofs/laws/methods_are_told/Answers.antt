use Rattle.vg_calls_named.proofs.Spelled.{names_told}
use Rattle.vg_calls_named.proofs.laws.methods_are_told.Goals as goal

pub returns : goal.returns
returns c = λ texts text p written methods there. names_told texts text p written methods there
