use Rattle.vg_types_chains.proofs.Closing.{close}
use Rattle.vg_types_chains.proofs.laws.chains_close.Goals as goal

pub returns : goal.returns
returns c = close
