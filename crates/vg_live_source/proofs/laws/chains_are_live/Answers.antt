use Rattle.vg_live_source.proofs.Chains.{chain_live}
use Rattle.vg_live_source.proofs.laws.chains_are_live.Goals as goal

pub returns : goal.returns
returns c = λ p h y members lines chain. chain_live p h y members lines chain
