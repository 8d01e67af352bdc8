use Rattle.vg_hex.proofs.Again.{read_again}
use Rattle.vg_hex.proofs.laws.read_again.Goals as goal

pub returns : goal.returns
returns c = read_again
