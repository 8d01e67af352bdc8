use Rattle.vg_open_costs.proofs.Cutting.{cut_back}
use Rattle.vg_open_costs.proofs.laws.runs_cut_back.Goals as goal

pub returns : goal.returns
returns c = λ p n reads interrupts legal. cut_back p reads interrupts n legal
