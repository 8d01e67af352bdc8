use Rattle.vg_laid.proofs.Standing.{procedure_stands}
use Rattle.vg_laid.proofs.linked.linked_procedures_stand.Goals as goal

pub returns : goal.returns
returns c = λ e x p start code m procedure all sound linked. procedure_stands e x p start code m procedure all sound linked
