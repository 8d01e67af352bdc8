use Rattle.vg_templates.proofs.Spotting.{takes_known, takes_known_number, takes_fetch}
use Rattle.vg_templates.proofs.spots.values_come.Goals as goal

pub returns-clause-known : goal.returns-clause-known
returns-clause-known c = λ e. takes_known e ⊥

pub returns-clause-number : goal.returns-clause-number
returns-clause-number c = λ e. takes_known_number e ⊥

pub returns-clause-fetch : goal.returns-clause-fetch
returns-clause-fetch c = λ e. takes_fetch e ⊥
