use Rattle.vg_number.proofs.Own.{number_own}
use Rattle.vg_number.proofs.laws.own_objects_come_first.Goals as goal

pub returns : goal.returns
returns c = λ p chains κ kept j cl k there e ks. number_own p chains κ kept j cl k there e ks
