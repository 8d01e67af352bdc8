use Rattle.vg_plan_laws.proofs.Filled.{values_stand}
use Rattle.vg_plan_laws.proofs.Planned.{stands_in, are_tabled, fits}
use Rattle.vg_plan_laws.proofs.laws.columns_are_planned.Goals as goal

pub returns-clause-columns : goal.returns-clause-columns
returns-clause-columns c = stands_in

pub returns-clause-tables : goal.returns-clause-tables
returns-clause-tables c = are_tabled

pub returns-clause-addresses : goal.returns-clause-addresses
returns-clause-addresses c = fits

pub returns-clause-values : goal.returns-clause-values
returns-clause-values c = values_stand
