use Rattle.vg_types_named.proofs.Routines.{routines, whole, told}
use Rattle.vg_types_named.proofs.laws.program_named.Goals as goal

pub returns-clause-routines : goal.returns-clause-routines
returns-clause-routines c = routines

pub returns-clause-whole : goal.returns-clause-whole
returns-clause-whole c = whole

pub returns-clause-told : goal.returns-clause-told
returns-clause-told c = told
