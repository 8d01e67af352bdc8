use Rattle.vg_types.proofs.Assembling.{program_named, names_told}
use Rattle.vg_types.proofs.assembly.program_assembled.Goals as goal

pub returns-clause-named : goal.returns-clause-named
returns-clause-named c = program_named

pub returns-clause-told : goal.returns-clause-told
returns-clause-told c = names_told
