use Rattle.vg_types_named.proofs.Tell.{fields_tell, names_tell}
use Rattle.vg_types_named.proofs.laws.names_tell.Goals as goal

pub returns-clause-fields : goal.returns-clause-fields
returns-clause-fields c texts ds d k r m l = fields_tell texts ds l.types l.heads l.homes d k r m l.left

pub returns-clause-program : goal.returns-clause-program
returns-clause-program c = names_tell
