use Rattle.std.proofs.Common.{sym}
use Rattle.vg_types_routines.proofs.owners.class_above.Goals as goal

pub returns-in-Some-class_of-clause-there : goal.returns-in-Some-class_of-clause-there
returns-in-Some-class_of-clause-there c = (c.requires.class_names _ c.in-Some-class_of.number (sym c.in-Some-class_of.ensures)).0
