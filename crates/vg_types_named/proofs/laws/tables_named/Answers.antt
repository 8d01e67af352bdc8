use Rattle.vg_types_named.proofs.Tables.{components, classes, globals}
use Rattle.vg_types_named.proofs.laws.tables_named.Goals as goal

pub returns-clause-components : goal.returns-clause-components
returns-clause-components c texts ds d k l = components texts ds l.types l.heads l.homes d k l.left

pub returns-clause-classes : goal.returns-clause-classes
returns-clause-classes c texts ds d k l = classes texts ds l.types l.heads l.homes d k l.left

pub returns-clause-globals : goal.returns-clause-globals
returns-clause-globals c texts ds d k l = globals texts ds l.types l.heads l.homes d k l.left
