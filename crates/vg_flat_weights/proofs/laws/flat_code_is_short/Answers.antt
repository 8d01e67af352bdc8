use Rattle.vg_flat_weights.proofs.Whole.{code_short, whole_short, procedure_short}
use Rattle.vg_flat_weights.proofs.laws.flat_code_is_short.Goals as goal

pub returns-clause-code : goal.returns-clause-code
returns-clause-code c = code_short

pub returns-clause-whole : goal.returns-clause-whole
returns-clause-whole c = whole_short

pub returns-clause-procedures : goal.returns-clause-procedures
returns-clause-procedures c = procedure_short
