use Rattle.vg_templates.proofs.Comparing.{compares-tell, compares-less}
use Rattle.vg_templates.proofs.ordering.chains_compare.Goals as goal

pub returns-clause-tell : goal.returns-clause-tell
returns-clause-tell c = compares-tell

pub returns-clause-less : goal.returns-clause-less
returns-clause-less c = compares-less
