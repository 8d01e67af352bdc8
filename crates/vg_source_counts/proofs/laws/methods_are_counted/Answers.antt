use Rattle.vg_source_counts.proofs.Methods.{methods_counted}
use Rattle.vg_source_counts.proofs.laws.methods_are_counted.Goals as goal

pub returns : goal.returns
returns c = methods_counted
