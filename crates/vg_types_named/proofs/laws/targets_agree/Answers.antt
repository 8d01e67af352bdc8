use Rattle.std.proofs.Common.{◌∙◌}
use Rattle.vg_types_named.proofs.Signed.{targets, signed}
use Rattle.vg_types_named.proofs.laws.targets_agree.Goals as goal

pub returns-clause-targets : goal.returns-clause-targets
returns-clause-targets c texts ds d k l = l.targets ∙ targets texts ds l.types l.heads l.homes d k l.left

pub returns-clause-signatures : goal.returns-clause-signatures
returns-clause-signatures c texts ds d k l = signed texts ds l.types l.heads l.homes d k l.left
