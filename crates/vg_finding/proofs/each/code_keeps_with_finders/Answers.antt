use Rattle.std.proofs.Common.{◌≡◌, true}
use Rattle.vg_finding.proofs.Instructions.{each_found}
use Rattle.vg_finding.proofs.each.code_keeps_with_finders.Goals as goal

pub returns : goal.returns
returns c = λ has. each_found (λ i. has i ≡ true)
