use Rattle.std.proofs.Common.{◌≡◌, true}
use Rattle.vg_code_counts.proofs.Renamed.{counted_renamed, each_renamed}
use Rattle.vg_code_counts.proofs.laws.renamed_alike.Goals as goal

pub returns-clause-counted : goal.returns-clause-counted
returns-clause-counted g c = counted_renamed

pub returns-clause-steps : goal.returns-clause-steps
returns-clause-steps g c = λ f has code h. each_renamed f (λ q. has q ≡ true) code h
