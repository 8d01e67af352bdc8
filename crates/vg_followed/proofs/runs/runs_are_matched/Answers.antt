use Rattle.vg_followed.proofs.Matching.{comes_matched, goes_matched}
use Rattle.vg_followed.proofs.runs.runs_are_matched.Goals as goal

pub returns-clause-comes : goal.returns-clause-comes
returns-clause-comes c = λ e x p st n d s owes related. comes_matched e x p st _ n d s owes (λ j low full. (j, (low, full))) related

pub returns-clause-goes_on : goal.returns-clause-goes_on
returns-clause-goes_on c = λ e x p st n d s owes still related. goes_matched e x p st _ n d s owes (λ j low full. (j, (low, full))) still related
