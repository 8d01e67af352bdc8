use Rattle.vg_followed.proofs.Matching.{matched}
use Rattle.vg_followed.proofs.steps.steps_are_matched.Goals as goal

pub returns : goal.returns
returns c = λ e x p st d s going owes related. matched e x p st _ d s going owes (λ full. full) related
