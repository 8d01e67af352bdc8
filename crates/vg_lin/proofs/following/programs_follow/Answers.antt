use Rattle.vg_lin.proofs.Followed.{follows_sessions}
use Rattle.vg_lin.proofs.following.programs_follow.Goals as goal

pub returns : goal.returns
returns c = λ p bodies call st first e. follows_sessions p bodies call st first e
