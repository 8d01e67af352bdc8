use Rattle.vg_linear.proofs.Following.{follows}
use Rattle.vg_linear.proofs.laws.linear_programs_follow.Goals as goal

pub returns : goal.returns
returns c k cs f l tables ram handler codes stand is = follows k cs f l tables ram handler codes stand is
