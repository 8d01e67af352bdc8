use Rattle.vg_lin.proofs.Followed.{follows_run}
use Rattle.vg_lin.proofs.following.runs_follow.Goals as goal

pub returns : goal.returns
returns g c = λ l procs bodies m call st first e. follows_run l procs bodies st m call first e
