use Rattle.vg_lin.proofs.Followed.{follows_called}
use Rattle.vg_lin.proofs.following.calls_follow.Goals as goal

pub returns : goal.returns
returns g c = λ l procs bodies st n. follows_called l procs bodies st n
