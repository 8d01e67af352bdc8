use Rattle.vg_lin.proofs.Followed.{follows_code}
use Rattle.vg_lin.proofs.following.code_follows.Goals as goal

pub returns : goal.returns
returns g c = λ l procs go h m x y at f fs code goal st. follows_code l procs go h m x y at f fs code goal st
