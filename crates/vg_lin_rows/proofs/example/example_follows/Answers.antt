use Rattle.std.proofs.Common.{refl}
use Rattle.vg_lin.proofs.Followed.{follows_sessions}
use Rattle.vg_lin_rows.specs.Linear.{start_call, linear}
use Rattle.vg_lin_rows.specs.Standing.{bodies, all_stand, first_stands}
use Rattle.vg_lin_rows.proofs.example.example_follows.Goals as goal

pub returns : goal.returns
returns c = follows_sessions (linear 1) bodies start_call all_stand first_stands refl
