use Rattle.vg_recorded.proofs.Runs.{ends_starting, tells_itself}
use Rattle.vg_recorded.proofs.recording.starts_end.Goals as goal

pub returns : goal.returns
returns g c = λ r history p clock. ends_starting (λ h. h) r r (tells_itself r) history p clock
