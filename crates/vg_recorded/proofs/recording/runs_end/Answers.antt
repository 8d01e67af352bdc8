use Rattle.vg_recorded.proofs.Runs.{ends_running, tells_itself}
use Rattle.vg_recorded.proofs.recording.runs_end.Goals as goal

pub returns : goal.returns
returns g c = λ r history p heap deepest reads interrupts clock. ends_running (λ h. h) r r (tells_itself r) history p heap deepest reads interrupts clock
