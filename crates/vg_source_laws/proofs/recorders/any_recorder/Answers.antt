use Rattle.vg_source_laws.proofs.Histories.{told_starting, told_running}
use Rattle.vg_source_laws.proofs.recorders.any_recorder.Goals as goal

pub returns-clause-starting : goal.returns-clause-starting
returns-clause-starting g c = λ f r q tells history p clock. told_starting f r q tells history p clock

pub returns-clause-running : goal.returns-clause-running
returns-clause-running g c = λ f r q tells history p heap deepest reads interrupts clock. told_running f r q tells history p heap deepest reads interrupts clock
