use Rattle.vg_source_laws.proofs.SpentClock.{spent_starting, spent_running}
use Rattle.vg_source_laws.proofs.clock.spent_clock.Goals as goal

pub returns-clause-starting : goal.returns-clause-starting
returns-clause-starting g c = λ r history p clock. spent_starting r history p clock

pub returns-clause-running : goal.returns-clause-running
returns-clause-running g c = λ r history p heap deepest reads interrupts clock. spent_running r history p heap deepest reads interrupts clock
