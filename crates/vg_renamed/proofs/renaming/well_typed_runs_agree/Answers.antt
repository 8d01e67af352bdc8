use Rattle.vg_renamed.proofs.Calls.{alike_starting, alike_running}
use Rattle.vg_renamed.proofs.renaming.well_typed_runs_agree.Goals as goal

pub returns-clause-starting : goal.returns-clause-starting
returns-clause-starting g c = λ n p q named good r history clock. alike_starting n p q named good r history clock

pub returns-clause-running : goal.returns-clause-running
returns-clause-running g c = λ n p q named good r h typed history deepest reads interrupts clock.
    alike_running n p q named good r h typed.0 typed.1 history deepest reads interrupts clock
