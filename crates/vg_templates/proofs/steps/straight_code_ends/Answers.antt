use Rattle.vg_templates.proofs.Reading.{ends_reads_device, ends_stops}
use Rattle.vg_templates.proofs.steps.straight_code_ends.Goals as goal

pub returns-clause-wants : goal.returns-clause-wants
returns-clause-wants c = λ e. ends_reads_device e ⊥

pub returns-clause-stop : goal.returns-clause-stop
returns-clause-stop c = λ e. ends_stops e ⊥
