use Rattle.vg_templates.proofs.Waking.{ends_waiting, goes_passing}
use Rattle.vg_templates.proofs.idling.waiting_ends.Goals as goal

pub returns-clause-idle : goal.returns-clause-idle
returns-clause-idle c = λ e i idle is place v s call room none a. ends_waiting e _ i idle is place v s call room none (λ full. full) a

pub returns-clause-pass : goal.returns-clause-pass
returns-clause-pass c = λ e i idle is place k ks v s call room reti some front a.
    goes_passing e _ i idle is place k ks v s call room reti some front (λ full. full) a
