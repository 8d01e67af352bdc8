use Rattle.vg_templates.proofs.Waking.{goes_handling, goes_back}
use Rattle.vg_templates.proofs.idling.handlers_run.Goals as goal

pub returns-clause-begin : goal.returns-clause-begin
returns-clause-begin c = λ e i idle is ok place k q at entry m pc ks kept frames wait own under v s stub call room behind code low cut points waits fits more
    some front a. goes_handling e _ i idle is ok place k q at entry m pc ks kept frames wait own under v s stub call room behind code low cut points waits
    fits more some front (λ full. full) a

pub returns-clause-back : goal.returns-clause-back
returns-clause-back c = λ e i idle is ok. goes_back e ⊥ i idle is ok
