use Rattle.vg_types_tables.proofs.Typed.{more_locals, leads_more, puts_more, runs_more}
use Rattle.vg_types_tables.proofs.code_laws.more_locals.Goals as goal

pub returns-clause-fits : goal.returns-clause-fits
returns-clause-fits c = λ p ts more o r looped code x y h. more_locals p ts more o r looped code x y h

pub returns-clause-leads : goal.returns-clause-leads
returns-clause-leads c = λ p k old new more h g code grown f. leads_more p k old new more grown h g code f

pub returns-clause-puts : goal.returns-clause-puts
returns-clause-puts c = λ p k old new more code t grown f. puts_more p k old new more grown code t f

pub returns-clause-runs : goal.returns-clause-runs
returns-clause-runs c = λ p k old new more code grown f. runs_more p k old new more grown code f
