use Rattle.avr_bytes.proofs.Runs.{reset-bytes, run-bytes}
use Rattle.avr_bytes.proofs.keeping.runs_keep_bytes.Goals as goal

pub returns-clause-reset : goal.returns-clause-reset
returns-clause-reset c = reset-bytes

pub returns-clause-runs : goal.returns-clause-runs
returns-clause-runs c = λ flash n s f p. run-bytes flash f n s p
