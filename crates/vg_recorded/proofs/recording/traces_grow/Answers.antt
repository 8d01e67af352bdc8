use Rattle.vg_recorded.proofs.Runs.{grows_alone, grows_called, grows_code, grows_idling}
use Rattle.vg_recorded.proofs.recording.traces_grow.Goals as goal

pub returns-clause-calls : goal.returns-clause-calls
returns-clause-calls g c = λ r p t. grows_alone r p t

pub returns-clause-idle : goal.returns-clause-idle
returns-clause-idle g c = λ r p n. grows_idling r p n

pub returns-clause-code : goal.returns-clause-code
returns-clause-code g c = λ r p n code. grows_code r p n code

pub returns-clause-called : goal.returns-clause-called
returns-clause-called g c = λ r p n t count self. grows_called r p n t count self
