use Rattle.vg_source_laws.proofs.MoreClock.{longer_session_trace, longer_session}
use Rattle.vg_source_laws.proofs.clock.more_clock.Goals as goal

pub returns-clause-trace : goal.returns-clause-trace
returns-clause-trace c = longer_session_trace

pub returns-clause-same : goal.returns-clause-same
returns-clause-same c = longer_session
