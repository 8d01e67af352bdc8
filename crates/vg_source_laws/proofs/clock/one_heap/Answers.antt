use Rattle.vg_source_laws.proofs.MoreClock.{longer_started, one_heap}
use Rattle.vg_source_laws.proofs.clock.one_heap.Goals as goal

pub returns-clause-more : goal.returns-clause-more
returns-clause-more c = longer_started

pub returns-clause-same : goal.returns-clause-same
returns-clause-same c = one_heap
