use Rattle.vg_endings.proofs.Sessions.{session_ends, session_is_not_deep}
use Rattle.vg_endings.proofs.endings.each_session_ends.Goals as goal

pub returns-clause-ends : goal.returns-clause-ends
returns-clause-ends c = λ n p q named good clock heap e deepest reads interrupts ticks. session_ends n p q named good clock heap e deepest reads interrupts ticks

pub returns-clause-not_deep : goal.returns-clause-not_deep
returns-clause-not_deep c = λ n p q named good clock heap e reads interrupts ticks. session_is_not_deep n p q named good clock heap e reads interrupts ticks
