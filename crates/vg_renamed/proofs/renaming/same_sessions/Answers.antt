use Rattle.vg_renamed.proofs.Calls.{same_started, same_session}
use Rattle.vg_renamed.proofs.renaming.same_sessions.Goals as goal

pub returns-clause-started : goal.returns-clause-started
returns-clause-started c = λ n p q named good clock. same_started n p q named good clock

pub returns-clause-session : goal.returns-clause-session
returns-clause-session c = λ n p q named good h typed deepest reads interrupts clock. same_session n p q named good h typed deepest reads interrupts clock
